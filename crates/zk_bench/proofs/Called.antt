-- Which request stands in a payload: a record is read in one way, so the request that was read is the one that was asked, kind by kind.
use Rattle.std.proofs.Common.{ℕ, ℤ, pos, ◌≡◌, refl, sym, ap, subst, ◌∙◌, Bool, List, [], length, None, Some, Option, take, drop}
use Rattle.std.specs.Prelude.{◌≤◌, ⊤, option_map, unwrap_or}
use Rattle.zk_jute.specs.Layout.{Value}
use Rattle.zk_nodes.specs.Path.{Text}
use Rattle.zk_nodes.specs.PathFault.{IsPath}
use Rattle.zk_records.specs.declared.operation.Operation.{Operation}
use Rattle.zk_records.specs.declared.operation.Operation.TheVariants as operation
use Rattle.zk_records.specs.declared.request.Request.{Request}
use Rattle.zk_records.specs.declared.request.Request.TheVariants as requests
use Rattle.zk_records.specs.declared.create_request.CreateRequest.{CreateRequest}
use Rattle.zk_records.specs.declared.set_data_request.SetDataRequest.{SetDataRequest}
use Rattle.zk_records.specs.declared.delete_request.DeleteRequest.{DeleteRequest}
use Rattle.zk_records.specs.Operations.{operation_number, body_layout, request_layout}
use Rattle.zk_records.specs.Asked.{Asked, asked_of, asked_value}
use Rattle.zk_records.specs.Request.{operation_of, body_of}
use Rattle.zk_conversation.specs.Calls as call
use Rattle.zk_conversation.specs.declared.raw.RawOperation.{RawOperation}
use Rattle.zk_conversation.specs.Calls.{Call, Wording, Spelled, Given, wording, texts_value}
use Rattle.zk_watches.specs.Lists.{Lists}
use Rattle.zk_turns.specs.Ranges.{IsTyped, IsPathCall}
use Rattle.zk_turns.specs.Spelled.{ReadsAs}
use Rattle.zk_laws.specs.Messages as wanted
use Rattle.zk_laws.specs.Parsed.{IsRecord, IsReadAs}
use Rattle.zk_laws.specs.ServerSteps.{Serving}
use Rattle.theory_serving.specs.Wires.{IsFit, IsFor}
use Rattle.zk_bench.specs.inner.Answering.{IsRead, IsReadOf, IsRestoring}
use Rattle.zk_bench.specs.inner.Asking.{Wants, IsBodyOf, IsPartOf, Asks, IsLook}
use Rattle.zk_laws.specs.Server.{is_sequential}
use Rattle.zk_bench.specs.Served.{Served}
use Rattle.zk_bench.specs.Answerable.{IsAnswerable}
use Rattle.zk_bench.specs.inner.Writing.{mode_of}
use Rattle.zk_bench.proofs.Written.{mode_of-low}
use Rattle.zk_bench.proofs.Answered.{no_copy}

-- what is asked, as it is read: with its xid, its operation and its record
pub record Told (asked : wanted.Request) (xid : ℤ) (payload : List ℕ) : Type 0 where
  pub named : Operation
  pub body : Value (body_layout named)
  pub read : IsRecord (request_layout named) (xid, (operation_number named, body)) payload
  pub wants : Wants named body asked

-- a request that the server knows: no call that its caller has spelled
abbrev IsKnown : wanted.Request → Type 0
IsKnown (wanted.Ask (call.Raw operation given)) = ⊥
IsKnown asked = ⊤

-- the record that is spelled is that of the call
abbrev IsWorded : Wording → Call → Type 0
IsWorded (Spelled operation body) asked = IsBodyOf operation body asked
IsWorded (Given operation given) asked = ⊥

worded : (asked : Call) → IsKnown (wanted.Ask asked) → IsTyped asked → IsPathCall asked → IsWorded (wording asked) asked
worded (call.Exists text watch) known typed is = (is, refl, refl)
worded (call.GetData text watch) known typed is = (is, refl, refl)
worded (call.GetChildren text watch) known typed is = (is, refl, refl)
worded (call.SetData text content version) known typed is = (is, refl, refl, refl)
worded (call.Create text content mode) known typed is = (is, refl, refl, refl, typed.1)
worded (call.Delete text version) known typed is = (is, refl, refl)
worded call.Close known typed is = tt
worded (call.Raw operation given) known typed is = absurd known

told_call : (asked : Call) (xid : ℤ) (payload : List ℕ) (w : Wording)
    → ReadsAs xid w (length payload) payload [] → IsWorded w asked → Told (wanted.Ask asked) xid payload
told_call asked xid payload (Spelled operation body) read is = record { named = operation; body = body; read = read; wants = is }
told_call asked xid payload (Given operation given) read is = absurd is

-- a request but the first of a connection is told so
pub told_so : (asked : wanted.Request) (xid : ℤ) (payload : List ℕ) → ((seen : ℕ) → asked ≡ wanted.Connect seen → ⊥)
    → IsKnown asked → IsReadAs asked xid payload → IsFit asked payload → Told asked xid payload
told_so (wanted.Connect seen) xid payload later known read fit = absurd (later seen refl)
told_so (wanted.Restore is_last relative part) xid payload later known read fit = record {
  named = operation.SetWatches;
  body = (pos relative, (texts_value part.data_watches, (texts_value part.exist_watches, texts_value part.child_watches)));
  read = read;
  wants = (refl, refl, refl, refl, record { data_watches = fit.0; exist_watches = fit.1; child_watches = fit.2 });
}
told_so (wanted.Ask asked) xid payload later known read fit =
    told_call asked xid payload (wording asked) read (worded asked known fit.0 fit.1)
told_so wanted.Ping xid payload later known read fit = record { named = operation.Ping; body = tt; read = read; wants = tt }

-- the request that is read asks for it
pub asks_so : {A : Type 0} (asked : wanted.Request) (xid found : ℤ) (payload : List ℕ) (t : Told asked xid payload) (request : Request A)
    → asked_of found request ≡ record { xid = xid; operation = t.named; body = t.body } → Asks request asked
asks_so {A} asked xid found payload t request is = subst (λ (a : Asked). Wants a.operation a.body asked) (sym is) t.wants

-- Reads and parts of setWatches, as the functions that answer them ask

-- a read is the read of a request
read_asked : {A : Type 0} (request : Request A) (asked : Call)
    → IsRead asked → IsBodyOf (operation_of request) (body_of request) asked → IsReadOf request asked
read_asked (requests.Exists r) (call.Exists text watch) look is = is
read_asked (requests.GetData r) (call.GetData text watch) look is = is
read_asked (requests.GetChildren2 r) (call.GetChildren text watch) look is = is
read_asked request (call.SetData text content version) look is = absurd look
read_asked request (call.Create text content mode) look is = absurd look
read_asked request (call.Delete text version) look is = absurd look
read_asked request call.Close look is = absurd look
read_asked request (call.Raw operation given) look is = absurd look
read_asked request asked look is = absurd is

-- a part of setWatches is that of a request
part_asked : {A : Type 0} (request : Request A) (since : ℕ) (part : Lists)
    → IsPartOf (operation_of request) (body_of request) since part → IsRestoring request since part
part_asked (requests.SetWatches r) since part is = (
  record {
    relative = is.0;
    data_watches = sym (no_copy r.data_watches.elements) ∙ is.1;
    exist_watches = sym (no_copy r.exist_watches.elements) ∙ is.2;
    child_watches = sym (no_copy r.child_watches.elements) ∙ is.3;
  },
  is.4,
)
part_asked request since part is = absurd is

-- what holds of reads and of parts of setWatches holds of a look
pub looks : {A : Type 0} (P : wanted.Request → Type 0) (request : Request A) (asked : wanted.Request)
    → IsLook asked → Asks request asked → ((one : Call) → IsRead one → IsReadOf request one → P (wanted.Ask one))
    → ((is_last : Bool) (since : ℕ) (part : Lists) → IsRestoring request since part → P (wanted.Restore is_last since part)) → P asked
looks P request (wanted.Connect seen) look asks reads parts = absurd look
looks P request (wanted.Restore is_last since part) look asks reads parts = parts is_last since part (part_asked request since part asks)
looks P request (wanted.Ask one) look asks reads parts = reads one look (read_asked request one look asks)
looks P request wanted.Ping look asks reads parts = absurd look

-- Writes, as the functions that answer them ask

pub creates_asked : {A : Type 0} (P : wanted.Request → Type 0) (r : CreateRequest A) (asked : wanted.Request)
    → Asks (requests.Create r) asked → ((text : Text) (number : ℕ)
    → IsPath text → r.path ≡ Some text → r.flags ≡ pos number → number ≤ 3 → P (wanted.Ask (call.Create text r.bytes number))) → P asked
creates_asked P r (wanted.Ask (call.Create text content mode)) asks f =
    subst (λ (o : Option (List ℕ)). P (wanted.Ask (call.Create text o mode))) asks.2 (f text mode asks.0 asks.1 asks.3 asks.4)
creates_asked P r asked asks f = absurd asks

pub sets_asked : {A : Type 0} (P : wanted.Request → Type 0) (r : SetDataRequest A) (asked : wanted.Request)
    → Asks (requests.SetData r) asked
    → ((text : Text) → IsPath text → r.path ≡ Some text → P (wanted.Ask (call.SetData text r.bytes r.version))) → P asked
sets_asked P r (wanted.Ask (call.SetData text content version)) asks f =
    subst (λ (o : Option (List ℕ)). P (wanted.Ask (call.SetData text o version))) asks.2
    (subst (λ (v : ℤ). P (wanted.Ask (call.SetData text r.bytes v))) asks.3 (f text asks.0 asks.1))
sets_asked P r asked asks f = absurd asks

pub deletes_asked : {A : Type 0} (P : wanted.Request → Type 0) (r : DeleteRequest A) (asked : wanted.Request)
    → Asks (requests.Delete r) asked
    → ((text : Text) → IsPath text → r.path ≡ Some text → P (wanted.Ask (call.Delete text r.version))) → P asked
deletes_asked P r (wanted.Ask (call.Delete text version)) asks f =
    subst (λ (v : ℤ). P (wanted.Ask (call.Delete text v))) asks.2 (f text asks.0 asks.1)
deletes_asked P r asked asks f = absurd asks

-- the mode of these flags is sequential where the call's is
pub mode_is : (flags : ℤ) (number : ℕ) (ephemeral sequential : Bool)
    → number ≤ 3 → flags ≡ pos number → mode_of flags ≡ Some (ephemeral, sequential) → is_sequential number ≡ sequential
mode_is flags number ephemeral sequential low is told =
    let same : Some (is_sequential number) ≡ Some sequential =
    sym (mode_of-low number low) ∙ ap (λ (z : ℤ). option_map (λ (mode : Bool × Bool). mode.1) (mode_of z)) (sym is)
    ∙ ap (option_map (λ (mode : Bool × Bool). mode.1)) told in
    ap (λ (o : Option Bool). unwrap_or o sequential) same

-- a mode from 0 to 3 is there
pub mode_there : (flags : ℤ) (number : ℕ) → number ≤ 3 → flags ≡ pos number → None ≡ mode_of flags → ⊥
mode_there flags number low is none =
    let told : option_map (λ (mode : Bool × Bool). mode.1) None ≡ Some (is_sequential number) =
    ap (option_map (λ (mode : Bool × Bool). mode.1)) (none ∙ ap mode_of is) ∙ mode_of-low number low in
    absurd cc

-- No record is that of a call that its caller has spelled.
no_body : (named : Operation) (body : Value (body_layout named)) (given : RawOperation) (bytes : List ℕ)
    → IsBodyOf named body (call.Raw given bytes) → ⊥
no_body operation.Create body given bytes is = is
no_body operation.Delete body given bytes is = is
no_body operation.Exists body given bytes is = is
no_body operation.GetData body given bytes is = is
no_body operation.SetData body given bytes is = is
no_body operation.GetChildren body given bytes is = is
no_body operation.Ping body given bytes is = is
no_body operation.GetChildren2 body given bytes is = is
no_body operation.SetWatches body given bytes is = is
no_body operation.CloseSession body given bytes is = is

-- What is no write, no ping and no end of a session is a look.
pub look_if : {A : Type 0} (request : Request A) (asked : wanted.Request) → Asks request asked
    → ((r : CreateRequest A) → request ≡ requests.Create r → ⊥) → ((r : SetDataRequest A) → request ≡ requests.SetData r → ⊥)
    → ((r : DeleteRequest A) → request ≡ requests.Delete r → ⊥) → (request ≡ requests.Ping → ⊥)
    → (request ≡ requests.CloseSession → ⊥) → IsLook asked
look_if request (wanted.Restore is_last since part) asks a b d p q = tt
look_if requests.Ping wanted.Ping asks a b d p q = absurd (p refl)
look_if request (wanted.Ask (call.Exists text watch)) asks a b d p q = tt
look_if request (wanted.Ask (call.GetData text watch)) asks a b d p q = tt
look_if request (wanted.Ask (call.GetChildren text watch)) asks a b d p q = tt
look_if (requests.SetData r) (wanted.Ask (call.SetData text content version)) asks a b d p q = absurd (b r refl)
look_if (requests.Create r) (wanted.Ask (call.Create text content mode)) asks a b d p q = absurd (a r refl)
look_if (requests.Delete r) (wanted.Ask (call.Delete text version)) asks a b d p q = absurd (d r refl)
look_if requests.CloseSession (wanted.Ask call.Close) asks a b d p q = absurd (q refl)
look_if request (wanted.Ask (call.Raw given bytes)) asks a b d p q =
    absurd (no_body (operation_of request) (body_of request) given bytes asks)
look_if request asked asks a b d p q = absurd asks

-- A request for a ping asks for nothing else.
pub pings_asked : (P : wanted.Request → Type 0) (asked : wanted.Request) → Wants operation.Ping tt asked → P wanted.Ping → P asked
pings_asked P wanted.Ping asks p = p
pings_asked P asked asks p = absurd asks

-- The request that is read asks for what was asked, under its xid.
found_so : {A : Type 0} (asked : wanted.Request) (xid found : ℤ) (payload : List ℕ) (request : Request A)
    → IsFor asked Serving → IsKnown asked → IsReadAs asked xid payload → IsFit asked payload
    → ((a : Asked) → IsRecord (request_layout a.operation) (asked_value a) payload → asked_of found request ≡ a)
    → Asks request asked × (found ≡ xid)
found_so asked xid found payload request later known read fit is =
    let t = told_so asked xid payload (λ seen e. subst (λ (a : wanted.Request). IsFor a Serving) e later refl) known read fit in
    let same = is (record { xid = xid; operation = t.named; body = t.body }) t.read in
    (asks_so asked xid found payload t request same, ap (λ (a : Asked). a.xid) same)

-- One that is answerable is known,
pub known_answerable : (asked : wanted.Request) (served : Served) → IsAnswerable asked served → IsKnown asked
known_answerable (wanted.Ask (call.Raw operation given)) served is = is
known_answerable asked served is = tt

-- and so is one that is read, where no call is read that its caller has spelled.
known_read : (asked : wanted.Request) (xid : ℤ) (payload : List ℕ) → IsReadAs asked xid payload
    → ((operation : RawOperation) (given : List ℕ) (x : ℤ) → IsReadAs (wanted.Ask (call.Raw operation given)) x payload → ⊥)
    → IsKnown asked
known_read (wanted.Ask (call.Raw operation given)) xid payload read never = never operation given xid read
known_read asked xid payload read never = tt

-- What is read of a request that is known has no other fault than want of memory.
pub read_front : (b old : Served) (count : ℕ) (bytes : List ℕ) (asked : wanted.Request) (xid : ℤ) (P : Type 0)
    → b ≡ old → bytes ≡ b.connection.requests → IsFor asked Serving → IsKnown asked
    → IsReadAs asked xid (take count (drop 4 old.connection.requests)) → IsFit asked (take count (drop 4 old.connection.requests))
    → ((a : Asked) → IsRecord (request_layout a.operation) (asked_value a) (take count (drop 4 bytes)) → P) → P
read_front b old count bytes asked xid P same field later known is fit gives =
    let at : old.connection.requests ≡ bytes = ap (λ (s : Served). s.connection.requests) (sym same) ∙ sym field in
    let t = told_so asked xid (take count (drop 4 old.connection.requests))
    (λ seen e. subst (λ (a : wanted.Request). IsFor a Serving) e later refl) known is fit in
    gives (record { xid = xid; operation = t.named; body = t.body })
    (subst
    (λ (bs : List ℕ). IsRecord (request_layout t.named) (xid, (operation_number t.named, t.body)) (take count (drop 4 bs))) at t.read)

-- and so does the one that is read from the front of a bench
pub found_front : {A : Type 0} (b old : Served) (count : ℕ) (bytes : List ℕ) (asked : wanted.Request) (xid read found : ℤ)
    (request : Request A) → b ≡ old → bytes ≡ b.connection.requests → read ≡ found → IsFor asked Serving
    → IsReadAs asked xid (take count (drop 4 old.connection.requests)) → IsFit asked (take count (drop 4 old.connection.requests))
    → ((a : Asked) → IsRecord (request_layout a.operation) (asked_value a) (take count (drop 4 bytes)) → asked_of found request ≡ a)
    → ((operation : RawOperation) (given : List ℕ) (x : ℤ)
    → IsReadAs (wanted.Ask (call.Raw operation given)) x (take count (drop 4 bytes)) → ⊥)
    → Asks request asked × (read ≡ xid)
found_front b old count bytes asked xid read found request same field ranged later is fit gives never =
    let at : old.connection.requests ≡ bytes = ap (λ (s : Served). s.connection.requests) (sym same) ∙ sym field in
    let known = known_read asked xid (take count (drop 4 old.connection.requests)) is
    (λ operation given x raw. never operation given x
    (subst (λ (bs : List ℕ). IsReadAs (wanted.Ask (call.Raw operation given)) x (take count (drop 4 bs))) at raw)) in
    let told = found_so asked xid found (take count (drop 4 old.connection.requests)) request later known is fit
    (λ a whole.
    gives a (subst (λ (bs : List ℕ). IsRecord (request_layout a.operation) (asked_value a) (take count (drop 4 bs))) at whole)) in
    (told.0, ranged ∙ told.1)

-- What is said of a call that its caller has spelled, in the bytes of the payload that stands at the front of a bench.
pub raw_front : (b old : Served) (count : ℕ) (bytes : List ℕ) (operation : RawOperation) (given : List ℕ) (xid : ℤ)
    → b ≡ old → bytes ≡ b.connection.requests
    → IsReadAs (wanted.Ask (call.Raw operation given)) xid (take count (drop 4 old.connection.requests))
    → IsReadAs (wanted.Ask (call.Raw operation given)) xid (take count (drop 4 bytes))
raw_front b old count bytes operation given xid same field raw =
    subst (λ (bs : List ℕ). IsReadAs (wanted.Ask (call.Raw operation given)) xid (take count (drop 4 bs)))
    (ap (λ (s : Served). s.connection.requests) (sym same) ∙ sym field) raw
