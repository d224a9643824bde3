-- How long the requests are, and that they fit their layouts: a call by its kind, and a part by induction on the watches that are put into
-- it.
use Rattle.std.proofs.Common.{◌≡◌, ℕ, ℤ, pos, ◌+◌, ◌<◌, ◌≤◌, ◌^◌, Bool, true, false, cond, List, [], ◌∷◌, ◌++◌, map, length, Some, None}
use Rattle.std.proofs.Common.{refl, sym, subst, arith, append-nil, leb-true}
use Rattle.std.specs.Prelude.{FitsSigned, nat_le, codes, ⊤}
use Rattle.std.specs.List.{AllByRecursion}
use Rattle.std.specs.Int.{w32, w64}
use Rattle.std.specs.Str.{is_utf8}
use Rattle.std.proofs.lemmas.Str.{is_utf8-from_IsUtf8}
use Rattle.zk_jute.specs.Layout.{ustring, vector}
use Rattle.zk_jute.specs.Spelling.{Fits}
use Rattle.zk_nodes.specs.Path.{Text}
use Rattle.zk_records.specs.Layouts.{connect_request, acl}
use Rattle.zk_records.specs.OpenAcl.{open_acl}
use Rattle.zk_records.specs.Operations.{operation_number, request_layout}
use Rattle.zk_records.specs.declared.operation.Operation.TheVariants.{Ping, SetWatches}
use Rattle.zk_conversation.specs.Calls.{Call, Exists, GetData, GetChildren, SetData, Create, Delete, Close, Raw, wording, raw_number}
use Rattle.zk_conversation.specs.declared.raw.RawOperation.{RawOperation}
use Rattle.zk_conversation.specs.declared.raw.RawOperation.TheVariants as raw
use Rattle.zk_conversation.specs.Calls.{call_payload, ping_xid, part_xid, texts_value}
use Rattle.zk_conversation.proofs.Lengths.{weights, length-exists, length-get_data, length-get_children, length-set_data, length-create}
use Rattle.zk_conversation.proofs.Lengths.{length-delete}
use Rattle.zk_conversation.specs.Questions.{question_of}
use Rattle.zk_watches.specs.Lists.{Lists, no_lists}
use Rattle.zk_watches.specs.Parts.{Watch, OnData, OnExist, OnChild, path_of, watches_of, weight_of, put_first, into_first, rest_of_parts}
use Rattle.zk_watches.specs.Parts.{parts_of_watches, parts}
use Rattle.zk_turns.specs.Past.{path_of_read}
use Rattle.zk_turns.specs.Ranges.{IsTyped}
use Rattle.zk_turns.specs.Spelled.{WordingFits}
use Rattle.zk_frames.specs.declared.limits.TheConstants.{HIGHEST_LIMIT}
use Rattle.zk_limits.specs.declared.limits.TheConstants.{MOST_WEIGHT}

-- ---- calls

world_fits : Fits (vector acl) open_acl
unfolding lib.Utf8.encode
world_fits =
    let world = is_utf8-from_IsUtf8 (codes "world") (codes "world", (refl, refl)) in
    let anyone = is_utf8-from_IsUtf8 (codes "anyone") (codes "anyone", (refl, refl)) in
    (omega arith, ((record { sfits = omega arith }, ((omega arith, world), (omega arith, anyone))), tt))

raw_fits : (operation : RawOperation) → FitsSigned w32 (raw_number operation)
raw_fits raw.GetAcl = record { sfits = omega arith }
raw_fits raw.SetAcl = record { sfits = omega arith }
raw_fits raw.Sync = record { sfits = omega arith }
raw_fits raw.Multi = record { sfits = omega arith }
raw_fits raw.Create2 = record { sfits = omega arith }
raw_fits raw.CreateContainer = record { sfits = omega arith }
raw_fits raw.CreateTtl = record { sfits = omega arith }
raw_fits raw.MultiRead = record { sfits = omega arith }
raw_fits raw.GetEphemerals = record { sfits = omega arith }
raw_fits raw.GetAllChildrenNumber = record { sfits = omega arith }
raw_fits raw.WhoAmI = record { sfits = omega arith }

-- A call that is not too long, of values of their types, fits.
pub call_fits : (xid : ℕ) (call : Call) → xid < 2 ^ 31 → IsTyped call → length (call_payload (pos xid) call) ≤ HIGHEST_LIMIT
    → WordingFits (pos xid) (wording call)
call_fits xid (Exists path watch) x t l = let n = length-exists (pos xid) path watch in
    (record { sfits = x }, (record { sfits = omega arith }, ((omega arith, t), tt)))
call_fits xid (GetData path watch) x t l = let n = length-get_data (pos xid) path watch in
    (record { sfits = x }, (record { sfits = omega arith }, ((omega arith, t), tt)))
call_fits xid (GetChildren path watch) x t l = let n = length-get_children (pos xid) path watch in
    (record { sfits = x }, (record { sfits = omega arith }, ((omega arith, t), tt)))
call_fits xid (SetData path None version) x t l =
    let n = length-set_data (pos xid) path None version in
    (record { sfits = x }, (record { sfits = omega arith }, ((omega arith, t.0), (tt, t.1))))
call_fits xid (SetData path (Some bytes) version) x t l =
    let n = length-set_data (pos xid) path (Some bytes) version in
    (record { sfits = x }, (record { sfits = omega arith }, ((omega arith, t.0), (omega arith, t.1))))
call_fits xid (Create path None mode) x t l =
    let n = length-create (pos xid) path None mode in let m = t.1 in
    (record { sfits = x }, (record { sfits = omega arith }, ((omega arith, t.0), (tt, (world_fits, record { sfits = omega arith })))))
call_fits xid (Create path (Some bytes) mode) x t l =
    let n = length-create (pos xid) path (Some bytes) mode in let m = t.1 in (
      record { sfits = x },
      (record { sfits = omega arith }, ((omega arith, t.0), (omega arith, (world_fits, record { sfits = omega arith })))),
    )
call_fits xid (Delete path version) x t l = let n = length-delete (pos xid) path version in
    (record { sfits = x }, (record { sfits = omega arith }, ((omega arith, t.0), t.1)))
call_fits xid Close x t l = (record { sfits = x }, (record { sfits = omega arith }, tt))
call_fits xid (Raw operation bytes) x t l = (record { sfits = x }, raw_fits operation)

pub ping_fits : Fits (request_layout Ping) (ping_xid, (operation_number Ping, tt))
ping_fits = (record { sfits = omega arith }, (record { sfits = omega arith }, tt))

pub connect_fits : (last : ℤ) (timeout : ℕ) (session : ℤ) (password : List ℕ)
    → FitsSigned w64 last → timeout < 2 ^ 31 → FitsSigned w64 session → length password < 2 ^ 31
    → Fits connect_request (pos 0, (last, (pos timeout, (session, (Some password, false)))))
connect_fits last timeout session password l t s p = (record { sfits = omega arith }, (l, (record { sfits = t }, (s, (p, tt)))))

-- ---- paths

-- a path that a request can have, with what else is known of it
abbrev pub IsShort : (Text → Type 0) → Text → Type 0
IsShort Q path = (4 + length path ≤ HIGHEST_LIMIT) × Q path

-- the path of a read that is not too long
pub read_short : (Q : Text → Type 0) (xid : ℤ) (call : Call) → length (call_payload xid call) ≤ HIGHEST_LIMIT
    → AllByRecursion Q (path_of_read (question_of call)) → AllByRecursion (IsShort Q) (path_of_read (question_of call))
read_short Q xid (Exists path watch) l q = let n = length-exists xid path watch in ((omega arith, q.0), tt)
read_short Q xid (GetData path watch) l q = let n = length-get_data xid path watch in ((omega arith, q.0), tt)
read_short Q xid (GetChildren path watch) l q = let n = length-get_children xid path watch in ((omega arith, q.0), tt)
read_short Q xid (SetData path bytes version) l q = tt
read_short Q xid (Create path bytes mode) l q = tt
read_short Q xid (Delete path version) l q = tt
read_short Q xid Close l q = tt
read_short Q xid (Raw operation bytes) l q = tt

pub typed_paths : (call : Call) → IsTyped call → AllByRecursion (λ path. is_utf8 path ≡ true) (path_of_read (question_of call))
typed_paths (Exists path watch) t = (t, tt)
typed_paths (GetData path watch) t = (t, tt)
typed_paths (GetChildren path watch) t = (t, tt)
typed_paths (SetData path bytes version) t = tt
typed_paths (Create path bytes mode) t = tt
typed_paths (Delete path version) t = tt
typed_paths Close t = tt
typed_paths (Raw operation bytes) t = tt

all_any : (paths : List Text) → AllByRecursion (λ path. ⊤) paths
all_any [] = tt
all_any (path ∷ paths) = (tt, all_any paths)

pub any_paths : (call : Call) → ⊤ → AllByRecursion (λ path. ⊤) (path_of_read (question_of call))
any_paths call t = all_any (path_of_read (question_of call))

-- ---- parts

abbrev pub part_weight : Lists → ℕ
part_weight part = weights part.data_watches + (weights part.exist_watches + weights part.child_watches)

-- a part whose payload a frame can tell, and each of whose paths is short
pub record IsSmall (Q : Text → Type 0) (part : Lists) : Type 0 where
  pub light : part_weight part ≤ HIGHEST_LIMIT
  pub known : AllByRecursion (IsShort Q) part.data_watches
  pub missing : AllByRecursion (IsShort Q) part.exist_watches
  pub parents : AllByRecursion (IsShort Q) part.child_watches

module _ (Q : Text → Type 0) where
  abbrev OfShort : Watch → Type 0
  OfShort watch = IsShort Q (path_of watch)

  -- a part to which this much is still to come, and those after it
  abbrev AreSmall : ℕ → List Lists → Type 0
  AreSmall n [] = Unit {0}
  AreSmall n (part ∷ more) = (n + part_weight part ≤ HIGHEST_LIMIT) × IsSmall Q part × AllByRecursion (IsSmall Q) more

  put_weight : (watch : Watch) (part : Lists) → part_weight (put_first watch part) ≡ weight_of watch + part_weight part
  put_weight (OnData path) part = omega arith
  put_weight (OnExist path) part = omega arith
  put_weight (OnChild path) part = omega arith

  put_small : (watch : Watch) (part : Lists)
      → OfShort watch → weight_of watch + part_weight part ≤ HIGHEST_LIMIT → IsSmall Q part → IsSmall Q (put_first watch part)
  put_small (OnData path) part q l s = let w = put_weight (OnData path) part in
      record { light = omega arith; known = (q, s.known); missing = s.missing; parents = s.parents }
  put_small (OnExist path) part q l s = let w = put_weight (OnExist path) part in
      record { light = omega arith; known = s.known; missing = (q, s.missing); parents = s.parents }
  put_small (OnChild path) part q l s = let w = put_weight (OnChild path) part in
      record { light = omega arith; known = s.known; missing = s.missing; parents = (q, s.parents) }

  none_small : IsSmall Q no_lists
  none_small = record { light = omega arith; known = tt; missing = tt; parents = tt }

  into_small : (watch : Watch) (n m : ℕ) (ps : List Lists)
      → OfShort watch → n + weight_of watch ≤ m → m ≤ HIGHEST_LIMIT → AreSmall m ps → AreSmall n (into_first watch ps)
  into_small watch n m [] q k l s =
      let w = put_weight watch no_lists in
      let z : weight_of watch + part_weight no_lists ≤ HIGHEST_LIMIT = omega arith in
      (omega arith, put_small watch no_lists q z none_small, tt)
  into_small watch n m (part ∷ more) q k l s =
      let w = put_weight watch part in
      let h = s.0 in
      let z : weight_of watch + part_weight part ≤ HIGHEST_LIMIT = omega arith in
      (omega arith, put_small watch part q z s.1, s.2)

  all_small : (n : ℕ) (ps : List Lists) → AreSmall n ps → AllByRecursion (IsSmall Q) ps
  all_small n [] s = tt
  all_small n (part ∷ more) s = (s.1, s.2)

  rest_small : (n : ℕ) (watches : List Watch) → n ≤ HIGHEST_LIMIT → AllByRecursion OfShort watches → AreSmall n (rest_of_parts n watches)
  rest_small n [] l all = (omega arith, none_small, tt)
  rest_small n (watch ∷ watches) l all = by (nat_le (n + weight_of watch) MOST_WEIGHT) refl (λ m. λ k. rest_small m watches k all.1)
    where
      by : (b : Bool) → nat_le (n + weight_of watch) MOST_WEIGHT ≡ b
          → ((m : ℕ) → m ≤ HIGHEST_LIMIT → AreSmall m (rest_of_parts m watches))
          → AreSmall n (cond b (into_first watch (rest_of_parts (n + weight_of watch) watches))
          (no_lists ∷ into_first watch (rest_of_parts (weight_of watch) watches)))
      by true e ih =
          let le = leb-true (n + weight_of watch) MOST_WEIGHT e in
          let within : n + weight_of watch ≤ HIGHEST_LIMIT = omega arith in
          into_small watch n (n + weight_of watch) (rest_of_parts (n + weight_of watch) watches) all.0 (omega arith) within
          (ih (n + weight_of watch) within)
      by false e ih =
          let first = all.0.0 in
          let within : weight_of watch ≤ HIGHEST_LIMIT = omega arith in (
            omega arith,
            none_small,
            all_small 0 (into_first watch (rest_of_parts (weight_of watch) watches)) (into_small watch 0
                (weight_of watch) (rest_of_parts (weight_of watch) watches) all.0 (omega arith) within (ih (weight_of watch) within)),
          )

  cut_small : (watches : List Watch) → AllByRecursion OfShort watches → AllByRecursion (IsSmall Q) (parts_of_watches watches)
  cut_small [] all = tt
  cut_small (watch ∷ watches) all =
      let first = all.0.0 in
      let within : weight_of watch ≤ HIGHEST_LIMIT = omega arith in
      all_small 0 (into_first watch (rest_of_parts (weight_of watch) watches)) (into_small watch 0 (weight_of watch)
      (rest_of_parts (weight_of watch) watches) all.0 (omega arith) within (rest_small (weight_of watch) watches within all.1))

  tagged : (tag : Text → Watch) → ((path : Text) → path_of (tag path) ≡ path) → (paths : List Text) (more : List Watch)
      → AllByRecursion (IsShort Q) paths → AllByRecursion OfShort more → AllByRecursion OfShort (map tag paths ++ more)
  tagged tag is [] more a b = b
  tagged tag is (path ∷ paths) more a b = (subst (IsShort Q) (sym (is path)) a.0, tagged tag is paths more a.1 b)

  -- The parts of lists whose paths are short are small.
  pub parts_small : (lists : Lists) → AllByRecursion (IsShort Q) lists.data_watches → AllByRecursion (IsShort Q) lists.exist_watches
      → AllByRecursion (IsShort Q) lists.child_watches → AllByRecursion (IsSmall Q) (parts lists)
  parts_small lists d e c =
      let child = subst (AllByRecursion OfShort) (append-nil (map OnChild lists.child_watches))
      (tagged OnChild (λ p. refl) lists.child_watches [] c tt) in
      let exist = tagged OnExist (λ p. refl) lists.exist_watches (map OnChild lists.child_watches) e child in
      cut_small (watches_of lists)
      (tagged OnData (λ p. refl) lists.data_watches (map OnExist lists.exist_watches ++ map OnChild lists.child_watches) d exist)

-- ---- the requests of parts

few : (texts : List Text) → length (map Some texts) ≤ weights texts
few [] = omega arith
few (text ∷ texts) = let f = few texts in omega arith

each_fits : (texts : List Text)
    → AllByRecursion (IsShort (λ path. is_utf8 path ≡ true)) texts → AllByRecursion (Fits ustring) (map Some texts)
each_fits [] all = tt
each_fits (text ∷ texts) all = let l = all.0.0 in ((omega arith, all.0.1), each_fits texts all.1)

texts_fit : (texts : List Text) → weights texts ≤ HIGHEST_LIMIT → AllByRecursion (IsShort (λ path. is_utf8 path ≡ true)) texts
    → Fits (vector ustring) (texts_value texts)
texts_fit texts l all = let f = few texts in (omega arith, each_fits texts all)

-- a small part of paths that are UTF-8 fits
pub part_fits : (relative : ℤ) (part : Lists) → FitsSigned w64 relative → IsSmall (λ path. is_utf8 path ≡ true) part
    → Fits (request_layout SetWatches) (
      part_xid,
      (
        operation_number SetWatches,
        (relative, (texts_value part.data_watches, (texts_value part.exist_watches, texts_value part.child_watches))),
      ),
    )
part_fits relative part r s =
    let l = s.light in (
      record { sfits = omega arith },
      (
        record { sfits = omega arith },
        (
          r,
          (
            texts_fit part.data_watches (omega arith) s.known,
            (texts_fit part.exist_watches (omega arith) s.missing, texts_fit part.child_watches (omega arith) s.parents),
          ),
        ),
      ),
    )
