-- A reading is there exactly where a spelling begins the bytes; and what is sent is read again. Both are laws of every layout, used at each
-- record.
use Rattle.std.proofs.Common.{◌≡◌, ℕ, ℤ, pos, false, Some, List, ◌++◌, length, Ok, Err, refl, ap, ◌∙◌, append_assoc}
use Rattle.std.specs.Prelude.{Result as Reading}
use Rattle.zk_jute.specs.declared.fault.TakeError.{TakeError}
use Rattle.zk_jute.specs.Layout.{Layout, Value}
use Rattle.zk_jute.specs.Spelling.{IsBytes, spelling, Fits}
use Rattle.zk_jute.specs.Reading.{◌>>=◌, reading}
use Rattle.zk_jute.specs.inner.Laws.{reads, bind_ok, ok_is}
use Rattle.zk_records.specs.Response.{Response, IsPayload, response_at}
use Rattle.zk_records.specs.inner.ResponseLaws.{response_takes, response_again}
use Rattle.zk_records.specs.Layouts.{connect_request, request_header}
use Rattle.zk_records.specs.Operations.{operation_number, request_layout}
use Rattle.zk_records.specs.declared.operation.Operation.TheVariants.{Ping, SetWatches}
use Rattle.zk_conversation.specs.declared.phase.Phase.TheVariants.{Opening}
use Rattle.zk_conversation.specs.Calls.{Call, Wording, Spelled, Given, wording, worded_payload, call_payload, connect_payload, part_xid}
use Rattle.zk_conversation.specs.Calls.{part_payload}
use Rattle.zk_conversation.specs.Calls.{ping_payload, ping_xid, texts_value}
use Rattle.zk_conversation.specs.Questions.{Question}
use Rattle.zk_conversation.specs.Results.{Result, result_layout, result_from, record_of}
use Rattle.zk_conversation.specs.Pending.{Pending}
use Rattle.zk_conversation.specs.Arriving.{Connected, first_arriving, arriving}
use Rattle.zk_nodes.specs.Path.{Text}
use Rattle.zk_turns.specs.Spelled.{BeginsWith, WordingFits, ReadsAs}

pub spelt : (layout : Layout) (end : ℕ) (bytes : List ℕ) (value : Value layout) (rest : List ℕ)
    → IsBytes bytes → reading layout end bytes ≡ Ok (value, rest) → Fits layout value × (bytes ≡ spelling layout value ++ rest)
spelt layout end bytes value rest are e = let t = (reads layout end).takes bytes (value, rest) are e in (t.1, t.0.parts)

pub read_again : (layout : Layout) (end : ℕ) (bytes : List ℕ) (value : Value layout) (rest : List ℕ)
    → Fits layout value × (bytes ≡ spelling layout value ++ rest) → reading layout end bytes ≡ Ok (value, rest)
read_again layout end bytes value rest s = ap (reading layout end) s.1 ∙ (reads layout end).again value rest s.0

pub record_spelt : (question : Question) (end : ℕ) (bytes : List ℕ) (result : Result)
    → IsBytes bytes → record_of question end bytes ≡ Ok result → BeginsWith question result bytes
unfolding record_of
record_spelt question end bytes result are e =
    let b = bind_ok (reading (result_layout question) end bytes) (λ found. Ok (result_from question found.0 found.1)) result e in
    let s = spelt (result_layout question) end bytes b.0.0 b.0.1 are b.1 in
    (b.0.0, record { ignored = b.0.1; fits = s.0; whole = s.1 }, ok_is (result_from question b.0.0 b.0.1) result b.2)

pub record_read : (question : Question) (end : ℕ) (bytes : List ℕ) (result : Result)
    → BeginsWith question result bytes → record_of question end bytes ≡ Ok result
unfolding record_of
record_read question end bytes result s =
    ap (λ r. r >>= λ found. Ok (result_from question found.0 found.1))
    (read_again (result_layout question) end bytes s.0 s.1.ignored (s.1.fits, s.1.whole)) ∙ ap Ok s.2

first_found : (bytes : List ℕ) (r : Reading (Response × List ℕ) TakeError) (response : Response)
    → first_arriving r ≡ Ok (Connected response)
    → response_at (length bytes) bytes ≡ r → (ignored : List ℕ) × (response_at (length bytes) bytes ≡ Ok (response, ignored))
first_found bytes (Ok found) response e f = let s : found.0 ≡ response = cc in (found.1, f ∙ ap (λ r. Ok (r, found.1)) s)
first_found bytes (Err fault) response e f = absurd cc

pub first_spelt : (ps : List Pending) (bytes : List ℕ) (response : Response)
    → IsBytes bytes → arriving Opening ps bytes ≡ Ok (Connected response) → (ignored : List ℕ) × IsPayload bytes response ignored
unfolding arriving
first_spelt ps bytes response are e =
    let f = first_found bytes (response_at (length bytes) bytes) response e refl in
    (f.0, response_takes (length bytes) bytes (response, f.0) are f.1)

pub first_read : (ps : List Pending) (bytes : List ℕ) (response : Response)
    → (ignored : List ℕ) × IsPayload bytes response ignored → arriving Opening ps bytes ≡ Ok (Connected response)
unfolding arriving
first_read ps bytes response s = ap first_arriving (response_again (length bytes) bytes response s.0 s.1)

-- ---- requests

wording_read : (xid : ℤ) (said : Wording) (end : ℕ) (rest : List ℕ)
    → WordingFits xid said → ReadsAs xid said end (worded_payload xid said ++ rest) rest
wording_read xid (Spelled operation body) end rest fits =
    (reads (request_layout operation) end).again (xid, (operation_number operation, body)) rest fits
wording_read xid (Given operation bytes) end rest fits =
    ap (reading request_header end) (append_assoc (spelling request_header (xid, operation)) bytes rest)
    ∙ (reads request_header end).again (xid, operation) (bytes ++ rest) fits

pub call_read : (xid : ℤ) (call : Call) (end : ℕ) (rest : List ℕ)
    → WordingFits xid (wording call) → ReadsAs xid (wording call) end (call_payload xid call ++ rest) rest
unfolding call_payload
call_read xid call end rest fits = wording_read xid (wording call) end rest fits

pub part_read : (relative : ℤ) (known missing parents : List Text) (end : ℕ) (rest : List ℕ) → Fits (request_layout SetWatches)
    (part_xid, (operation_number SetWatches, (relative, (texts_value known, (texts_value missing, texts_value parents)))))
    → reading (request_layout SetWatches) end (part_payload relative known missing parents ++ rest)
    ≡ Ok ((part_xid, (operation_number SetWatches, (relative, (texts_value known, (texts_value missing, texts_value parents))))), rest)
unfolding part_payload
part_read relative known missing parents end rest fits =
    (reads (request_layout SetWatches) end).again (
      part_xid,
      (operation_number SetWatches, (relative, (texts_value known, (texts_value missing, texts_value parents)))),
    ) rest fits

pub connect_read : (last timeout session : ℤ) (password : List ℕ) (end : ℕ) (rest : List ℕ)
    → Fits connect_request (pos 0, (last, (timeout, (session, (Some password, false)))))
    → reading connect_request end (connect_payload last timeout session password ++ rest)
    ≡ Ok ((pos 0, (last, (timeout, (session, (Some password, false))))), rest)
unfolding connect_payload
connect_read last timeout session password end rest fits =
    (reads connect_request end).again (pos 0, (last, (timeout, (session, (Some password, false))))) rest fits

pub ping_read : (end : ℕ) (rest : List ℕ) → Fits (request_layout Ping) (ping_xid, (operation_number Ping, tt))
    → reading (request_layout Ping) end (ping_payload ++ rest) ≡ Ok ((ping_xid, (operation_number Ping, tt)), rest)
unfolding ping_payload
ping_read end rest fits = (reads (request_layout Ping) end).again (ping_xid, (operation_number Ping, tt)) rest fits
