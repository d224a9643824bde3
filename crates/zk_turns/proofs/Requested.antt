-- Each request that was sent is of a length that a frame can tell, and fits its layout: all that happened is in range, so what was sent at
-- each happening is.
use Rattle.std.proofs.Common.{◌≡◌, ℕ, ℤ, pos, ◌≤◌, ◌<◌, ◌^◌, true, false, List, [], ◌∷◌, ◌++◌, length, Some, subst, arith}
use Rattle.std.specs.Prelude.{⊤}
use Rattle.std.specs.List.{AllByRecursion}
use Rattle.std.specs.Str.{is_utf8}
use Rattle.zk_jute.specs.Spelling.{Fits}
use Rattle.zk_nodes.specs.Path.{Text}
use Rattle.zk_records.specs.Layouts.{connect_request}
use Rattle.zk_records.specs.Operations.{operation_number, request_layout}
use Rattle.zk_records.specs.declared.operation.Operation.TheVariants.{SetWatches}
use Rattle.zk_conversation.specs.Calls.{Call, wording, call_payload, connect_payload, part_xid, part_payload, texts_value}
use Rattle.zk_conversation.specs.Questions.{question_of}
use Rattle.zk_conversation.proofs.Lengths.{length-connect}
use Rattle.zk_session.specs.SessionView.{Welcome}
use Rattle.zk_watches.specs.Lists.{Lists}
use Rattle.zk_watches.specs.Parts.{parts}
use Rattle.zk_turns.specs.Turns.{Start, new_start, Item, Turned, Forgets, Halts, Input, Opened, Bytes, Cut, Now, Call as Asks}
use Rattle.zk_turns.specs.Past.{Past, Happening, Began, Took, Asked, Accepted, last_of, session_of, lists_of, xid_of, in_known, in_missing}
use Rattle.zk_turns.specs.Past.{in_parents, path_of_read}
use Rattle.zk_turns.specs.Taken.{past_of}
use Rattle.zk_turns.specs.Ranges.{IsResumable, IsTyped, AsksOf, AllAskOf}
use Rattle.zk_turns.specs.Spelled.{WordingFits}
use Rattle.zk_turns.proofs.Fitting.{IsSmall, parts_small, call_fits, connect_fits, part_fits, typed_paths, any_paths}
use Rattle.zk_conversation.proofs.Lengths.{length-part}
use Rattle.zk_turns.proofs.Ranged.{IsRanged, AreRanged, items_ranged, last_fits, session_ranged, listed_short}
use Rattle.zk_frames.specs.declared.limits.TheConstants.{HIGHEST_LIMIT}

-- ---- premises

-- any call
abbrev pub Any : Call → Type 0
Any call = ⊤

any_input : (input : Input) → AsksOf Any input
any_input Opened = tt
any_input (Bytes bytes) = tt
any_input Cut = tt
any_input (Now moment) = tt
any_input (Asks ticket call) = tt

pub any_items : (items : List Item) → AllAskOf Any items
any_items [] = tt
any_items (Turned turn ∷ items) = (any_input turn.input, any_items items)
any_items (Forgets ∷ items) = any_items items
any_items (Halts ∷ items) = any_items items

pub new_resumable : (timeout : ℕ) → timeout < 2 ^ 31 → IsResumable (new_start timeout)
new_resumable timeout t = record {
  timeout = t;
  session = record { sfits = omega arith };
  password = omega arith;
  last = record { sfits = omega arith };
  counts = omega arith;
}

-- ---- one request

pub told_call : (past : Past) (call : Call)
    → length (call_payload (pos (xid_of past)) call) ≤ HIGHEST_LIMIT → length (call_payload (pos (xid_of past)) call) < 2 ^ 31
told_call past call l = omega arith

xid_small : (past : Past) → xid_of past < 2 ^ 31
xid_small past = omega arith

pub fits_call : (past : Past) (call : Call) → IsTyped call → length (call_payload (pos (xid_of past)) call) ≤ HIGHEST_LIMIT
    → WordingFits (pos (xid_of past)) (wording call)
fits_call past call t l = call_fits (xid_of past) call (xid_small past) t l

weaker : {A : Type 0} (P Q : A → Type 0) → ((x : A) → P x → Q x) → (xs : List A) → AllByRecursion P xs → AllByRecursion Q xs
weaker P Q h [] a = tt
weaker P Q h (x ∷ xs) a = (h x a.0, weaker P Q h xs a.1)

-- UTF-8
abbrev IsText : Text → Type 0
IsText path = is_utf8 path ≡ true

abbrev pub IsTold : ℤ → Lists → Type 0
IsTold relative part = length (part_payload relative part.data_watches part.exist_watches part.child_watches) < 2 ^ 31

abbrev pub PartFits : ℤ → Lists → Type 0
PartFits relative part = Fits (request_layout SetWatches) (
  part_xid,
  (
    operation_number SetWatches,
    (relative, (texts_value part.data_watches, (texts_value part.exist_watches, texts_value part.child_watches))),
  ),
)

lists_small : (P : Call → Type 0) (Q : Text → Type 0) → ((call : Call) → P call → AllByRecursion Q (path_of_read (question_of call)))
    → (past : Past) → AreRanged P past → AllByRecursion (IsSmall Q) (parts (lists_of past))
lists_small P Q h past r = parts_small Q (lists_of past) (listed_short P Q h in_known past r) (listed_short P Q h in_missing past r)
    (listed_short P Q h in_parents past r)

pub told_parts : (relative : ℤ) (past : Past) → AreRanged Any past → AllByRecursion (IsTold relative) (parts (lists_of past))
told_parts relative past r =
    weaker (IsSmall (λ path. ⊤)) (IsTold relative)
    (λ part. λ s. let l = s.light in let n = length-part relative part.data_watches part.exist_watches part.child_watches in omega arith)
    (parts (lists_of past)) (lists_small Any (λ path. ⊤) any_paths past r)

pub fits_parts : (start : Start) (past : Past)
    → IsResumable start → AreRanged IsTyped past → AllByRecursion (PartFits (last_of start past)) (parts (lists_of past))
fits_parts start past s r =
    weaker (IsSmall IsText) (PartFits (last_of start past))
    (λ part. λ small. part_fits (last_of start past) part (last_fits IsTyped start past s.last r) small)
    (parts (lists_of past)) (lists_small IsTyped IsText typed_paths past r)

pub told_connect : (start : Start) (past : Past) → IsResumable start → AreRanged Any past → length
    (connect_payload (last_of start past) (pos start.timeout) (session_of start past).session (session_of start past).password) < 2 ^ 31
told_connect start past s r =
    let p = (session_ranged Any start past s r).1 in
    let n = length-connect (last_of start past) (pos start.timeout) (session_of start past).session (session_of start past).password in
    omega arith

pub fits_connect : (start : Start) (past : Past) → IsResumable start → AreRanged Any past → Fits connect_request
    (pos 0, (last_of start past, (pos start.timeout, ((session_of start past).session, (Some (session_of start past).password, false)))))
fits_connect start past s r =
    let p = session_ranged Any start past s r in
    let q = p.1 in
    connect_fits (last_of start past) start.timeout
    (session_of start past).session (session_of start past).password (last_fits Any start past s.last r) s.timeout p.0 (omega arith)

-- ---- a request of a past

since_ranged : (P : Call → Type 0) (since : List Happening) (happening : Happening) (before : Past)
    → AreRanged P (since ++ happening ∷ before) → IsRanged P happening before × AreRanged P before
since_ranged P [] happening before r = r
since_ranged P (x ∷ since) happening before r = since_ranged P since happening before r.1

module _ (start : Start) (items : List Item) (since : List Happening) (before : Past) where
  at : (P : Call → Type 0) (happening : Happening)
      → AllAskOf P items → past_of start items ≡ since ++ happening ∷ before → IsRanged P happening before × AreRanged P before
  at P happening a e = since_ranged P since happening before (subst (AreRanged P) e (items_ranged P start items a))

  pub call_told : (ticket : ℕ) (call : Call)
      → past_of start items ≡ since ++ Asked ticket call ∷ before → length (call_payload (pos (xid_of before)) call) < 2 ^ 31
  call_told ticket call e = told_call before call (at Any (Asked ticket call) (any_items items) e).0.1

  pub call_of : (ticket : ℕ) (call : Call) → AllAskOf IsTyped items → past_of start items ≡ since ++ Asked ticket call ∷ before
      → WordingFits (pos (xid_of before)) (wording call)
  call_of ticket call a e = let r = (at IsTyped (Asked ticket call) a e).0 in fits_call before call r.0 r.1

  pub parts_told : (welcome : Welcome) → past_of start items ≡ since ++ Took (Accepted welcome) ∷ before
      → AllByRecursion (IsTold (last_of start before)) (parts (lists_of before))
  parts_told welcome e = told_parts (last_of start before) before (at Any (Took (Accepted welcome)) (any_items items) e).1

  pub parts_of : (welcome : Welcome) → IsResumable start → AllAskOf IsTyped items → past_of start items
      ≡ since ++ Took (Accepted welcome) ∷ before → AllByRecursion (PartFits (last_of start before)) (parts (lists_of before))
  parts_of welcome s a e = fits_parts start before s (at IsTyped (Took (Accepted welcome)) a e).1

  pub connect_told : IsResumable start → past_of start items ≡ since ++ Began ∷ before → length (connect_payload (last_of start before)
      (pos start.timeout) (session_of start before).session (session_of start before).password) < 2 ^ 31
  connect_told s e = told_connect start before s (at Any Began (any_items items) e).1

  pub connect_of : IsResumable start → past_of start items ≡ since ++ Began ∷ before → Fits connect_request (
    pos 0,
    (last_of start before, (pos start.timeout, ((session_of start before).session, (Some (session_of start before).password, false)))),
  )
  connect_of s e = fits_connect start before s (at Any Began (any_items items) e).1
