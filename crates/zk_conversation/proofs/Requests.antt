-- Requests that are sent, and what is pending then.
use Rattle.std.proofs.Common.{◌≡◌, ◌≢◌, ◌<◌, ◌≤◌, ◌^◌, ◌+◌, ◌==◌, Bool, true, false, cond, ℕ, ℤ, pos, List, [], ◌∷◌, ◌++◌, Some, None}
use Rattle.std.proofs.Common.{length, map, refl, ap, ◌∙◌, arith}
use Rattle.std.proofs.lemmas.Simd.{map-map}
use Rattle.std.proofs.lemmas.List.{map-append}
use Rattle.std.proofs.lemmas.Bool.Decides.{Decides-eqb}
use Rattle.zk_records.specs.declared.operation.Operation.TheVariants as operation
use Rattle.zk_conversation.specs.declared.counts.Counts.{Counts}
use Rattle.zk_conversation.specs.declared.phase.Phase.{Phase}
use Rattle.zk_conversation.specs.declared.phase.Phase.TheVariants.{Closed, Opening, Talking}
use Rattle.zk_conversation.specs.Calls.{Call, part_xid, request_payload, connect_payload, ping_payload, part_payload}
use Rattle.zk_conversation.specs.Counted.{counts_of}
use Rattle.zk_conversation.specs.Pending.{Pending, Talk, Call_waits, next_xid, taken_ticket, talk_taken, talk_asked}
use Rattle.zk_conversation.specs.Questions.{Question, question_of}
use Rattle.zk_conversation.proofs.Counting.{are_calls}
use Rattle.zk_conversation.proofs.Lengths.{length-connect, length-ping}
use Rattle.zk_limits.specs.declared.limits.TheConstants.{LONGEST_OUTGOING, LONGEST_PASSWORD, MOST_PENDING}

pub connect-small : (last timeout session : ℤ) (password : List ℕ)
    → length password ≤ LONGEST_PASSWORD → length (connect_payload last timeout session password) < 2 ^ 30
connect-small last timeout session password short = omega (arith, length-connect last timeout session password)

pub ping-small : length ping_payload < 2 ^ 30
ping-small = omega (arith, length-ping)

pub small : (n : ℕ) → n ≤ LONGEST_OUTGOING → n < 2 ^ 30
small n le = omega arith

-- a part, where the texts of its lists are lent
pub part-lent : {X : Type 0} (text : X → List ℕ) (relative : ℤ) (d e c : List X)
    → part_payload relative (map text d) (map text e) (map text c)
    ≡ request_payload part_xid operation.SetWatches
    (relative, (Some (map (λ s. Some (text s)) d), (Some (map (λ s. Some (text s)) e), Some (map (λ s. Some (text s)) c))))
unfolding part_payload
part-lent text relative d e c = rw (map-map Some text d, map-map Some text e, map-map Some text c) refl

-- no count of the calls is large
pub record AreSmall (counts : Counts) : Type 0 where
  pub on_data : counts.on_data < 2 ^ 31
  pub on_child : counts.on_child < 2 ^ 31
  pub closes : counts.closes < 2 ^ 31

pub counts-small : (counts : Counts) (pending : List Pending) → counts ≡ counts_of pending → counts.calls ≤ MOST_PENDING → AreSmall counts
counts-small counts pending e few =
    let calls = ap (λ (n : Counts). n.calls) e in
    let are = are_calls pending in
    record {
      on_data = omega (arith, calls, ap (λ (n : Counts). n.on_data) e, are.on_data);
      on_child = omega (arith, calls, ap (λ (n : Counts). n.on_child) e, are.on_child);
      closes = omega (arith, calls, ap (λ (n : Counts). n.closes) e, are.closes);
    }

-- one more is pending
pub viewed-push : {X : Type 0} (view : X → Pending) (xs ys : List X) (x : X) → ys ≡ xs ++ x ∷ [] → map view ys ≡ map view xs ++ view x ∷ []
viewed-push view xs ys x e = ap (map view) e ∙ map-append view xs (x ∷ [])

-- while there is a connection nothing is taken
pub record IsUntouched (talk : Talk) : Type 0 where
  pub ticket : None ≡ taken_ticket talk
  pub rest : talk ≡ talk_taken talk

pub untouched : (phase : Phase) (pending : List Pending) (xid : ℕ) → (phase ≡ Closed → ⊥)
    → IsUntouched (record { phase = phase; pending = pending; xid = xid })
untouched Closed pending xid h = absurd (h refl)
untouched Opening pending xid h = record { ticket = refl; rest = refl }
untouched Talking pending xid h = record { ticket = refl; rest = refl }

-- xids stay in their range
pub record IsXid (xid : ℕ) : Type 0 where
  pub first : 1 ≤ xid
  pub below : xid < 2 ^ 31

pub next-is : (xid next : ℕ) → xid < 2 ^ 31 → next ≡ next_xid xid → IsXid next
next-is xid next below e = go (xid == 2147483647) refl where
  go : (b : Bool) → (xid == 2147483647) ≡ b → IsXid next
  go true is = let here : next ≡ 1 = e ∙ ap (λ b. cond b 1 (xid + 1)) is in
      record { first = omega (arith, here); below = omega (arith, here) }
  go false is =
      let here : next ≡ xid + 1 = e ∙ ap (λ b. cond b 1 (xid + 1)) is in
      let not : xid ≢ 2147483647 = λ same. let yes = (Decides-eqb xid 2147483647).1 same in cc in
      record { first = omega (arith, here); below = omega (arith, here, not) }

-- a call that is asked waits last
pub asked-talk : (talk : Talk) (after : List Pending) (next : ℕ) (xid : ℤ) (ticket : ℕ) (question : Question) (call : Call)
    → xid ≡ pos talk.xid → question ≡ question_of call
    → after ≡ talk.pending ++ record { xid = xid; waiting = Call_waits ticket question } ∷ [] → next ≡ next_xid talk.xid
    → record { phase = talk.phase; pending = after; xid = next } ≡ talk_asked ticket call talk
asked-talk talk after next xid ticket question call own asks pushed then_next = rw (pushed, own, asks, then_next) refl
