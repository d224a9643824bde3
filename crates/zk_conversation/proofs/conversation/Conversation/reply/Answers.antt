-- The reply goes to the oldest request (`viewed-first`), or there is none (`none-left`). Without it the rest is counted right
-- (`counts-pop`, `fewer`), and what arrives takes it alone: `answer-takes`.
use Rattle.std.proofs.Common.{◌≡◌, w32, List, ◌∷◌, Ok, Err, map, drop, refl, ap, sym, ◌∙◌, arith}
use mir.Val.{to_z, of_z}
use Rattle.std.proofs.lemmas.Int.{ints}
use Rattle.std.proofs.lemmas.List.{drop-map}
use Rattle.std.proofs.lemmas.Result.{err_from_is_err_and}
use Rattle.zk_conversation.specs.declared.counts.Counts.{Counts}
use Rattle.zk_conversation.specs.declared.fault.TalkFault.TheVariants.{Memory}
use Rattle.zk_conversation.specs.inner.Arrives.{arrival_for}
use Rattle.zk_conversation.specs.Counted.{counts_of}
use Rattle.zk_conversation.specs.inner.Counted.{counts_without}
use Rattle.zk_conversation.specs.Pending.{Pending}
use Rattle.zk_conversation.specs.Views.{pending_view, waiting_view, result_view}
use Rattle.zk_conversation.proofs.Counting.{counts-pop}
use Rattle.zk_conversation.proofs.Replies.{viewed-first, none-left, fewer, answer-takes}
use Rattle.zk_conversation.proofs.conversation.Conversation.reply.Goals as goal

pub returns-in_err-found-in-Some-clause-replies : goal.returns-in_err-found-in-Some-clause-replies
returns-in_err-found-in-Some-clause-replies g c =
    let p = err_from_is_err_and c.from_residual.result c.from_residual.ensures.1 in
    let first =
    viewed-first pending_view c.self.inside.pending.items c.in-Some.oldest.now c.in-Some.ensures.item.3.0 c.in-Some.ensures.lookup in
    rw (p.1, p.2, ← c.self.view_is, first)
    (λ h. c.in_err-found-in-Some.ensures.gives h (map pending_view (drop 1 c.self.inside.pending.items)), refl)

pub returns-in_err-found-in-Some-clause-memory : goal.returns-in_err-found-in-Some-clause-memory
returns-in_err-found-in-Some-clause-memory g c =
    let p = err_from_is_err_and c.from_residual.result c.from_residual.ensures.1 in
    let first =
    viewed-first pending_view c.self.inside.pending.items c.in-Some.oldest.now c.in-Some.ensures.item.3.0 c.in-Some.ensures.lookup in
    rw (p.1, p.2, ← c.self.view_is, first)
    (λ h. c.in_err-found-in-Some.ensures.memory (let same : c.in_err-found-in-Some.field-0.0 ≡ Memory = cc in ap Err same))

pub returns-in-None-clause-replies : goal.returns-in-None-clause-replies
returns-in-None-clause-replies g c =
    let xid : to_z w32 (of_z w32 c.args.header.xid) ≡ c.args.header.xid = omega (arith, ints) in
    let none = none-left c.self.inside.pending.items c.in-None.ensures.item.3 in
    rw (xid, ← c.self.view_is, none) (λ h. refl, refl)

pub invariant_of-self : goal.invariant_of-self
invariant_of-self g c =
    let waiting = waiting_view c.in-Some-pop_front.oldest.waiting in
    let was : c.self.inside.counts ≡ counts_of (pending_view c.in-Some-pop_front.oldest ∷ map pending_view c.pop_front.new.self.items) =
    c.self.invariant.counted ∙ ap (λ xs. counts_of (map pending_view xs)) c.in-Some-pop_front.ensures.items in
    record {
      counted = c.without-self-inside.ensures ∙ ap (λ (n : Counts). counts_without n waiting) was
          ∙ counts-pop c.in-Some-pop_front.oldest.xid waiting (map pending_view c.pop_front.new.self.items);
      few = rw c.without-self-inside.ensures (fewer c.self.inside.counts waiting c.self.invariant.few);
      first = c.self.invariant.first;
      below = c.self.invariant.below;
    }

pub returns-clause-replies : goal.returns-clause-replies
returns-clause-replies g c =
    let first =
    viewed-first pending_view c.self.inside.pending.items c.in-Some.oldest.now c.in-Some.ensures.item.3.0 c.in-Some.ensures.lookup in
    let popped = c.in-Some-pop_front.oldest in
    let same : c.in-Some.oldest.now ≡ popped = c.in-Some.ensures.item.3.1 popped ∙ sym c.in-Some-pop_front.ensures.lookup in
    let rest : map pending_view c.pop_front.new.self.items ≡ drop 1 (map pending_view c.self.inside.pending.items) =
    ap (map pending_view) c.in-Some-pop_front.ensures.rest ∙ sym (drop-map pending_view 1 c.self.inside.pending.items) in
    rw (c.answered.ensures, ← c.self.view_is) (
      rw first (c.in_ok-found-in-Some.ensures.gives (map pending_view (drop 1 c.self.inside.pending.items))
          ∙ ap (λ o. Ok (arrival_for (waiting_view o.waiting) c.args.header (result_view c.in_ok-found-in-Some.found))) same),
      ap (λ (l : List Pending). record { phase = c.self.inside.phase; pending = l; xid = c.self.inside.xid }) rest,
      answer-takes (waiting_view popped.waiting) c.args.header (result_view c.in_ok-found-in-Some.found) _,
    )
