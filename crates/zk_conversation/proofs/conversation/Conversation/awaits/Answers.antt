-- One call more is pending: the counts go with it (`counts-push_call`) and stay small (`counts-small`), its view comes last
-- (`viewed-push`), and the next xid is in its range (`next-is`).
use Rattle.std.proofs.Common.{◌≡◌, w32, pos, map, ap, sym, refl, ◌∙◌, arith}
use mir.Val.{to_z, of_z}
use Rattle.std.proofs.lemmas.Int.{ints}
use Rattle.zk_conversation.specs.declared.counts.Counts.{Counts}
use Rattle.zk_conversation.specs.Counted.{counts_of}
use Rattle.zk_conversation.specs.inner.Counted.{counts_with}
use Rattle.zk_conversation.specs.Views.{question_view, pending_view}
use Rattle.zk_conversation.proofs.Counting.{counts-push_call}
use Rattle.zk_conversation.proofs.Requests.{counts-small, viewed-push, next-is}
use Rattle.zk_conversation.proofs.conversation.Conversation.awaits.Goals as goal

pub with-counts-requires-clause-on_data : goal.with-counts-requires-clause-on_data
with-counts-requires-clause-on_data g c = let are =
    counts-small c.self.inside.counts (map pending_view c.self.inside.pending.items) c.self.invariant.counted c.self.invariant.few in
    are.on_data

pub with-counts-requires-clause-on_child : goal.with-counts-requires-clause-on_child
with-counts-requires-clause-on_child g c = let are =
    counts-small c.self.inside.counts (map pending_view c.self.inside.pending.items) c.self.invariant.counted c.self.invariant.few in
    are.on_child

pub with-counts-requires-clause-closes : goal.with-counts-requires-clause-closes
with-counts-requires-clause-closes g c = let are =
    counts-small c.self.inside.counts (map pending_view c.self.inside.pending.items) c.self.invariant.counted c.self.invariant.few in
    are.closes

pub invariant_of-self-2 : goal.invariant_of-self-2
invariant_of-self-2 g c =
    let xs = map pending_view c.self.inside.pending.items in
    let question = question_view c.args.question in
    let pushed = viewed-push pending_view c.self.inside.pending.items c.push.new.pending.items _ c.in_ok-push.ensures.ok in
    let xid = next-is c.self.inside.xid c.next_xid-self-inside.result c.self.invariant.below c.next_xid-self-inside.ensures in
    record {
      counted = c.with-counts.ensures ∙ ap (λ (n : Counts). counts_with n question) c.self.invariant.counted
          ∙ sym (counts-push_call xs _ c.args.ticket question) ∙ sym (ap counts_of pushed);
      few = let room = rw (← c.self.view_is) at c.requires in
          rw c.with-counts.ensures (omega (arith, room, ap (λ (n : Counts). n.calls) c.self.invariant.counted));
      first = xid.first;
      below = xid.below;
    }

pub returns-clause-ok : goal.returns-clause-ok
returns-clause-ok g c =
    let pushed = viewed-push pending_view c.self.inside.pending.items c.push.new.pending.items _ c.in_ok-push.ensures.ok in
    let xid : to_z w32 (of_z w32 (pos c.self.inside.xid)) ≡ pos c.self.inside.xid = let below =
    c.self.invariant.below in omega (arith, ints) in
    rw (← c.self.view_is) (rw (pushed, c.next_xid-self-inside.ensures, xid) refl)
