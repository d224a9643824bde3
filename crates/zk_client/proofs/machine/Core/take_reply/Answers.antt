-- By the reply: a close ends the session (`closed-view`), any other leaves the view that its answer leads to (`left-view`). The core stays
-- sound by `tied-talking` and `reply-room`, and the watch to be kept has a place by `room-for`.
use Rattle.std.proofs.Common.{◌≡◌, refl, sym, ◌∙◌, subst, w64, arith, Result, OnOk, Ok, Err}
use Rattle.std.proofs.lemmas.Result.{on_ok_weaker}
use mir.Val.{to_z, of_z}
use Rattle.std.proofs.lemmas.Int.{ints}
use Rattle.zk_conversation.specs.Views.{question_view, result_view}
use Rattle.zk_session.specs.Table as session
use Rattle.zk_watches.specs.Lists.{Lists}
use Rattle.zk_client.specs.inner.Left.{side_left}
use Rattle.zk_client.specs.Sound.{HasRoom}
use Rattle.zk_client.proofs.Answered.{left-view, closed-view, left-lists}
use Rattle.zk_client.proofs.Rooms.{room-for, reply-room, sound-with, tied-talking}
use Rattle.zk_client.proofs.machine.Core.take_reply.Goals as goal

-- what three facts of a success give, and what five do
of-three : {T E A B C Q : Type 0} → (r : Result T E) → (A → B → C → Q) → OnOk r A → OnOk r B → OnOk r C → OnOk r Q
of-three (Ok x) f a b c = f a b c
of-three (Err e) f a b c = tt

of-five : {T E A B C D F Q : Type 0} → (r : Result T E) → (A → B → C → D → F → Q)
    → OnOk r A → OnOk r B → OnOk r C → OnOk r D → OnOk r F → OnOk r Q
of-five (Ok x) g a b c d f = g a b c d f
of-five (Err e) g a b c d f = tt

pub returns-then-closes-clause-next : goal.returns-then-closes-clause-next
returns-then-closes-clause-next g c =
    let core = c.args.self.now in
    let zxid : to_z w64 (of_z w64 c.args.zxid) ≡ c.args.zxid = omega (arith, ints) in
    let close = c.close.ensures in
    of-five c.close.result
    (λ session none xid lists answers. λ held pending left. closed-view held core.halted core.session core.conversation core.registry
    core.cache pending c.args.ticket (question_view c.args.question) c.args.zxid (result_view c.args.found.now)
    c.close.new.self.halted c.saw.new.self c.close.new.self.session c.close.new.self.conversation
    c.close.new.self.registry c.close.new.self.cache
    c.close.ensures.halted c.close.ensures.limits (sym c.closes.ensures ∙ c.if-closes.true) c.requires.comes
    (rw zxid at c.saw.ensures) session none xid lists answers) close.session close.pending close.xid close.lists close.answers

pub keep-requires : goal.keep-requires
keep-requires g c =
    let arrived = c.requires in
    let side = rw c.in-Some.is at c.left_by.ensures.side in
    record {
      room = room-for arrived.left.0 c.args.ticket
          (question_view c.args.question) c.args.self.now.registry c.args.self.now.conversation.pending
          (subst (HasRoom c.args.self.now.registry) arrived.left.1 arrived.room) (side_left c.in-Some.left) side;
    }

pub returns-in-None-clause-sound : goal.returns-in-None-clause-sound
returns-in-None-clause-sound g c =
    let core = c.args.self.now in
    let arrived = c.requires in
    let lists = left-lists _ _ (question_view c.args.question) (result_view c.args.found.now) core.registry
    (rw c.in-None.is at c.left_by.ensures.data) (rw c.in-None.is at c.left_by.ensures.child) in
    sound-with
    (rw c.saw.ensures (tied-talking (session.next (session.Sees _) core.session) core.conversation arrived.phase arrived.comes
    arrived.short))
    (subst (λ (l : Lists). HasRoom l core.conversation.pending) (sym lists)
    (reply-room arrived.left.0 c.args.ticket (question_view c.args.question) (result_view c.args.found.now) core.registry
    core.conversation.pending (subst (HasRoom core.registry) arrived.left.1 arrived.room)))

pub returns-in-None-clause-next : goal.returns-in-None-clause-next
returns-in-None-clause-next g c =
    let core = c.args.self.now in
    let zxid : to_z w64 (of_z w64 c.args.zxid) ≡ c.args.zxid = omega (arith, ints) in
    λ held pending left. left-view held core.halted core.session core.conversation core.registry core.cache pending left.0 c.args.ticket
    (question_view c.args.question) c.args.zxid (result_view c.args.found.now)
    c.saw.new.self core.registry core.cache _ _ (sym c.closes.ensures ∙ c.if-closes.false) left.1 (rw zxid at c.saw.ensures)
    (rw c.in-None.is at c.left_by.ensures.data) (rw c.in-None.is at c.left_by.ensures.child) refl (λ text. refl) (λ text. refl)

pub returns-in-Some-clause-sound : goal.returns-in-Some-clause-sound
returns-in-Some-clause-sound g c =
    let core = c.args.self.now in
    let arrived = c.requires in
    let left = left-lists _ _ (question_view c.args.question) (result_view c.args.found.now) core.registry
    (rw c.in-Some.is at c.left_by.ensures.data) (rw c.in-Some.is at c.left_by.ensures.child) in
    on_ok_weaker c.keep.result (λ lists. sound-with
    (rw c.saw.ensures (tied-talking (session.next (session.Sees _) core.session) core.conversation arrived.phase arrived.comes
    arrived.short))
    (subst (λ (l : Lists). HasRoom l core.conversation.pending) (sym (lists ∙ left))
    (reply-room arrived.left.0 c.args.ticket (question_view c.args.question) (result_view c.args.found.now) core.registry
    core.conversation.pending (subst (HasRoom core.registry) arrived.left.1 arrived.room)))) c.keep.ensures.lists

pub returns-in-Some-clause-next : goal.returns-in-Some-clause-next
returns-in-Some-clause-next g c =
    let core = c.args.self.now in
    let zxid : to_z w64 (of_z w64 c.args.zxid) ≡ c.args.zxid = omega (arith, ints) in
    of-three c.keep.result (λ lists nodes names. λ held pending left. left-view held core.halted core.session core.conversation
    core.registry core.cache pending left.0 c.args.ticket (question_view c.args.question) c.args.zxid (result_view c.args.found.now)
    c.saw.new.self c.keep.new.registry c.keep.new.cache _ _ (sym c.closes.ensures ∙ c.if-closes.false) left.1 (rw zxid at c.saw.ensures)
    (rw c.in-Some.is at c.left_by.ensures.data) (rw c.in-Some.is at c.left_by.ensures.child) lists nodes names) c.keep.ensures.lists
    c.keep.ensures.nodes c.keep.ensures.children
