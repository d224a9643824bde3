-- A reply that leaves a watch, with a zxid below the last seen one, is behind (`is_behind`
-- here), so the connection is dropped: what `give_up_reply` ensures, rewritten.
use Rattle.std.proofs.Common.{◌≡◌, sym, ◌∙◌, true, ◌&&◌, w64, arith}
use Rattle.std.proofs.lemmas.Result.{on_ok_weaker}
use mir.Val.{to_z, of_z}
use Rattle.std.proofs.lemmas.Int.{ints}
use Rattle.std.specs.Prelude.{int_lt}
use Rattle.zk_conversation.specs.Views.{question_view, result_view}
use Rattle.zk_turns.specs.Taken.{leaves_watch}
use Rattle.zk_client.proofs.machine.Core.reply.Goals as goal

-- the reply leaves a watch, and is behind
is_behind : (g : _) (c : goal.Joined-question g)
    → (leaves_watch (question_view c.args.question) (result_view c.args.found.now)
    && int_lt c.args.zxid c.args.self.now.session.saved.last) ≡ true
is_behind g c =
    let zxid : to_z w64 (of_z w64 c.args.zxid) ≡ c.args.zxid = omega (arith, ints) in
    let seen : to_z w64 (of_z w64 c.last_zxid-seen.result) ≡ c.last_zxid-seen.result = omega (arith, ints) in
    let leaves : leaves_watch (question_view c.args.question) (result_view c.args.found.now) ≡ true =
    sym c.leaves_watch.ensures ∙ c.if-leaves_watch.true in
    rw leaves (rw (zxid, seen, c.last_zxid-seen.ensures.last) at c.if-zxid-seen.true)

pub returns-then-zxid-seen-clause-next : goal.returns-then-zxid-seen-clause-next
returns-then-zxid-seen-clause-next g c =
    on_ok_weaker c.give_up_reply.result (λ next. λ held pending left. rw (is_behind g c) (next held pending)) c.give_up_reply.ensures.next

pub returns-then-zxid-seen-clause-says : goal.returns-then-zxid-seen-clause-says
returns-then-zxid-seen-clause-says g c =
    let zxid : to_z w64 (of_z w64 c.args.zxid) ≡ c.args.zxid = omega (arith, ints) in
    let seen : to_z w64 (of_z w64 c.last_zxid-seen.result) ≡ c.last_zxid-seen.result = omega (arith, ints) in
    on_ok_weaker c.give_up_reply.result (λ says. λ held pending left. rw (is_behind g c, left.1)
    (rw (zxid, seen, c.last_zxid-seen.ensures.last) at (says held left.0 (question_view c.args.question))))
    c.give_up_reply.ensures.says
