-- By whether `fire` finds a watch: the notice is what the event fires, by `tells_event`, or it fires none, by `tells_no_event`.
-- The watches that are left are those that `fire` ensures.
use Rattle.std.proofs.Common.{sym, refl, ◌∙◌}
use Rattle.zk_bench.specs.inner.Serving.{watched}
use Rattle.zk_bench.proofs.Watched.{tells_event, tells_no_event}
use Rattle.zk_bench.proofs.notices.send_event.Goals as goal

pub returns-in_err-send_notice-clause-left : goal.returns-in_err-send_notice-clause-left
returns-in_err-send_notice-clause-left g c = c.fire.ensures.left c.requires

pub returns-in_ok-send_notice-clause-left : goal.returns-in_ok-send_notice-clause-left
returns-in_ok-send_notice-clause-left g c = c.fire.ensures.left c.requires

pub returns-in_ok-send_notice-clause-tells : goal.returns-in_ok-send_notice-clause-tells
returns-in_ok-send_notice-clause-tells g c =
    tells_event c.args.event c.args.path.now
    (watched c.args.connection.now.watches) c.args.connection.now.output.items c.send_notice.new.out.items c.requires
    (sym (c.fire.ensures.told c.requires) ∙ c.if-fire.true) c.in_ok-send_notice.ensures.sends

pub returns-else-fire-clause-left : goal.returns-else-fire-clause-left
returns-else-fire-clause-left g c = c.fire.ensures.left c.requires

pub returns-else-fire-clause-tells : goal.returns-else-fire-clause-tells
returns-else-fire-clause-tells g c =
    tells_no_event c.args.event c.args.path.now
    (watched c.args.connection.now.watches) c.args.connection.now.output.items c.args.connection.now.output.items
    (sym (c.fire.ensures.told c.requires) ∙ c.if-fire.false) refl
