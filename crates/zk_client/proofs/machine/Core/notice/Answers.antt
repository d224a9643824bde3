-- The core stays sound: it still talks (`tied-talking`), and a fired watch leaves no more paths than before (`fired-room`). What is said of
-- the data, and then of the names, is what the registry gave of each side: `said_both`.
use Rattle.std.proofs.Common.{subst}
use Rattle.std.proofs.lemmas.Result.{on_ok_weaker}
use Rattle.zk_nodes.specs.declared.side.Side.TheVariants.{Data, Child}
use Rattle.zk_watches.specs.Lists.{fires}
use Rattle.zk_client.specs.Views.{said}
use Rattle.zk_client.specs.Sound.{HasRoom}
use Rattle.zk_client.proofs.Reports.{said_both}
use Rattle.zk_client.proofs.Rooms.{fired-room, sound-with, tied-talking}
use Rattle.zk_client.proofs.machine.Core.notice.Goals as goal

pub returns-clause-sound : goal.returns-clause-sound
returns-clause-sound g c =
    let core = c.args.self.now in
    on_ok_weaker c.report-2.result (λ _. sound-with
    (tied-talking core.session core.conversation c.requires.phase c.requires.comes c.requires.short)
    (rw c.fire-on_data.ensures.lists (fired-room core.registry c.args.event c.args.path.now core.conversation.pending
    (subst (HasRoom core.registry) c.requires.left c.requires.room)))) c.report-2.ensures

pub returns-clause-says : goal.returns-clause-says
returns-clause-says g c =
    let lists = c.args.self.now.registry in
    let path = c.args.path.now in
    let of_data = fires lists c.args.event Data path in
    let of_names = fires lists c.args.event Child path in
    on_ok_weaker c.report-2.result (λ told held pending same.
    said_both c.args.event path of_data of_names (said c.args.outputs.now.items) (said c.report.new.outputs.items)
    (said c.report-2.new.outputs.items) (c.in_ok-report.ensures of_data path c.fire-on_data.ensures.on_data)
    (told of_names path c.fire-on_data.ensures.on_child)) c.report-2.ensures
