-- The first call that waits, copied with its ticket, is the next one: `next_there`, from what indexing and `Call::copied` ensure.
use Rattle.std.proofs.Common.{refl}
use Rattle.zk_conversation.specs.Views.{call_view}
use Rattle.zk_calls.proofs.Answering.{next_there}
use Rattle.zk_calls.proofs.turn.copied_at.Goals as goal

pub returns : goal.returns
returns g c =
    next_there c.args.entries.now.items c.args.place c.index.result.now c.index-2.result.now c.index.result.now.ticket
    (call_view c.in_ok-call.call) c.requires c.index.ensures c.index-2.ensures
    refl c.in_ok-call.ensures
