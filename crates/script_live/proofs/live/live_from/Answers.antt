-- The client that was made begins as was asked, so the transcript is the one that `connected` ensures.
use Rattle.script_replay.specs.Lines.{begin_value_of}
use Rattle.script_live.proofs.live.live_from.Goals as goal

pub returns-in-Ok : goal.returns-in-Ok
returns-in-Ok g c = c.connected-transcript.ensures (begin_value_of c.args.begin) c.requires.first c.in-Ok.ensures.view
