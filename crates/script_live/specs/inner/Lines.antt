-- What the lines say that are read.
use Rattle.script_replay.specs.Lines.{begin_value_of, client_value_of}
use Rattle.script_live.specs.declared.live_line.LiveLine.{LiveLine}
use Rattle.script_live.specs.declared.live_line.LiveLine.TheVariants as live
use Rattle.script_live.specs.LiveLines.{LiveValue, ResumesLine, OpensLine, DrivesLine}

abbrev pub live_value_of : {A : Type 0} → LiveLine A → LiveValue
live_value_of (live.Resume line) = ResumesLine (begin_value_of line)
live_value_of live.Open = OpensLine
live_value_of (live.Client line) = DrivesLine (client_value_of line)
