-- What contracts of private functions say: nobody has to believe it.
use Rattle.std.specs.Prelude.{Result}
use Rattle.std.specs.Prelude.{Ok, Err}
use Rattle.zk_history.specs.declared.history_fault.HistoryFault.{HistoryFault}
use Rattle.script_words.specs.declared.script_fault.ScriptFault.{ScriptFault}
use Rattle.script_story.specs.Stories.{reason_of}

-- what a history answers to a line
abbrev pub allowed : {X : Type 0} → Result X HistoryFault → Result X ScriptFault
allowed (Ok done) = Ok done
allowed (Err why) = Err (reason_of why)
