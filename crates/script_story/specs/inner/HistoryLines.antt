-- What contracts of private functions say: nobody has to believe it.
use Rattle.std.specs.Option.{option_map}
use Rattle.zk_nodes.specs.History.{Change}
use Rattle.zk_history.specs.Made.{change_of}
use Rattle.script_story.specs.declared.history_line.HistoryLine.{HistoryLine}
use Rattle.script_story.specs.HistoryLines.{LineValue, NodeLine, BeginLine, ChangeLine, AskLine}
use Rattle.script_story.specs.declared.history_line.HistoryLine.TheVariants as line

abbrev pub value_of : {A : Type 0} → HistoryLine A → LineValue
value_of (line.Node path bytes time) = NodeLine path (option_map (λ v. v.items) bytes) time
value_of (line.Begin zxid time) = BeginLine zxid time
value_of (line.Change change) = ChangeLine (change_of change)
value_of (line.Ask side zxid path) = AskLine side zxid path
