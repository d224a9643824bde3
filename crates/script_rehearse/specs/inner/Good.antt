-- What contracts of private functions say: nobody has to believe it.
use Rattle.std.specs.Prelude.{◌≡◌, ℕ, List}
use Rattle.zk_nodes.specs.Path.{Text}
use Rattle.zk_history.specs.HistoryView.{HistoryView as History}
use Rattle.zk_nodes.specs.declared.side.Side.{Side}
use Rattle.zk_nodes.specs.declared.side.Side.TheVariants.{Data, Child}
use Rattle.zk_turns.specs.View.{View}
use Rattle.script_rehearse.specs.Good.{data_verdict, TellsNamesVerdict}

-- What is printed of a path on one side.
abbrev pub TellsVerdict : Side → View → History → Text → List ℕ → Type 0
TellsVerdict Data client history path text = text ≡ data_verdict client history path
TellsVerdict Child client history path text = TellsNamesVerdict client history path text
