-- What contracts of private functions say of the paths that are reported: nobody has to believe it.
use Rattle.std.specs.Prelude.{◌≡◌, Bool, List, is_some}
use Rattle.indexmap.specs.IndexMap.{get_by_text}
use Rattle.zk_nodes.specs.Path.{Text}
use Rattle.zk_turns.specs.Turns.{Output}
use Rattle.zk_follow.specs.declared.reported.Reported.{Reported}
use Rattle.zk_follow.specs.Following.{is_reported}

-- whether a path is among these
abbrev pub has_report_of : {A : Type 0} → Reported A → Text → Bool
has_report_of reported path = is_some (get_by_text reported.paths path)

-- They are the paths that outputs report, and no other.
abbrev pub AreReported : {A : Type 0} → Reported A → List Output → Type 0
AreReported reported outputs = (path : Text) → has_report_of reported path ≡ is_reported path outputs
