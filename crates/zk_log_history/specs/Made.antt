-- The paths that are kept for each session.
use Rattle.std.specs.Prelude.{◌≡◌, ℤ, List, [], map}
use Rattle.std.specs.Option.{option_map_or}
use Rattle.std.specs.Ordering.{int_cmp}
use Rattle.std.specs.BTreeMap.{BTreeMap, get}
use Rattle.std.specs.declared.vec.Vec.{Vec}
use Rattle.zk_nodes.specs.Path.{Text, path_of}
use Rattle.zk_history.specs.HistoryView.{HistoryView}
use Rattle.zk_log_history.specs.Changes.{made_in}

abbrev pub paths_made : {A : Type 0} → BTreeMap ℤ (Vec Text A) → ℤ → List Text
paths_made made session = option_map_or (λ v. v.items) (get int_cmp made session) []

-- They are those at which the session made nodes of its own.
abbrev pub AreMade : {A : Type 0} → BTreeMap ℤ (Vec Text A) → HistoryView → Type 0
AreMade made kept = (session : ℤ) → map path_of (paths_made made session) ≡ made_in session kept.transactions
