-- What the program's values mean.
use Rattle.std.specs.Prelude.{ℤ, List, map}
use Rattle.zk_nodes.specs.Path.{path_of}
use Rattle.std.specs.Option.{option_map}
use Rattle.zk_nodes.specs.History as model
use Rattle.zk_history.specs.HistoryView.{natural}
use Rattle.zk_history.specs.declared.change.Change.{Change}
use Rattle.zk_history.specs.declared.change.Change.TheVariants.{Create, Set, Delete}
use Rattle.zk_history.specs.declared.change.Transaction.{Transaction}

-- a change of the program, as a change of the tree
abbrev pub change_of : {A : Type 0} → Change A → model.Change
change_of (Create path bytes owner) = model.Creates (path_of path) (option_map (λ v. v.items) bytes) owner
change_of (Set path bytes) = model.Sets (path_of path) (option_map (λ v. v.items) bytes)
change_of (Delete path) = model.Deletes (path_of path)

-- a transaction of the program, with its changes
abbrev pub transaction_of : {A : Type 0} → Transaction A → model.Transaction
transaction_of one = record { zxid = one.zxid; time = one.time; changes = map change_of one.changes.items }

-- a transaction, as it is told
abbrev pub transaction_told : {A : Type 0} → ℤ → ℤ → List (Change A) → model.Transaction
transaction_told zxid time changes = record { zxid = natural zxid; time = time; changes = map change_of changes }
