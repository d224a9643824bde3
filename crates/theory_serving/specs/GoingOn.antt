-- A history that goes on.
use Rattle.std.specs.Prelude.{◌≡◌, List, ◌++◌}
use Rattle.zk_nodes.specs.History.{Transaction, History}

-- the same first tree, and transactions after those that were there
pub record GoesOn (h later : History) : Type 0 where
  pub first : later.first ≡ h.first
  pub more : List Transaction
  pub transactions : later.transactions ≡ h.transactions ++ more
