-- What is true of a write, and when no watches are still to be set again.
use Rattle.zk_conversation.specs.Calls as call
use Rattle.zk_conversation.specs.Calls.{Call}
use Rattle.zk_nodes.specs.Path.{NodePath, path_eq, path_of}
use Rattle.zk_nodes.specs.History.{Change, Creates, Sets, Deletes, Transaction, History}
use Rattle.std.specs.Prelude.{ℕ, ℤ, ◌≡◌, Bool, false, List, [], ◌∷◌, Option, Some, None, ⊤}
use Rattle.zk_conversation.specs.Results.{Result, Found, Made, Done}
use Rattle.zk_turns.specs.Past.{Left}
use Rattle.zk_turns.specs.Meaning.{Among}
use Rattle.zk_laws.specs.Server.{IsMadeOf, is_sequential}
use Rattle.zk_laws.specs.Messages.{Request, Restore}

-- the change is one of the transaction with this zxid
abbrev pub HasChange : History → ℕ → Change → Type 0
HasChange h zxid change = (one : Transaction) × Among one h.transactions × (one.zxid ≡ zxid) × Among change one.changes

-- A write that is answered with 0 is a change of the transaction with its reply's zxid.
abbrev pub IsTrueWrite : History → Call → ℕ → Result → Type 0
IsTrueWrite h (call.SetData path content version) zxid (Found stat) = HasChange h zxid (Sets (path_of path) content)
IsTrueWrite h (call.Create path content mode) zxid (Made at) =
    (owner : ℤ) × IsMadeOf path (is_sequential mode) at × HasChange h zxid (Creates (path_of at) content owner)
IsTrueWrite h (call.Delete path version) zxid Done = HasChange h zxid (Deletes (path_of path))
IsTrueWrite h _ zxid _ = ⊤

-- No setWatches request is still to be processed.
abbrev pub AreRestored : List Request → Type 0
AreRestored [] = ⊤
AreRestored (Restore is_last relative part ∷ requests) = ⊥
AreRestored (_ ∷ requests) = AreRestored requests

-- the path is the one at which the client counts a watch as left
abbrev pub sets_at : {A : Type 0} → Option (Left A) → NodePath → Bool
sets_at None path = false
sets_at (Some left) path = path_eq path (path_of left.path)
