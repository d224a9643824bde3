-- What is known of places, and who is before one.
use Rattle.std.specs.Prelude.{ℕ, zero, suc, ℤ, ◌≡◌, ◌⊎◌, Bool, true, false, ◌&&◌, nat_lt, List, [], ◌∷◌, Option, Some, None}
use Rattle.std.specs.Prelude.{⊤, if◌then◌else◌}
use Rattle.std.specs.Ordering.{int_eq}
use Rattle.zk_nodes.specs.Path.{Text, Name, path_of, child_text, name_of}
use Rattle.zk_nodes.specs.PathFault.{child_fault}
use Rattle.zk_cache.specs.declared.held.Kept.{Kept}
use Rattle.zk_cache.specs.Kept.{Answer, Absent, Known, Full, is_good}
use Rattle.zk_session.specs.declared.states.State.{State}
use Rattle.zk_session.specs.declared.states.State.TheVariants.{Connected}
use Rattle.zk_conversation.specs.Pending.{calls_pending}
use Rattle.zk_limits.specs.declared.limits.TheConstants.{MOST_PENDING}
use Rattle.zk_turns.specs.View.{View}
use Rattle.zk_conclusions.specs.Numbers.{Kind}
use Rattle.zk_conclusions.specs.Predecessors.{IsPredecessor}
use Rattle.zk_contend.specs.Leases.{IsAmongOf}

-- the path of a name in a directory, if the name makes one
abbrev pub path_in : Text → Name → Option Text
path_in dir name = elim (child_fault dir name) [ None ↦ Some (child_text dir name) | Some fault ↦ None ]

-- The paths are those of the last rivals before this name, of this number: after the first each is that of the last one before the rival
-- whose path is before it in the list.
abbrev pub AreLast : (dir : Text) → Kind → List Name → (own : Name) → (count : ℕ) → (behind : List Text) → Type 0
AreLast dir kind names own zero [] = ⊤
AreLast dir kind names own (suc count) (path ∷ behind) = (name : Name) × IsPredecessor kind names own name
    × (path_in dir name ≡ Some path) × AreLast dir kind names name count behind
AreLast dir kind names own count behind = ⊥

-- Of the last rivals of this number the name of one makes no path.
abbrev pub HasNoPath : (dir : Text) → Kind → List Name → (own : Name) → (count : ℕ) → Type 0
HasNoPath dir kind names own zero = ⊥
HasNoPath dir kind names own (suc count) =
    (name : Name) × IsPredecessor kind names own name × ((path_in dir name ≡ None) ⊎ HasNoPath dir kind names name count)

-- The paths are those of the last `most` rivals before this name: one of them has to go before it is among the first `most`. There are
-- none if it is among them now, or if the name of one of those makes no path.
abbrev pub IsBehindName : (dir : Text) → Kind → (most : ℕ) → List Name → (own : Name) → (behind : List Text) → Type 0
IsBehindName dir kind most names own behind =
    ((behind ≡ []) × (IsAmongOf kind most names own ⊎ HasNoPath dir kind names own most)) ⊎ AreLast dir kind names own most behind

abbrev pub IsBehindOne : (dir : Text) → Kind → (most : ℕ) → List Name → (own : Option Name) → (behind : List Text) → Type 0
IsBehindOne dir kind most names None behind = behind ≡ []
IsBehindOne dir kind most names (Some own) behind = IsBehindName dir kind most names own behind

abbrev pub IsBehind : (dir : Text) → Kind → (most : ℕ) → List Name → (own : Text) → (behind : List Text) → Type 0
IsBehind dir kind most names own behind = IsBehindOne dir kind most names (name_of (path_of own)) behind

-- The same; and nobody is waited for beside a name of another family, since the place does not hold then, whoever has gone.
abbrev pub IsBehindWhere : (is_mixed : Bool) → (dir : Text) → Kind → (most : ℕ) → List Name → (own : Text) → (behind : List Text) → Type 0
IsBehindWhere true dir kind most names own behind = behind ≡ []
IsBehindWhere false dir kind most names own behind = IsBehind dir kind most names own behind

-- A node is kept and good: it is watched, so that its deletion is reported.
abbrev pub is_node : Answer → Bool
is_node Absent = false
is_node _ = true

abbrev pub is_kept : Option (Kept Answer) → Bool
is_kept None = false
is_kept (Some kept) = if is_good kept.mark then is_node kept.answer else false

-- the same of a node that is this session's
abbrev pub is_of : (session : ℤ) → Answer → Bool
is_of session Absent = false
is_of session (Known stat) = int_eq stat.ephemeral_owner session
is_of session (Full bytes stat) = int_eq stat.ephemeral_owner session

abbrev pub is_own : (session : ℤ) → Option (Kept Answer) → Bool
is_own session None = false
is_own session (Some kept) = if is_good kept.mark then is_of session kept.answer else false

-- whether the client shows this
abbrev pub shows_node : View → Text → Bool
shows_node view path = is_kept (view.cache.nodes path)

abbrev pub shows_own : View → Text → Bool
shows_own view path = is_own view.saved.session.session (view.cache.nodes path)

-- A server has accepted the connection, and there is room for a call.
abbrev pub is_connected : State → Bool
is_connected Connected = true
is_connected _ = false

abbrev pub is_ready : View → Bool
is_ready view = is_connected view.standing.state && nat_lt (calls_pending view.pending) MOST_PENDING
