-- What contracts of private functions say of whom is looked at.
use Rattle.std.specs.Prelude.{ℕ, ◌≡◌, ◌⊎◌, ◌++◌, ◌∷◌, [], fold, true, List, Option, Some, None, IfSome}
use Rattle.std.specs.List.{filter}
use Rattle.std.specs.Map.{keys_of}
use Rattle.zk_nodes.specs.Path.{Text}
use Rattle.zk_turns.specs.View.{View}
use Rattle.zk_contend.specs.declared.contender.LockContender.{LockContender}
use Rattle.zk_contend.specs.declared.place.Ask.{Ask}
use Rattle.zk_contend.specs.Contenders.{is_about}
use Rattle.zk_contend.specs.Collections.{is_in, sooner, until_of}
use Rattle.zk_contend.specs.Dues.{IsAsleep, IsDue}

-- Of a contender that is there this is due.
abbrev pub IsDueAt : {A : Type 0} → View → (now : ℕ) → Option (LockContender A) → Ask → Type 0
IsDueAt view now None ask = ⊥
IsDueAt view now (Some contender) ask = IsDue view now contender ask

-- the ticket is the one of which it is due
abbrev pub IsIt : Option (ℕ × Ask) → (ticket : ℕ) → Type 0
IsIt None ticket = ⊥
IsIt (Some it) ticket = ticket ≡ it.0

-- It is looked at again, or sleeps, or is the one.
abbrev pub Stays : {A : Type 0} → View → Option (LockContender A) → Option (ℕ × Ask) → (ticket : ℕ) → (new : List ℕ) → Type 0
Stays view one due ticket new = (is_in ticket new ≡ true) ⊎ (IfSome one (IsAsleep view) ⊎ IsIt due ticket)

-- It is looked at after the others, or it sleeps.
abbrev pub Keeps : {A : Type 0} → View → Option (LockContender A) → (ticket : ℕ) → (old new : List ℕ) → Type 0
Keeps view one ticket old new = (new ≡ old ++ ticket ∷ []) ⊎ ((new ≡ old) × IfSome one (IsAsleep view))

-- the tickets of those that a report of a path is about
abbrev pub about : {A : Type 0} → Text → List (ℕ × LockContender A) → List ℕ
about path entries = keys_of (filter (λ e. is_about path e.1) entries)

-- the first moment at which a pause of one of these is over
abbrev pub first_of : {A : Type 0} → (one : ℕ → Option (LockContender A)) → List ℕ → Option ℕ
first_of one tickets = fold (λ first ticket. sooner first (until_of (one ticket))) None tickets
