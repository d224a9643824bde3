-- What contracts of private functions say: nobody has to believe it.
use Rattle.std.specs.Prelude.{ℕ, ◌≡◌, ◌<◌, Bool, true, false, ◌&&◌, List, [], take, slice_index_or, Option, Some, None}
use Rattle.zk_turns.specs.Meaning.{Among}
use Rattle.zk_nodes.specs.Path.{Name}
use Rattle.zk_conclusions.specs.Numbers.{Kind, is_before, is_rival}
use Rattle.zk_conclusions.specs.Standings.{IsFirstOf}

-- the name at a place
abbrev pub name_at : List Name → ℕ → Name
name_at names place = slice_index_or names place []

-- the same of the first names of a list, and the name at a place of theirs
pub record IsLastOf (kind : Kind) (names : List Name) (own : Name) (count at : ℕ) : Type 0 where
  pub within : at < count
  pub rival : is_rival kind (name_at names at) ≡ true
  pub before : is_before (name_at names at) own ≡ true
  pub last : (name : Name) → Among name (take count names)
      → is_rival kind name ≡ true → is_before name own ≡ true → is_before (name_at names at) name ≡ false

-- what was found in the first names: no rival before this one, or the last
abbrev pub Found : Kind → List Name → Name → ℕ → Option ℕ → Type 0
Found kind names own count None = IsFirstOf kind (take count names) own
Found kind names own count (Some at) = IsLastOf kind names own count at

-- the name is after the last one that was found
abbrev pub is_after : List Name → Option ℕ → Name → Bool
is_after names None name = true
is_after names (Some at) name = is_before (name_at names at) name

-- a rival before this one, and after the last one that was found
abbrev pub is_later : Kind → List Name → Name → Option ℕ → Name → Bool
is_later kind names own last name = (is_rival kind name && is_before name own) && is_after names last name
