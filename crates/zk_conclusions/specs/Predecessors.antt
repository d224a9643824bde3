-- Which rival of a listing to wait for.
use Rattle.std.specs.Prelude.{◌≡◌, true, false, List}
use Rattle.zk_turns.specs.Meaning.{Among}
use Rattle.zk_nodes.specs.Path.{Name}
use Rattle.zk_conclusions.specs.Numbers.{Kind, is_before, is_rival}

-- The name is that of the last rival before this one: no listed rival that is before this one is after it.
pub record IsPredecessor (kind : Kind) (names : List Name) (own name : Name) : Type 0 where
  pub among : Among name names
  pub rival : is_rival kind name ≡ true
  pub before : is_before name own ≡ true
  pub last : (other : Name) → Among other names → is_rival kind other ≡ true → is_before other own ≡ true → is_before name other ≡ false
