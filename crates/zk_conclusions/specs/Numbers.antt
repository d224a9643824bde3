-- Names that end in a number, and who is before whom by it.
use Rattle.std.specs.Prelude.{ℕ, ◌-◌, nat_lt, nat_le, nat_eq, Bool, true, false, ◌&&◌, ◌||◌, not, List, length, take, drop}
use Rattle.std.specs.List.{list_all, list_any, ends_with}
use Rattle.std.specs.Ordering.{is_lt}
use Rattle.std.specs.declared.cmp.Ordering.{Ordering}
use Rattle.std.specs.declared.cmp.Ordering.TheVariants.{Less, Equal, Greater}
use Rattle.zk_nodes.specs.Path.{Name}
use Rattle.zk_nodes.specs.Names.{name_cmp}

-- 0 to 9
abbrev pub is_digit : ℕ → Bool
is_digit byte = nat_le 48 byte && nat_le byte 57

-- the last ten bytes, and those before them
abbrev pub number_of : Name → Name
number_of name = drop (length name - 10) name

abbrev pub front_of : Name → Name
front_of name = take (length name - 10) name

-- The name ends in ten digits, right after the marker.
abbrev pub is_numbered : Name → Name → Bool
is_numbered marker name = not (nat_lt (length name) 10) && (list_all is_digit (number_of name) && ends_with nat_eq (front_of name) marker)

-- whether the one is before the other by their numbers; where these are the same, it is as said
abbrev pub by_number : Ordering → Bool → Bool
by_number Less same = true
by_number Equal same = same
by_number Greater same = false

-- The one name has a smaller number, or the same number and is before the other in the order of bytes.
abbrev pub is_before : Name → Name → Bool
is_before one other = by_number (name_cmp (number_of one) (number_of other)) (is_lt (name_cmp one other))

-- How a contender is named, and for whom it waits: the marker of its own name, and those of its rivals.
pub record Kind : Type 0 where
  pub own : Name
  pub against : List Name

-- the name is a rival's
abbrev pub is_rival : Kind → Name → Bool
is_rival kind name = list_any (λ marker. is_numbered marker name) kind.against

-- the name is a rival's or one of its own kind
abbrev pub is_one : Kind → Name → Bool
is_one kind name = is_numbered kind.own name || is_rival kind name
