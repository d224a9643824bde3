-- What contracts of private functions say: nobody has to believe it.
use Rattle.std.specs.Prelude.{◌≡◌, Bool, true, false, List}
use Rattle.zk_nodes.specs.Path.{Name}
use Rattle.zk_turns.specs.Meaning.{Among}
use Rattle.zk_contend.specs.declared.place.Ask.{Ask}
use Rattle.zk_contend.specs.declared.place.Ask.TheVariants.{List as Lists, ReadBehind}
use Rattle.zk_contend.specs.Settling.{is_surplus}

-- what was asked is about the place itself
abbrev pub is_about_place : Ask → Bool
is_about_place Lists = false
is_about_place (ReadBehind place) = false
is_about_place _ = true

-- the node of this name is to be deleted
abbrev pub IsSurplusOf : (names : List Name) → (front least : Name) → (is_given_up : Bool) → Name → Type 0
IsSurplusOf names front least true name = name ≡ least
IsSurplusOf names front least false name = Among name names × (is_surplus front least name ≡ true)
