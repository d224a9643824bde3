-- What contracts of private functions say of an index: nobody has to believe it.
use Rattle.std.specs.Prelude.{◌≡◌, ◌++◌, ◌∷◌, [], ⊤, Bool, is_some, IfSome, List, Option}
use Rattle.indexmap.specs.IndexMap.{get_by_text}
use Rattle.zk_nodes.specs.Path.{Text}
use Rattle.zk_nodes.specs.declared.side.Side.{Side}
use Rattle.zk_nodes.specs.declared.side.Side.TheVariants.{Data, Child}
use Rattle.zk_trees.specs.Trees.{aim_of, is_member}
use Rattle.zk_trees.specs.declared.index.Index.{Index}
use Rattle.zk_trees.specs.declared.member.Member.{Member}

-- whether a side of a path is in an index
abbrev pub has_aim : {A : Type 0} → Index A → Side × Text → Bool
has_aim index (Data, path) = is_some (get_by_text index.nodes path)
has_aim index (Child, path) = is_some (get_by_text index.names path)

-- An index has the sides of paths that are those of members, and no other.
abbrev pub IsIndexOf : {A N : Type 0} → Index A → List (Member A N) → Type 0
IsIndexOf index members = (aim : Side × Text) → has_aim index aim ≡ is_member aim members

-- the same of an index that may not have been made
abbrev pub IsIndexIfMade : {A N : Type 0} → Option (Index A) → List (Member A N) → Type 0
IsIndexIfMade index members = IfSome index (λ made. IsIndexOf made members)

-- What a member follows is added: an index of some members is one of these and a member that follows it.
abbrev pub AddsMember : {A : Type 0} → Side × Text → (old new : Option (Index A)) → Type 0
AddsMember {A} aim old new = (members more : List (Member A ⊤)) (one : Member A ⊤) → aim_of one.subject ≡ aim
    → more ≡ members ++ one ∷ [] → IsIndexIfMade old members → IsIndexIfMade new more
