-- What is in an index, path after path: one more path is there, and else what was there before, so an index follows its members.
use Rattle.std.proofs.Common.{◌≡◌, ◌<◌, ◌+◌, ◌∙◌, ℕ, Bool, true, false, ◌&&◌, ◌||◌, List, [], ◌∷◌, ◌++◌, length, get_or, take, bytes_eq}
use Rattle.std.proofs.Common.{refl, sym, ap}
use Rattle.std.proofs.Common.{Option, Some, string_bytes, if◌then◌else◌}
use Rattle.std.specs.Map.{lookup}
use Rattle.std.specs.Prelude.{is_some, Result, Ok, Err, OnOk}
use Rattle.std.proofs.lemmas.List.Folds.{list_any_more, list_any-append}
use Rattle.indexmap.specs.IndexMap.{get_by_text}
use Rattle.zk_nodes.specs.Path.{Text}
use Rattle.zk_nodes.specs.declared.side.Side.{Side}
use Rattle.zk_nodes.specs.declared.side.Side.TheVariants.{Data, Child}
use Rattle.zk_trees.specs.Trees.{aim_of, is_member, is_side}
use Rattle.zk_trees.specs.inner.Trees.{has_aim, IsIndexOf}
use Rattle.zk_trees.specs.declared.index.Index.{Index}
use Rattle.zk_trees.specs.declared.member.Member.{Member}
use Rattle.zk_trees.specs.declared.subject.NodeSide.{NodeSide}

-- what is put somewhere is there
pub some_if : {X : Type 0} (b : Bool) (x : X) (o : Option X) → is_some (if b then Some x else o) ≡ (b || is_some o)
some_if true x o = refl
some_if false x o = refl

or_false : (a : Bool) → (a || false) ≡ a
or_false true = refl
or_false false = refl

either : (a b : Bool) → (a || b) ≡ (b || a)
either true true = refl
either true false = refl
either false true = refl
either false false = refl

pub on_ok : {X E : Type 0} {P Q : Type 0} (result : Result X E) → (P → Q) → OnOk result P → OnOk result Q
on_ok (Ok x) to h = to h
on_ok (Err e) to h = tt

-- an index of nothing
pub none_in : {A : Type 0} (index : Index A) → index.nodes.entries ≡ [] → index.names.entries ≡ []
    → (aim : Side × Text) → has_aim index aim ≡ false
none_in index nodes names (Data, path) = ap (λ es. is_some (lookup (λ k. bytes_eq path (string_bytes k)) es)) nodes
none_in index nodes names (Child, path) = ap (λ es. is_some (lookup (λ k. bytes_eq path (string_bytes k)) es)) names

-- a path is in the index, of one side
module _ {A : Type 0} (old new : Index A) (side : Side) (path : Text) where
  abbrev Adds : Type 0
  Adds = (aim : Side × Text) → has_aim new aim ≡ ((is_side side aim.0 && bytes_eq path aim.1) || has_aim old aim)

  pub added_data : side ≡ Data → new.names ≡ old.names
      → ((other : List ℕ) → is_some (get_by_text new.nodes other) ≡ (bytes_eq path other || is_some (get_by_text old.nodes other))) → Adds
  added_data is same adds (Data, at) = adds at ∙ ap (λ (s : Side). (is_side s Data && bytes_eq path at) || has_aim old (Data, at)) (sym is)
  added_data is same adds (Child, at) = ap (λ m. is_some (get_by_text m at)) same
      ∙ ap (λ (s : Side). (is_side s Child && bytes_eq path at) || has_aim old (Child, at)) (sym is)

  pub added_names : side ≡ Child → new.nodes ≡ old.nodes
      → ((other : List ℕ) → is_some (get_by_text new.names other) ≡ (bytes_eq path other || is_some (get_by_text old.names other))) → Adds
  added_names is same adds (Child, at) =
      adds at ∙ ap (λ (s : Side). (is_side s Child && bytes_eq path at) || has_aim old (Child, at)) (sym is)
  added_names is same adds (Data, at) = ap (λ m. is_some (get_by_text m at)) same
      ∙ ap (λ (s : Side). (is_side s Data && bytes_eq path at) || has_aim old (Data, at)) (sym is)

-- one more member is in the index, by what it follows
pub indexed_push : {A N : Type 0} (old new : Index A) (members more : List (Member A N)) (subject : NodeSide A) (one : Member A N)
    → aim_of one.subject ≡ aim_of subject → more ≡ members ++ one ∷ []
    → ((aim : Side × Text) → has_aim new aim ≡ ((is_side subject.side aim.0 && bytes_eq subject.path aim.1) || has_aim old aim))
    → IsIndexOf old members → IsIndexOf new more
indexed_push old new members more subject one same last adds is aim =
    let of_aim = λ (at : Side × Text). is_side at.0 aim.0 && bytes_eq at.1 aim.1 in
    adds aim ∙ ap (λ b. of_aim (aim_of subject) || b) (is aim)
    ∙ ap (λ (at : Side × Text). of_aim at || is_member aim members) (sym same)
    ∙ either (of_aim (aim_of one.subject)) (is_member aim members)
    ∙ ap (λ b. is_member aim members || b) (sym (or_false (of_aim (aim_of one.subject))))
    ∙ sym (list_any-append (λ m. of_aim (aim_of m.subject)) members (one ∷ []))
    ∙ ap (is_member aim) (sym last)

-- one more member is in the index
pub indexed_more : {A N : Type 0} (old new : Index A) (members : List (Member A N)) (index : ℕ) (one : Member A N)
    → index < length members → one ≡ get_or members index one
    → ((aim : Side × Text) → has_aim new aim ≡ ((is_side one.subject.side aim.0 && bytes_eq one.subject.path aim.1) || has_aim old aim))
    → IsIndexOf old (take index members) → IsIndexOf new (take (index + 1) members)
indexed_more {A} {N} old new members index one within at adds is aim =
    let test = λ (m : Member A N). is_side m.subject.side aim.0 && bytes_eq m.subject.path aim.1 in
    adds aim ∙ ap (λ b. test one || b) (is aim) ∙ either (test one) (is_member aim (take index members))
    ∙ ap (λ m. is_member aim (take index members) || test m) at
    ∙ sym (list_any_more test members index one within)
