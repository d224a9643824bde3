-- What becomes of the subjects that are followed is what is told of trees, news after news (`Says`): each part of a tending tells so.
use Rattle.std.proofs.Common.{◌≡◌, ◌+◌, ◌++◌, ◌∷◌, ◌∙◌, ℕ, Bool, true, false, List, [], refl, sym, ap, append_assoc, append-nil}
use Rattle.std.specs.List.{FoldsTo}
use Rattle.zk_nodes.specs.declared.side.Side.{Side}
use Rattle.zk_nodes.specs.Path.{Text}
use Rattle.zk_follow.specs.declared.subject.Subject.{Subject}
use Rattle.zk_trees.specs.Trees.{is_settled, tickets_gone}
use Rattle.zk_trees.specs.Tending.{is_same, lacks_nothing, shifted, shifted_by, tells, Bed, Footing, Grows, Joins, LeavesIt, LetsGo}
use Rattle.zk_trees.specs.Tending.{NotesBoundWhere, PlantsBed, TakesAllOn, TakesOnWhere, TellsWhole, TendsEach, TendsOneWhere}
use Rattle.zk_trees.specs.Tending.{TendsTree, TreeTold}
use Rattle.zk_trees.specs.declared.tree.Tree.{Tree}

-- more is told, and the subjects come and go by that
pub record Says {A : Type 0} (old new : Footing A) : Type 0 where
  pub more : List TreeTold
  pub told : new.told ≡ old.told ++ more
  pub subjects : new.subjects ≡ shifted_by more old.subjects

shifted_on : {A : Type 0} (first rest : List TreeTold) (subjects : List (Subject A))
    → shifted_by rest (shifted_by first subjects) ≡ shifted_by (first ++ rest) subjects
shifted_on [] rest subjects = refl
shifted_on (one ∷ first) rest subjects = shifted_on first rest (shifted one subjects)

silent : {A : Type 0} (old new : Footing A) → new.told ≡ old.told → new.subjects ≡ old.subjects → Says old new
silent old new told subjects = record { more = []; told = told ∙ sym (append-nil old.told); subjects = subjects }

same : {A : Type 0} (old new : Footing A) → new ≡ old → Says old new
same {A} old new is = silent old new (ap (λ (g : Footing A). g.told) is) (ap (λ (g : Footing A). g.subjects) is)

one : {A : Type 0} (told : TreeTold) (old new : Footing A) → new ≡ tells told old → Says old new
one {A} told old new is =
    record { more = told ∷ []; told = ap (λ (g : Footing A). g.told) is; subjects = ap (λ (g : Footing A). g.subjects) is }

both : {A : Type 0} (old between new : Footing A) → Says old between → Says between new → Says old new
both old between new first rest = record {
  more = first.more ++ rest.more;
  told = rest.told ∙ ap (λ l. l ++ rest.more) first.told ∙ append_assoc old.told first.more rest.more;
  subjects = rest.subjects ∙ ap (shifted_by rest.more) first.subjects ∙ shifted_on first.more rest.more old.subjects;
}

-- ---- a tree

joins : {A : Type 0} (ticket : ℕ) (is_found : Bool) (aim : Side × Text) (old new : Bed A)
    → Joins ticket is_found aim old new → Says old.footing new.footing
joins {A} ticket is_found aim old new does = one _ old.footing new.footing (ap (λ (b : Bed A). b.footing) does.same)

takes_where : {A : Type 0} (is : Bool) (aim : Side × Text) (old new : Bed A) → TakesOnWhere is aim old new → Says old.footing new.footing
takes_where {A} true aim old new is = same old.footing new.footing (ap (λ (b : Bed A). b.footing) is)
takes_where false aim old new does =
    let begun = record old.footing { next = old.footing.next + 1 } in
    both old.footing begun new.footing (silent old.footing begun refl refl)
    (joins old.footing.next true aim (record old { footing = begun }) new does)

takes_all : {A : Type 0} (aims : List (Side × Text)) (old new : Bed A) → TakesAllOn aims old new → Says old.footing new.footing
takes_all {A} [] old new is = same old.footing new.footing (ap (λ (b : Bed A). b.footing) (sym is))
takes_all (aim ∷ aims) old new does =
    both old.footing does.0.footing new.footing (takes_where (is_settled old.footing.view aim old.members) aim old does.0 does.1)
    (takes_all aims does.0 new does.2)

bound_where : {A : Type 0} (is is_bounded : Bool) (old new : Bed A) → NotesBoundWhere is is_bounded old new → Says old.footing new.footing
bound_where {A} true is_bounded old new is = same old.footing new.footing (ap (λ (b : Bed A). b.footing) is)
bound_where {A} false is_bounded old new is = one _ old.footing new.footing (ap (λ (b : Bed A). b.footing) is)

whole : {A : Type 0} (is_whole : Bool) (old new : Bed A) → TellsWhole is_whole old new → Says old.footing new.footing
whole {A} true old new is = one _ old.footing new.footing (ap (λ (b : Bed A). b.footing) is)
whole {A} false old new is = same old.footing new.footing (ap (λ (b : Bed A). b.footing) is)

grows : {A : Type 0} (old new : Bed A) → Grows old new → Says old.footing new.footing
grows old new does =
    both old.footing does.noted.footing new.footing
    (both old.footing does.last.footing does.noted.footing (takes_all does.wants.aims old does.last does.takes)
    (bound_where (is_same does.last.is_bounded does.wants.is_bounded) does.wants.is_bounded does.last does.noted does.bound))
    (whole (lacks_nothing does.wants) does.noted new does.whole)

leaves_all : {A : Type 0} (tickets : List ℕ) (old new : Bed A) → FoldsTo (λ at ticket after. LeavesIt ticket at after) old tickets new
    → Says old.footing new.footing
leaves_all {A} [] old new is = same old.footing new.footing (ap (λ (b : Bed A). b.footing) (sym is))
leaves_all {A} (ticket ∷ tickets) old new does =
    both old.footing does.0.footing new.footing (one _ old.footing does.0.footing (ap (λ (b : Bed A). b.footing) does.1))
    (leaves_all tickets does.0 new does.2)

tends_tree : {A : Type 0} (old new : Bed A) → TendsTree old new → Says old.footing new.footing
tends_tree old new does =
    both old.footing does.between.footing new.footing
    (leaves_all (tickets_gone old.footing.view old.members) _ does.between does.lets) (grows does.between new does.grows)

-- ---- all trees

tends_one : {A : Type 0} (is_behind : Bool) (was is : Tree A) (old new : Footing A) → TendsOneWhere is_behind was is old new → Says old new
tends_one true was is old new does = tends_tree _ _ does.0
tends_one false was is old new does = same old new does.1

pub tends_each : {A : Type 0} (olds news : List (Tree A)) (old new : Footing A) → TendsEach olds news old new → Says old new
tends_each [] [] old new is = same old new is
tends_each (tree ∷ olds) (after ∷ news) old new does =
    both old does.0 new (tends_one tree.is_behind tree after old does.0 does.1) (tends_each olds news does.0 new does.2)
tends_each [] (after ∷ news) old new does = absurd does
tends_each (tree ∷ olds) [] old new does = absurd does

pub plants_bed : {A : Type 0} (ticket : ℕ) (root : Text) (most : ℕ) (old : Footing A) (new : Bed A)
    → PlantsBed ticket root most old new → Says old new.footing
plants_bed ticket root most old new does =
    let begun = record old { next = old.next + 1 } in
    both old begun new.footing (silent old begun refl refl)
    (both begun does.with_data.footing new.footing (joins _ _ _ _ does.with_data does.data_joins)
    (joins _ _ _ does.with_data new does.names_join))

pub uproots_all : {A : Type 0} (its : ℕ) (tickets : List ℕ) (old new : Footing A)
    → FoldsTo (λ at ticket after. after ≡ tells (LetsGo its ticket) at) old tickets new → Says old new
uproots_all its [] old new is = same old new (sym is)
uproots_all its (ticket ∷ tickets) old new does =
    both old does.0 new (one (LetsGo its ticket) old does.0 does.1) (uproots_all its tickets does.0 new does.2)

-- what begins with nothing told
pub from_none : {A : Type 0} (old new : Footing A) → old.told ≡ [] → Says old new → new.subjects ≡ shifted_by new.told old.subjects
from_none old new none says =
    says.subjects ∙ ap (λ l. shifted_by l old.subjects) (sym (says.told ∙ ap (λ l. l ++ says.more) none))
