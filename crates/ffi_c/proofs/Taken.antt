-- What is told of trees, step by step: a side of a node is taken on by the next ticket, which is raised by one then, or by that of its
-- tree. So the next ticket is raised by no more than was taken on, and each that was told is below what it is raised to.
use Rattle.std.proofs.Common.{◌≡◌, ◌++◌, ◌∷◌, ◌+◌, ◌<◌, ◌≤◌, ℕ, Bool, true, false, List, [], Option, Some, None, cond, map, refl, sym, ap}
use Rattle.std.proofs.Common.{arith, append_assoc, subst, ◌∙◌}
use Rattle.std.proofs.lemmas.List.{append-nil}
use Rattle.std.proofs.lemmas.List.Sums.{sum_by-append}
use Rattle.std.specs.Prelude.{⊤}
use Rattle.std.specs.List.{AllByRecursion, FoldsTo}
use Rattle.zk_nodes.specs.Path.{Text}
use Rattle.zk_nodes.specs.declared.side.Side.{Side}
use Rattle.zk_nodes.specs.declared.side.Side.TheVariants.{Child, Data}
use Rattle.zk_trees.specs.Tending.{Bed, Footing, Grows as GrowsBed, LeavesIt, NotesBoundWhere, Plants, TakesItOn, TakesOnWhere}
use Rattle.zk_trees.specs.Tending.{TellsWhole, TendsEach, TendsOneWhere, TendsTree, TendsWhere, Uproots, UprootsSo}
use Rattle.zk_trees.specs.Tending.{TreeTold, TakesOn, LetsGo, IsBounded, IsWhole, bed_of, found, is_same, lacks_nothing, tells}
use Rattle.zk_trees.specs.Trees.{is_settled, tickets_gone}
use Rattle.zk_trees.specs.declared.tree.Tree.{Tree}
use Rattle.zk_trees.specs.declared.tree.Trees.{Trees}
use Rattle.ffi_c.specs.Pasts.{is_taken, taken}
use Rattle.ffi_c.proofs.Heard.{each_both}

pub taken_both : (first second : List TreeTold) → taken (first ++ second) ≡ taken first + taken second
taken_both first second = sum_by-append (λ one. cond (is_taken one) 1 0) first second

module _ (limit : ℕ) where
  -- A side of a node that is taken on has a ticket below the limit.
  abbrev pub IsUnder : TreeTold → Type 0
  IsUnder (TakesOn tree ticket side path) = ticket < limit
  IsUnder _ = ⊤

  abbrev pub AreUnder : List TreeTold → Type 0
  AreUnder told = AllByRecursion IsUnder told

  -- While this is told, the next ticket is raised from the first to the last, by no more than is taken on; and if it is raised no further
  -- than the limit, each side has a ticket below that.
  pub record Raises (first : ℕ) (told : List TreeTold) (last : ℕ) : Type 0 where
    pub rises : first ≤ last
    pub count : last ≤ first + taken told
    pub under : last ≤ limit → AreUnder told

  pub raises_none : (next : ℕ) → Raises next [] next
  raises_none next = record { rises = omega arith; count = omega arith; under = λ within. tt }

  pub raises_both : (first between last : ℕ) (told more : List TreeTold) → Raises first told between → Raises between more last
      → Raises first (told ++ more) last
  raises_both first between last told more one two =
      let rises = one.rises in
      let then_rises = two.rises in
      record {
        rises = omega (arith, rises, then_rises);
        count = let count = one.count in let then_count = two.count in let sum = taken_both told more in
            omega (arith, count, then_count, sum);
        under = λ within. each_both IsUnder told more (one.under (omega (arith, then_rises, within))) (two.under within);
      }

  module _ {A : Type 0} where
    -- So it is from one footing to another, by what is told in between.
    pub record Leads (old new : Footing A) : Type 0 where
      pub more : List TreeTold
      pub told : new.told ≡ old.told ++ more
      pub raises : Raises old.next more new.next

    pub stays : (old new : Footing A) → new ≡ old → Leads old new
    stays old new same = subst (λ (f : Footing A). Leads old f) (sym same)
        (record { more = []; told = sym (append-nil old.told); raises = raises_none old.next })

    on : (old between new : Footing A) → Leads old between → Leads between new → Leads old new
    on old between new one two = record {
      more = one.more ++ two.more;
      told = two.told ∙ ap (λ t. t ++ two.more) one.told ∙ append_assoc old.told one.more two.more;
      raises = raises_both old.next between.next new.next one.more two.more one.raises two.raises;
    }

    -- This is told, and the next ticket is raised to `last`.
    tells_one : (one : TreeTold) (last : ℕ) (old new : Footing A) → Raises old.next (one ∷ []) last
        → new ≡ tells one (record old { next = last }) → Leads old new
    tells_one one last old new raises is = subst (λ (f : Footing A). Leads old f) (sym is)
        (record { more = one ∷ []; told = refl; raises = raises })

    -- It is not that a side is taken on.
    besides : (one : TreeTold) → IsUnder one → (old new : Footing A) → new ≡ tells one old → Leads old new
    besides one under old new is =
        tells_one one old.next old new (record { rises = omega arith; count = omega arith; under = λ within. (under, tt) }) is

    -- ---- a tree within a step

    -- What is so of each step of a fold is so of the whole.
    folds : {S X : Type 0} (footing : S → Footing A) (R : S → X → S → Type 0)
        → ((x : X) (old new : S) → R old x new → Leads (footing old) (footing new))
        → (xs : List X) (old new : S) → FoldsTo R old xs new → Leads (footing old) (footing new)
    folds footing R each [] old new same = stays (footing old) (footing new) (ap footing (sym same))
    folds footing R each (x ∷ xs) old new goes =
        on (footing old) (footing goes.0) (footing new) (each x old goes.0 goes.1) (folds footing R each xs goes.0 new goes.2)

    takes_on : (is_settled : Bool) (aim : Side × Text) (old new : Bed A) → TakesOnWhere is_settled aim old new
        → Leads old.footing new.footing
    takes_on true aim old new same = stays old.footing new.footing (ap (λ (b : Bed A). b.footing) same)
    takes_on false aim old new joins =
        tells_one (TakesOn old.ticket old.footing.next aim.0 aim.1) (old.footing.next + 1) old.footing new.footing
        (record { rises = omega arith; count = omega arith; under = λ within. (omega (arith, within), tt) })
        (ap (λ (b : Bed A). b.footing) joins.same)

    notes : (is_same is_bounded : Bool) (old new : Bed A) → NotesBoundWhere is_same is_bounded old new → Leads old.footing new.footing
    notes true is_bounded old new same = stays old.footing new.footing (ap (λ (b : Bed A). b.footing) same)
    notes false is_bounded old new other =
        besides (IsBounded old.ticket is_bounded) tt old.footing new.footing (ap (λ (b : Bed A). b.footing) other)

    tells_whole : (is_whole : Bool) (old new : Bed A) → TellsWhole is_whole old new → Leads old.footing new.footing
    tells_whole true old new told = besides (IsWhole old.ticket) tt old.footing new.footing (ap (λ (b : Bed A). b.footing) told)
    tells_whole false old new same = stays old.footing new.footing (ap (λ (b : Bed A). b.footing) same)

    leaves : (ticket : ℕ) (old new : Bed A) → LeavesIt ticket old new → Leads old.footing new.footing
    leaves ticket old new left =
        besides (LetsGo old.ticket ticket) tt old.footing new.footing (ap (λ (b : Bed A). b.footing) left)

    grows : (old new : Bed A) → GrowsBed old new → Leads old.footing new.footing
    grows old new g =
        on old.footing g.last.footing new.footing
        (folds (λ (b : Bed A). b.footing) (λ at aim after. TakesItOn aim at after)
        (λ aim at after takes. takes_on (is_settled at.footing.view aim at.members) aim at after takes) g.wants.aims old g.last g.takes)
        (on g.last.footing g.noted.footing new.footing
        (notes (is_same g.last.is_bounded g.wants.is_bounded) g.wants.is_bounded g.last g.noted g.bound)
        (tells_whole (lacks_nothing g.wants) g.noted new g.whole))

    tends_tree : (old new : Bed A) → TendsTree old new → Leads old.footing new.footing
    tends_tree old new t =
        on old.footing t.between.footing new.footing
        (folds (λ (b : Bed A). b.footing) (λ at ticket after. LeavesIt ticket at after) leaves (tickets_gone old.footing.view old.members) _
        t.between t.lets)
        (grows t.between new t.grows)

    -- ---- all trees

    tends_one : (is_behind : Bool) (was is : Tree A) (old new : Footing A) → TendsOneWhere is_behind was is old new → Leads old new
    tends_one true was is old new tended = tends_tree (bed_of old was) (bed_of new is) tended.0
    tends_one false was is old new same = stays old new same.1

    tends_each : (olds news : List (Tree A)) (old new : Footing A) → TendsEach olds news old new → Leads old new
    tends_each [] [] old new same = stays old new same
    tends_each (tree ∷ trees) (after ∷ afters) old new tended =
        on old tended.0 new (tends_one tree.is_behind tree after old tended.0 tended.1) (tends_each trees afters tended.0 new tended.2)
    tends_each [] (after ∷ afters) old new none = absurd none
    tends_each (tree ∷ trees) [] old new none = absurd none

    pub tends : (is_rest : Bool) (now : ℕ) (was is : Trees A) (old new : Footing A) → TendsWhere is_rest now was is old new → Leads old new
    tends true now was is old new same = stays old new same.2
    tends false now was is old new tended = tends_each was.all.items is.all.items old new tended.1

    -- ---- a tree that comes or goes

    pub plants : (ticket : ℕ) → ticket < limit → (root : Text) (most : ℕ) (was is : Trees A) (old new : Footing A)
        → Plants ticket root most was is old new → Leads old new
    plants ticket under root most was is old new p =
        on old with_data.footing new
        (tells_one (TakesOn ticket ticket Data root) (old.next + 1) old with_data.footing
        (record { rises = omega arith; count = omega arith; under = λ within. (under, tt) }) first)
        (tells_one (TakesOn with_data.ticket old.next Child root) with_data.footing.next with_data.footing new
        (record { rises = omega arith; count = omega arith; under = λ within. (omega (arith, raised, within), tt) })
        (ap (λ (b : Bed A). b.footing) p.bed.names_join.same))
      where
        with_data : Bed A
        with_data = p.bed.with_data

        first : with_data.footing ≡ tells (TakesOn ticket ticket Data root) (record old { next = old.next + 1 })
        first = ap (λ (b : Bed A). b.footing) p.bed.data_joins.same

        raised : with_data.footing.next ≡ old.next + 1
        raised = ap (λ (f : Footing A). f.next) first

    uproots_so : (tree : Option (Tree A)) (old new : Footing A) → UprootsSo tree old new → Leads old new
    uproots_so None old new same = stays old new same
    uproots_so (Some tree) old new ends =
        folds (λ (f : Footing A). f) (λ at ticket after. after ≡ tells (LetsGo tree.ticket ticket) at)
        (λ ticket at after told. besides (LetsGo tree.ticket ticket) tt at after told)
        (map (λ one. one.ticket) tree.members.items) old new ends

    pub uproots : (ticket : ℕ) (was is : Trees A) (old new : Footing A) → Uproots ticket was is old new → Leads old new
    uproots ticket was is old new u = uproots_so (found ticket was.all.items) old new u.goes
