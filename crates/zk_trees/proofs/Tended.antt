-- Trees are tended one after the other: those before a place were (`Tended`), and the one at it joins them, by induction over their list.
use Rattle.std.proofs.Common.{suc, ◌≡◌, ◌≤◌, ◌<◌, ◌+◌, ◌++◌, ◌∙◌, ℕ, List, [], ◌∷◌, length, get_or, drop, take, set}
use Rattle.std.proofs.Common.{refl, sym, ap, subst, arith, append_assoc, append-nil, length-take}
use Rattle.std.proofs.lemmas.List.{drop_more, get_or_at, set_at, take_more, take_all, drop_all}
use Rattle.std.proofs.Math.Seq.{take-append_seam}
use Rattle.zk_trees.specs.Tending.{Footing, TendsEach, TendsOne}
use Rattle.zk_trees.specs.declared.tree.Tree.{Tree}

as_many : {A : Type 0} (olds news : List (Tree A)) (old new : Footing A) → TendsEach olds news old new → length news ≡ length olds
as_many [] [] old new tends = refl
as_many (tree ∷ olds) (after ∷ news) old new tends = ap (λ n. suc n) (as_many olds news tends.0 new tends.2)
as_many [] (after ∷ news) old new tends = absurd tends
as_many (tree ∷ olds) [] old new tends = absurd tends

-- one more
tends_more : {A : Type 0} (olds news : List (Tree A)) (old between new : Footing A) (tree after : Tree A)
    → TendsEach olds news old between → TendsOne tree after between new
    → TendsEach (olds ++ tree ∷ []) (news ++ after ∷ []) old new
tends_more {A} [] [] old between new tree after tends one =
    (new, subst (λ (v : Footing A). TendsOne tree after v new) tends one, refl)
tends_more (o ∷ olds) (n ∷ news) old between new tree after tends one =
    (tends.0, tends.1, tends_more olds news tends.0 between new tree after tends.2 one)
tends_more [] (n ∷ news) old between new tree after tends one = absurd tends
tends_more (o ∷ olds) [] old between new tree after tends one = absurd tends

-- Those before a place were tended, and those from it on are as they were.
pub record Tended {A : Type 0} (first : List (Tree A)) (index : ℕ) (here : List (Tree A)) (old new : Footing A) : Type 0 where
  pub done : List (Tree A)
  pub parts : here ≡ done ++ drop index first
  pub tends : TendsEach (take index first) done old new

pub tended_none : {A : Type 0} (first : List (Tree A)) (old : Footing A) → Tended first 0 first old old
tended_none first old = record { done = []; parts = refl; tends = refl }

module _ {A : Type 0} (first : List (Tree A)) (index : ℕ) (here : List (Tree A)) (old between : Footing A) where
  many : Tended first index here old between → index < length first → (tended : Tended first index here old between)
      → length tended.done ≡ index
  many _ within tended = as_many (take index first) tended.done old between tended.tends
      ∙ length-take index first ∙ omega (arith, within)

  -- what is at the place
  at_place : (d : Tree A) → index < length first → Tended first index here old between → get_or here index d ≡ get_or first index d
  at_place d within tended =
      ap (λ l. get_or l index d) (tended.parts ∙ ap (λ l. tended.done ++ l) (drop_more first index d within))
      ∙ get_or_at tended.done (get_or first index d) (drop (index + 1) first) d index (many tended within tended)

  -- it is tended too
  pub tended_more : (d after : Tree A) (new : Footing A) → index < length first → Tended first index here old between
      → TendsOne (get_or here index d) after between new
      → Tended first (index + 1) (set here index after) old new
  tended_more d after new within tended one = record {
    done = tended.done ++ after ∷ [];
    parts = ap (λ l. set l index after) (tended.parts ∙ ap (λ l. tended.done ++ l) (drop_more first index d within))
        ∙ set_at tended.done (get_or first index d) (drop (index + 1) first) after index (many tended within tended)
        ∙ sym (append_assoc tended.done (after ∷ []) (drop (index + 1) first));
    tends = subst (λ olds. TendsEach olds (tended.done ++ after ∷ []) old new) (sym (take_more first index d within))
        (tends_more (take index first) tended.done old between new (get_or first index d) after tended.tends
        (subst (λ (t : Tree A). TendsOne t after between new) (at_place d within tended) one));
  }

  -- all are
  pub tended_all : length first ≤ index → Tended first index here old between → TendsEach first here old between
  tended_all past tended =
      let whole : tended.done ≡ here =
      sym (append-nil tended.done) ∙ ap (λ l. tended.done ++ l) (sym (drop_all index first past)) ∙ sym tended.parts in
      subst (λ olds. TendsEach olds here old between) (take_all index first past)
      (subst (λ news. TendsEach (take index first) news old between) whole tended.tends)

-- a slice of all of a list is written back
pub whole_written : {A : Type 0} (count : ℕ) (written rest : List (Tree A)) → count ≡ length written
    → take count (written ++ rest) ≡ written
whole_written count written rest size = ap (λ n. take n (written ++ rest)) size ∙ take-append_seam written rest
