-- Steps of a walk over a list.
use Rattle.std.proofs.Common.{◌≡◌, List, ◌∷◌, sym, ap, ◌∙◌}

-- one element more of any walk over a list
pub walk_more : {X S R : Type 0} (run : List X → S → R) (x : X) (rest more : List X) (held next : S) (total : R) (after : S)
    → rest ≡ x ∷ more → run (x ∷ more) held ≡ run more after → run rest held ≡ total → next ≡ after → run more next ≡ total
walk_more run x rest more held next total after e unrolls same step =
    ap (run more) step ∙ sym unrolls ∙ ap (λ xs. run xs held) (sym e) ∙ same
