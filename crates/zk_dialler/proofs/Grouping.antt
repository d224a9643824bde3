-- Two groups, one before the other, are the places of the whole order.
use Rattle.std.proofs.Common.{◌≡◌, ◌++◌, ℕ, Bool, true, false, not, List, refl, sym, subst}
use Rattle.std.specs.List.{filter}
use Rattle.std.specs.List.Sorted.{IsPermutation}
use Rattle.std.proofs.lemmas.List.Sorted.{IsPermutation-filter_both}
use Rattle.std.proofs.Math.Bool.{not-not}
use Rattle.zk_dialler.specs.Moves.{is_ahead}

-- the other group is that of the places that are not ahead
pub other_group : (kept : ℕ) (kept_first : Bool) (place : ℕ) → is_ahead kept (not kept_first) place ≡ not (is_ahead kept kept_first place)
other_group kept true place = refl
other_group kept false place = sym (not-not (is_ahead kept true place))

pub both_groups : (kept : ℕ) (kept_first : Bool) (order added : List ℕ)
    → added ≡ filter (is_ahead kept kept_first) order ++ filter (is_ahead kept (not kept_first)) order → IsPermutation order added
both_groups kept kept_first order added is =
    subst (IsPermutation order) (sym is)
    (IsPermutation-filter_both (is_ahead kept kept_first) (is_ahead kept (not kept_first)) (other_group kept kept_first) order)
