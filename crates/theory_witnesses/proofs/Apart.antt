-- The client whose server departs elsewhere is served at /a; its answer there is good, so it is of the tree at the last seen zxid.
use Rattle.std.proofs.Common.{◌≡◌, true, ◌&&◌, [], ◌∷◌, refl, ap, inl, inr}
use Rattle.std.proofs.lemmas.Slice.Eq.{bytes_eq-Decides}
use Rattle.zk_nodes.specs.Path.{Text}
use Rattle.zk_cache.specs.Kept.{is_marked_good}
use Rattle.theory_messages.specs.Example.{two_changes, at_a}
use Rattle.theory_messages.specs.Meeting_example.{new_client}
use Rattle.theory_messages.proofs.Shown.{is_history}
use Rattle.theory_local.specs.LocalSteps.{IsOf}
use Rattle.theory_local.specs.LocalServed.{items_at}
use Rattle.zk_conclusions.specs.Seen.{IsServedAt, tree_seen}
use Rattle.zk_conclusions.specs.Snapshots.{IsOneOf, IsOfOneTree, is_whole}
use Rattle.zk_conclusions.proofs.Truths.{one_tree_here}
use Rattle.zk_conclusions.proofs.Everywhere.{at_fewer}
use Rattle.theory_witnesses.specs.Departure_example.{only_a, until_refused, shown_apart}
use Rattle.theory_witnesses.proofs.Departure_shown.{refused_then, refused_stands, good_then}

pub apart_served : IsServedAt (IsOf only_a) two_changes shown_apart
apart_served = record {
  start = new_client;
  items = items_at until_refused;
  stands = refused_stands;
  history = is_history;
  served = record { entries = until_refused; whole = refl; may = refused_then };
}

-- the snapshot is about /a alone
of_a : (path : Text) → IsOneOf (at_a ∷ []) [] path → IsOf only_a path
of_a path (inl (inl e)) = (bytes_eq-Decides path at_a).1 e
of_a path (inl (inr there)) = absurd there
of_a path (inr there) = absurd there

whole_there : is_whole shown_apart.cache (at_a ∷ []) [] ≡ true
whole_there = ap (λ kept. is_marked_good kept && true && true) good_then

pub apart_of_one_tree : IsOfOneTree (tree_seen two_changes shown_apart) shown_apart.cache (at_a ∷ []) []
apart_of_one_tree =
    one_tree_here two_changes shown_apart (at_a ∷ []) []
    (at_fewer (IsOf only_a) (IsOneOf (at_a ∷ []) []) two_changes shown_apart of_a apart_served) whole_there
