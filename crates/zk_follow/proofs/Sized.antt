-- An index of some subjects has a bucket: where there is none, no place is found.
use Rattle.std.proofs.Common.{◌≡◌, ◌<◌, ◌%◌, ◌∙◌, true, false, List, [], ◌∷◌, length, refl, sym, ap, subst, arith}
use Rattle.std.specs.Prelude.{Vec, ℕ}
use Rattle.zk_follow.specs.declared.index.Index.{Index}
use Rattle.zk_follow.specs.declared.subject.Subject.{Subject}
use Rattle.zk_follow.specs.Following.{is_among}
use Rattle.zk_follow.specs.Places.{has_place, places_of, AreFound}

pub sized_by : {A : Type 0} (index : Index A) (subjects : List (Subject A)) → AreFound index subjects → 0 < length subjects
    → index.count ≡ length subjects → 0 < length index.keys.buckets.items
sized_by {A} index [] found some whole = absurd (let none : 0 < 0 = some in omega (arith, none))
sized_by {A} index (subject ∷ subjects) found some whole = by index.keys.buckets.items refl
  where
    there : has_place index.keys subject.ticket 0 ≡ true
    there = (found.1 0 subject (omega (arith, some, whole))).0

    by : (buckets : List (Vec ℕ A)) → index.keys.buckets.items ≡ buckets → 0 < length index.keys.buckets.items
    by [] e =
        let none : has_place index.keys subject.ticket 0 ≡ false =
        ap (λ (l : List (Vec ℕ A)). is_among 0 (places_of l (subject.ticket % length l))) e in
        absurd (let f : true ≡ false = sym there ∙ none in cc)
    by (bucket ∷ buckets) e =
        let some_one : 0 < length (bucket ∷ buckets) = omega arith in
        subst (λ (l : List (Vec ℕ A)). 0 < length l) (sym e) some_one
