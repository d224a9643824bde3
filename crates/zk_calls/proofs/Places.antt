-- What stands in the place of the first that passes a test: by induction on the list, its place is the number of those before it.
use Rattle.std.proofs.Common.{◌≡◌, ◌<◌, ◌≤◌, ◌++◌, ℕ, zero, suc, Bool, true, false, cond, List, [], ◌∷◌, Option, Some, None, length, get_or}
use Rattle.std.proofs.Common.{set, refl, ap, ◌∙◌, arith}
use Rattle.std.specs.List.{position, position_or_len, remove}
use Rattle.std.proofs.lemmas.Grind.{common_steps}
use Rattle.std.proofs.lemmas.List.Quantifiers.{position-Some}
use Rattle.std.proofs.lemmas.List.Sums.{fails_before_first}
use Rattle.zk_calls.specs.Lines.{first_where, with_first}

module _ {X : Type 0} (test : X → Bool) where
  -- by the test of the first one
  abbrev found_by : Bool → X → List X → Option (X)
  found_by passes entry entries = cond passes (Some entry) (first_where test entries)

  -- the place of the first that passes
  abbrev pub IsFirstAt : List X → ℕ → X → Type 0
  IsFirstAt entries place entry =
      (place < length entries) × (test (get_or entries place entry) ≡ true) × ((k : ℕ) → k < place → test (get_or entries k entry) ≡ false)

  rest_first : (first : X) (entries : List X) (place : ℕ) (entry : X)
      → IsFirstAt (first ∷ entries) (suc place) entry → IsFirstAt entries place entry
  rest_first first entries place entry is =
      let within : place < length entries = let long : suc place < length (first ∷ entries) = is.0 in grind (arith, common_steps) in
      (within, is.1, λ k below. let further : suc k < suc place = omega arith in is.2 (suc k) further)

  pub found_at : (entries : List X) (place : ℕ) (entry : X)
      → IsFirstAt entries place entry → first_where test entries ≡ Some (get_or entries place entry)
  found_at [] place entry is = absurd (let none : place < 0 = is.0 in omega arith)
  found_at (first ∷ entries) zero entry is = ap (λ b. found_by b first entries) is.1
  found_at (first ∷ entries) (suc place) entry is =
      let other : test first ≡ false = is.2 0 (omega arith) in
      ap (λ b. found_by b first entries) other ∙ found_at entries place entry (rest_first first entries place entry is)

  module _ (change : X → List X) where
    abbrev changed_by : Bool → X → List X → List X
    changed_by passes entry entries = cond passes (change entry ++ entries) (entry ∷ with_first test change entries)

    -- one stands in its place
    pub set_at : (entries : List X) (place : ℕ) (entry new : X)
        → IsFirstAt entries place entry → change (get_or entries place entry) ≡ new ∷ []
        → with_first test change entries ≡ set entries place new
    set_at [] place entry new is made = absurd (let none : place < 0 = is.0 in omega arith)
    set_at (first ∷ entries) zero entry new is made = ap (λ b. changed_by b first entries) is.1 ∙ ap (λ es. es ++ entries) made
    set_at (first ∷ entries) (suc place) entry new is made =
        let other : test first ≡ false = is.2 0 (omega arith) in
        ap (λ b. changed_by b first entries) other
        ∙ ap (λ es. first ∷ es) (set_at entries place entry new (rest_first first entries place entry is) made)

    -- nothing stands in its place
    pub removed_at : (entries : List X) (place : ℕ) (entry : X) → IsFirstAt entries place entry → change (get_or entries place entry) ≡ []
        → with_first test change entries ≡ remove entries place
    removed_at [] place entry is made = absurd (let none : place < 0 = is.0 in omega arith)
    removed_at (first ∷ entries) zero entry is made = ap (λ b. changed_by b first entries) is.1 ∙ ap (λ es. es ++ entries) made
    removed_at (first ∷ entries) (suc place) entry is made =
        let other : test first ≡ false = is.2 0 (omega arith) in
        ap (λ b. changed_by b first entries) other
        ∙ ap (λ es. first ∷ es) (removed_at entries place entry (rest_first first entries place entry is) made)

    -- none passes
    pub unchanged : (entries : List X) → ((k : ℕ) (d : X) → k < length entries → test (get_or entries k d) ≡ false)
        → with_first test change entries ≡ entries
    unchanged [] none = refl
    unchanged (first ∷ entries) none =
        let other : test first ≡ false = none 0 first (grind (arith, common_steps)) in
        ap (λ b. changed_by b first entries) other
        ∙ ap (λ es. first ∷ es) (unchanged entries
        (λ k d below. let further : suc k < length (first ∷ entries) = grind (arith, common_steps) in none (suc k) d further))

  pub not_found : (entries : List X) → ((k : ℕ) (d : X) → k < length entries → test (get_or entries k d) ≡ false)
      → first_where test entries ≡ None
  not_found [] none = refl
  not_found (first ∷ entries) none =
      let other : test first ≡ false = none 0 first (grind (arith, common_steps)) in
      ap (λ b. found_by b first entries) other
      ∙ not_found entries
      (λ k d below. let further : suc k < length (first ∷ entries) = grind (arith, common_steps) in none (suc k) d further)

  -- what a position says
  pub is_first : (entries : List X) (place : ℕ) (entry : X) → position test entries ≡ Some place → IsFirstAt entries place entry
  is_first entries place entry at = position-Some test entries place entry at

  pub none_passes : (entries : List X) → position test entries ≡ None → (k : ℕ) (d : X)
      → k < length entries → test (get_or entries k d) ≡ false
  none_passes entries at k d below =
      let all : length entries ≤ position_or_len test entries = grind (arith, common_steps) in
      fails_before_first test entries k d (omega arith)
