-- A test of numbers says no where they differ.
use Rattle.std.proofs.Common.{◌≡◌, ◌≢◌, ℤ, Bool, true, false, refl}
use Rattle.std.specs.Ordering.{int_eq}
use Rattle.std.proofs.lemmas.Bool.Decides.{Decides-int_eq}

pub not-same : (a b : ℤ) → a ≢ b → int_eq a b ≡ false
not-same a b apart = go (int_eq a b) refl
  where
    go : (t : Bool) → int_eq a b ≡ t → int_eq a b ≡ false
    go true e = absurd (apart ((Decides-int_eq a b).0 e))
    go false e = e
