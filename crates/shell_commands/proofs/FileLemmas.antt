-- The first bytes of a file, and all of them: fewer than were asked for are all.
use Rattle.std.proofs.Common.{◌≡◌, ◌≤◌, ◌<◌, ◌∙◌, ℕ, List, length, take, ap, arith, Option, Some, None, min}
use Rattle.std.specs.Prelude.{IfSome, option_map}
use Rattle.std.proofs.lemmas.List.{length-take, take_all}

-- first bytes that are fewer than were asked for are all
all_of_them : (n : ℕ) (all bytes : List ℕ) → bytes ≡ take n all → length bytes < n → bytes ≡ all
all_of_them n all bytes first short =
    let long : length bytes ≡ min n (length all) = ap length first ∙ length-take n all in
    let below : length all ≤ n = omega (arith, long, short) in
    first ∙ take_all n all below

pub are_whole : (n : ℕ) (given : Option (List ℕ)) (bytes : List ℕ)
    → IfSome (option_map (take n) given) (λ all. bytes ≡ all) → length bytes < n
    → IfSome given (λ all. bytes ≡ all)
are_whole n None bytes first short = tt
are_whole n (Some all) bytes first short = all_of_them n all bytes first short

-- where the first bytes are more than this, so are all
pub are_more : (n m : ℕ) (given : Option (List ℕ)) (bytes : List ℕ)
    → IfSome (option_map (take n) given) (λ all. bytes ≡ all) → m < length bytes
    → IfSome given (λ all. m < length all)
are_more n m None bytes first long = tt
are_more n m (Some all) bytes first long =
    let is : length bytes ≡ min n (length all) = ap length first ∙ length-take n all in
    omega (arith, is, long)
