-- The entries so far, before those that are left to read, are the entries of the whole.
use Rattle.std.proofs.Common.{◌≡◌, ℕ, suc, ◌+◌, ◌-◌, ◌<◌, ◌≤◌, ℤ, arith, List, [], ◌∷◌, ◌++◌, Option, Some, None, Result, Ok, Err}
use Rattle.std.proofs.Common.{refl, sym, ap, ◌∙◌, append_assoc, append-nil}
use Rattle.std.specs.Prelude.{◌≢◌, MatchResult}
use Rattle.std.specs.Result.{IsErrAnd}
use Rattle.std.proofs.lemmas.Result.{err_from_is_err_and}
use Rattle.zk_jute.specs.Reading.{place_of}
use Rattle.zk_log.specs.declared.log_fault.LogFault.{LogFault}
use Rattle.zk_log.specs.declared.log_fault.LogFault.TheVariants.{Memory}
use Rattle.zk_log.specs.Reading.{Found, Zeros, Torn, Holds, Placed, Entries, put_first, record_at}
use Rattle.zk_log.specs.Reading.{placed_at, with_placed, with_found, entries_at}

-- entries before others
abbrev pub put_all : List Placed → Result Entries LogFault → Result Entries LogFault
put_all front (Ok found) = Ok (front ++ found.0, found.1)
put_all front (Err fault) = Err fault

abbrev made : List Placed → Option ℕ → Result Entries LogFault
made entries torn = Ok (entries, torn)

pub put_none : (found : Result Entries LogFault) → put_all [] found ≡ found
put_none (Ok found) = refl
put_none (Err fault) = refl

put_more : (front : List Placed) (one : Placed) (found : Result Entries LogFault)
    → put_all front (put_first one found) ≡ put_all (front ++ one ∷ []) found
put_more front one (Ok found) = ap (λ (all : List Placed). made all found.1) (sym (append_assoc front (one ∷ []) found.0))
put_more front one (Err fault) = refl

one_less : (most counter : ℕ) → counter < most → most - counter ≡ suc (most - (counter + 1))
one_less most counter lt = omega arith

-- the next record, and what is read after it
next : (most counter end place : ℕ) (low : ℤ) (rest : List ℕ) → counter < most → place ≡ place_of end rest
    → entries_at (most - counter) end low rest ≡ with_found place low (entries_at (most - (counter + 1)) end) (record_at place rest)
next most counter end place low rest lt e =
    ap (λ (n : ℕ). entries_at n end low rest) (one_less most counter lt)
    ∙ ap (λ (p : ℕ). with_found p low (entries_at (most - (counter + 1)) end) (record_at p rest)) (sym e)

pub goes_on : (front : List Placed) (one : Placed) (most counter end place : ℕ) (low : ℤ) (rest entry behind : List ℕ)
    (all : Result Entries LogFault) → counter < most → place ≡ place_of end rest → record_at place rest ≡ Ok (Holds entry behind)
    → placed_at place low entry ≡ Ok one → put_all front (entries_at (most - counter) end low rest) ≡ all
    → put_all (front ++ one ∷ []) (entries_at (most - (counter + 1)) end one.entry.zxid behind) ≡ all
goes_on front one most counter end place low rest entry behind all lt e found placed so_far =
    sym (put_more front one (entries_at (most - (counter + 1)) end one.entry.zxid behind))
    ∙ ap (put_all front)
    (sym (next most counter end place low rest lt e ∙ ap (with_found place low (entries_at (most - (counter + 1)) end)) found
    ∙ ap (with_placed (λ zxid. entries_at (most - (counter + 1)) end zxid behind)) placed))
    ∙ so_far

pub ends_at : (front : List Placed) (most counter end place : ℕ) (low : ℤ) (rest : List ℕ) (all : Result Entries LogFault)
    → counter < most → place ≡ place_of end rest → record_at place rest ≡ Ok Zeros
    → put_all front (entries_at (most - counter) end low rest) ≡ all → all ≡ Ok (front, None)
ends_at front most counter end place low rest all lt e found so_far =
    sym so_far
    ∙ ap (put_all front) (next most counter end place low rest lt e
    ∙ ap (with_found place low (entries_at (most - (counter + 1)) end)) found)
    ∙ ap (λ (x : List Placed). made x None) (append-nil front)

pub torn_at : (front : List Placed) (most counter end place : ℕ) (low : ℤ) (rest : List ℕ) (all : Result Entries LogFault)
    → counter < most → place ≡ place_of end rest → record_at place rest ≡ Ok Torn
    → put_all front (entries_at (most - counter) end low rest) ≡ all → all ≡ Ok (front, Some place)
torn_at front most counter end place low rest all lt e found so_far =
    sym so_far
    ∙ ap (put_all front) (next most counter end place low rest lt e
    ∙ ap (with_found place low (entries_at (most - (counter + 1)) end)) found)
    ∙ ap (λ (x : List Placed). made x (Some place)) (append-nil front)

pub fails_at : (front : List Placed) (most counter end place : ℕ) (low : ℤ) (rest : List ℕ) (fault : LogFault)
    (all : Result Entries LogFault) → counter < most → place ≡ place_of end rest → record_at place rest ≡ Err fault
    → put_all front (entries_at (most - counter) end low rest) ≡ all → all ≡ Err fault
fails_at front most counter end place low rest fault all lt e found so_far =
    sym so_far
    ∙ ap (put_all front) (next most counter end place low rest lt e
    ∙ ap (with_found place low (entries_at (most - (counter + 1)) end)) found)

pub placed_fails : (front : List Placed) (most counter end place : ℕ) (low : ℤ) (rest entry behind : List ℕ) (fault : LogFault)
    (all : Result Entries LogFault) → counter < most → place ≡ place_of end rest → record_at place rest ≡ Ok (Holds entry behind)
    → placed_at place low entry ≡ Err fault → put_all front (entries_at (most - counter) end low rest) ≡ all → all ≡ Err fault
placed_fails front most counter end place low rest entry behind fault all lt e found placed so_far =
    sym so_far
    ∙ ap (put_all front)
    (next most counter end place low rest lt e ∙ ap (with_found place low (entries_at (most - (counter + 1)) end)) found
    ∙ ap (with_placed (λ zxid. entries_at (most - (counter + 1)) end zxid behind)) placed)

pub is_done : (front : List Placed) (most counter end : ℕ) (low : ℤ) (rest : List ℕ) (all : Result Entries LogFault)
    → most ≤ counter → put_all front (entries_at (most - counter) end low rest) ≡ all → all ≡ Ok (front, None)
is_done front most counter end low rest all le so_far =
    let none : most - counter ≡ 0 = omega arith in
    sym so_far ∙ ap (λ (n : ℕ). put_all front (entries_at n end low rest)) none
    ∙ ap (λ (x : List Placed). made x None) (append-nil front)

-- a fault that is handed on
pub handed : {T R : Type 0} (P : T → Type 0) (read : Result R LogFault) (result : Result T LogFault) (fault : LogFault)
    → IsErrAnd result (λ e. e ≡ fault) → (fault ≢ Memory → read ≡ Err fault)
    → MatchResult result P (λ e. e ≢ Memory → read ≡ Err e)
handed P read result fault is fails = let p = err_from_is_err_and result is in rw (p.1, p.2) fails
