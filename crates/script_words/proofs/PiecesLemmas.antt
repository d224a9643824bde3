-- How the pieces of a text follow from those of what is left of it.
use Rattle.std.proofs.Common.{◌≡◌, ℕ, suc, ◌+◌, ◌<◌, ◌≤◌, ◌==◌, Bool, true, false, List, [], ◌∷◌, ◌++◌, length, take, drop, slice_index}
use Rattle.std.proofs.Common.{refl, sym, ap, ◌∙◌, append_assoc, if◌then◌else◌, arith}
use Rattle.std.specs.Prelude.{slice_range}
use Rattle.std.proofs.lemmas.List.{append-nil, take_more, drop-append-le, drop_all, length-take}
use Rattle.std.proofs.lemmas.Slice.{between_is}
use Rattle.std.proofs.Math.Seq.{drop-cons}
use Rattle.script_words.specs.Pieces.{pieces_at, with_front}

-- nothing before the pieces leaves them
pub front_nil : (separator : ℕ) (text : List ℕ) → with_front [] (pieces_at separator text) ≡ pieces_at separator text
front_nil separator [] = refl
front_nil separator (b ∷ bytes) = go (b == separator) (pieces_at separator bytes)
  where
    go : (test : Bool) (pieces : List (List ℕ)) → with_front [] (if test then [] ∷ pieces else with_front (b ∷ []) pieces)
        ≡ (if test then [] ∷ pieces else with_front (b ∷ []) pieces)
    go true pieces = refl
    go false [] = refl
    go false (piece ∷ pieces) = refl

front_more : (front : List ℕ) (b : ℕ) (pieces : List (List ℕ))
    → with_front front (with_front (b ∷ []) pieces) ≡ with_front (front ++ b ∷ []) pieces
front_more front b [] = refl
front_more front b (piece ∷ pieces) = ap (λ (x : List ℕ). x ∷ pieces) (sym (append_assoc front (b ∷ []) piece))

-- at a separator a piece ends
pub at_separator : (separator b : ℕ) (bytes front : List ℕ) (done : List (List ℕ)) → (b == separator) ≡ true
    → done ++ with_front front (pieces_at separator (b ∷ bytes)) ≡ (done ++ front ∷ []) ++ with_front [] (pieces_at separator bytes)
at_separator separator b bytes front done is =
    rw is (ap (λ (x : List ℕ). done ++ x ∷ pieces_at separator bytes) (append-nil front)
    ∙ sym (append_assoc done (front ∷ []) (pieces_at separator bytes))
    ∙ ap (λ (x : List (List ℕ)). (done ++ front ∷ []) ++ x) (sym (front_nil separator bytes)))

-- another byte goes to the piece
pub at_other : (separator b : ℕ) (bytes front : List ℕ) → (b == separator) ≡ false
    → with_front front (pieces_at separator (b ∷ bytes)) ≡ with_front (front ++ b ∷ []) (pieces_at separator bytes)
at_other separator b bytes front is = rw is (front_more front b (pieces_at separator bytes))

-- the bytes from start up to at, and one more
one_more : (text : List ℕ) (start at : ℕ)
    → start ≤ at → at < length text → drop start (take (at + 1) text) ≡ drop start (take at text) ++ slice_index text at ∷ []
one_more text start at before within =
    let fits : start ≤ length (take at text) = simp length-take (omega arith) in
    rw (take_more text at 0 within) (drop-append-le start (take at text) (slice_index text at ∷ []) fits)

left_of : (text : List ℕ) (at : ℕ) → at < length text → drop at text ≡ slice_index text at ∷ drop (at + 1) text
left_of text at within = let one : at + 1 ≡ suc at = omega arith in rw one (drop-cons text at 0 within)

-- the step at a separator
pub separator_step : (separator start at : ℕ) (text : List ℕ) (done : List (List ℕ))
    → start ≤ at → at < length text → (slice_index text at == separator) ≡ true
    → (done ++ slice_range text start at ∷ []) ++ with_front (drop (at + 1) (take (at + 1) text)) (pieces_at separator (drop (at + 1) text))
    ≡ done ++ with_front (drop start (take at text)) (pieces_at separator (drop at text))
separator_step separator start at text done before within is =
    let none : drop (at + 1) (take (at + 1) text) ≡ [] = drop_all (at + 1) (take (at + 1) text) (simp length-take (omega arith)) in
    rw (none, between_is text start at, left_of text at within)
    (sym (at_separator separator (slice_index text at) (drop (at + 1) text) (drop start (take at text)) done is))

-- the step at another byte
pub other_step : (separator start at : ℕ) (text : List ℕ) → start ≤ at → at < length text → (slice_index text at == separator) ≡ false
    → with_front (drop start (take (at + 1) text)) (pieces_at separator (drop (at + 1) text))
    ≡ with_front (drop start (take at text)) (pieces_at separator (drop at text))
other_step separator start at text before within is =
    rw (one_more text start at before within, left_of text at within)
    (sym (at_other separator (slice_index text at) (drop (at + 1) text) (drop start (take at text)) is))
