-- Copies of a list, one after the other: what is copied so far is the list's beginning, and what is kept back to front is turned round at
-- the end.
use Rattle.std.proofs.Common.{◌≡◌, ℕ, ◌+◌, ◌<◌, List, [], ◌∷◌, ◌++◌, length, map, take, reverse, refl, sym, ap, ◌∙◌}
use Rattle.std.specs.Prelude.{slice_index_or}
use Rattle.std.proofs.lemmas.List.{map-append, take_more, reverse-append, reverse-reverse}

-- one more is copied
pub one_more : {C X V : Type 0} (shown : C → V) (given : X → V) (copies : List C) (all : List X) (i : ℕ) (copy : C) (x : X)
    → i < length all → x ≡ slice_index_or all i x
    → shown copy ≡ given x → map shown copies ≡ map given (take i all) → map shown (copies ++ copy ∷ []) ≡ map given (take (i + 1) all)
one_more shown given copies all i copy x lt is alike so_far =
    map-append shown copies (copy ∷ []) ∙ ap (λ l. l ++ shown copy ∷ []) so_far
    ∙ ap (λ y. map given (take i all) ++ y ∷ []) (alike ∙ ap given is)
    ∙ sym (map-append given (take i all) (slice_index_or all i x ∷ [])) ∙ sym (ap (map given) (take_more all i x lt))

map_reverse : {X Y : Type 0} (f : X → Y) (l : List X) → map f (reverse l) ≡ reverse (map f l)
map_reverse f [] = refl
map_reverse f (x ∷ l) =
    ap (map f) (reverse-append (x ∷ []) l) ∙ map-append f (reverse l) (x ∷ []) ∙ ap (λ ys. ys ++ f x ∷ []) (map_reverse f l)
    ∙ sym (reverse-append (f x ∷ []) (map f l))

-- what is kept back to front, front to back again
pub map_back : {X Y : Type 0} (f : X → Y) (l kept : List X) → kept ≡ reverse l → reverse (map f kept) ≡ map f l
map_back f l kept e = ap (λ k. reverse (map f k)) e ∙ ap reverse (map_reverse f l) ∙ reverse-reverse (map f l)
