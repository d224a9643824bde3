-- Texts that are spelled one after the other, as one is added and as one is looked up.
use Rattle.std.proofs.Common.{◌≡◌, ℕ, zero, suc, ◌+◌, ◌-◌, ◌<◌, ◌≤◌, List, [], ◌∷◌, ◌++◌, length, map, take, drop, get_or, Some}
use Rattle.std.proofs.Common.{slice_get}
use Rattle.std.proofs.Common.{refl, sym, ap, subst, ◌∙◌, arith, append_assoc, pos}
use Rattle.std.specs.List.{flat_map, AllByRecursion}
use Rattle.std.specs.Str.{IsUtf8}
use Rattle.std.proofs.lemmas.Str.{IsUtf8-from_is_utf8}
use Rattle.std.proofs.lemmas.List.{drop-append-le, take-append-le, length-append, length-drop, map_more}
use Rattle.std.proofs.lemmas.List.{take-append-drop, drop-drop, drop_all}
use Rattle.std.proofs.Math.Seq.{drop-append_seam, take-length}
use Rattle.zk_jute.specs.Layout.{ustring}
use Rattle.zk_jute.specs.Spelling.{Fits, counted_bytes, int_bytes, spelling}
use Rattle.zk_cache.specs.Spelled.{text_between, texts_from, AreSpelledFrom}
use Rattle.zk_cache.specs.inner.Cuts.{start_at}

abbrev pub spelled : List ℕ → List ℕ
spelled text = spelling ustring (Some text)

abbrev pub FitText : List ℕ → Type 0
FitText text = Fits ustring (Some text)

-- the four bytes of a length
length_bytes : List ℕ → List ℕ
length_bytes text = int_bytes (pos (length text))

spelled_is : (text : List ℕ) → spelled text ≡ length_bytes text ++ text
unfolding counted_bytes length_bytes
spelled_is text = refl

length-length_bytes : (text : List ℕ) → length (length_bytes text) ≡ 4
unfolding length_bytes int_bytes
length-length_bytes text = refl

length-spelled : (text : List ℕ) → length (spelled text) ≡ 4 + length text
length-spelled text =
    ap length (spelled_is text) ∙ length-append (length_bytes text) text ∙ ap (λ n. n + length text) (length-length_bytes text)

-- the last of two parts
last_part : (bytes more : List ℕ) (start : ℕ)
    → start ≡ length bytes → take (length bytes + length more - start) (drop start (bytes ++ more)) ≡ more
last_part bytes more start at_end =
    let count : length bytes + length more - start ≡ length more = omega (arith, at_end) in
    ap (λ from. take (length bytes + length more - start) (drop from (bytes ++ more))) at_end
    ∙ ap (take (length bytes + length more - start)) (drop-append_seam bytes more)
    ∙ ap (λ n. take n more) count
    ∙ take-length more

-- a part of the first of two stays
part_stays : (bytes more : List ℕ) (start end : ℕ) → end ≤ length bytes
    → start ≤ end → take (end - start) (drop start (bytes ++ more)) ≡ take (end - start) (drop start bytes)
part_stays bytes more start end within ascends =
    ap (take (end - start)) (drop-append-le start bytes more (omega (arith, within, ascends)))
    ∙ take-append-le (end - start) (drop start bytes) more (omega (arith, within, ascends, length-drop start bytes))

-- the text of the last spelling
last_text : (bytes text : List ℕ) (start : ℕ) → start ≡ length bytes
    → text_between (bytes ++ spelled text) start (length bytes + length (spelled text)) ≡ text
last_text bytes text start at_end =
    let front = bytes ++ length_bytes text in
    let size : length front ≡ length bytes + 4 =
    length-append bytes (length_bytes text) ∙ ap (λ n. length bytes + n) (length-length_bytes text) in
    let whole : bytes ++ spelled text ≡ front ++ text =
    ap (λ more. bytes ++ more) (spelled_is text) ∙ sym (append_assoc bytes (length_bytes text) text) in
    let count : length bytes + length (spelled text) ≡ length front + length text = omega (arith, size, length-spelled text) in
    (λ i. take (count i - (start + 4)) (drop (start + 4) (whole i)))
    ∙ last_part front text (start + 4) (omega (arith, size, at_end))

-- each spelling begins within the bytes
starts_within : (bytes : List ℕ) (start : ℕ) (ends : List ℕ) → AreSpelledFrom bytes start ends → start ≤ length bytes
starts_within bytes start [] at_end = omega (arith, at_end)
starts_within bytes start (end ∷ ends) are = omega (arith, are.0, starts_within bytes end ends are.1.1.1)

-- one text more is spelled, and its end is the last
pub spelled-push : (bytes text : List ℕ) (start : ℕ) (ends : List ℕ) → FitText text → AreSpelledFrom bytes start ends
    → AreSpelledFrom (bytes ++ spelled text) start (ends ++ (length bytes + length (spelled text)) ∷ [])
spelled-push bytes text start [] fits at_end =
    let is = last_text bytes text start at_end in (
      omega (arith, at_end, length-spelled text),
      (
        last_part bytes (spelled text) start at_end ∙ ap spelled (sym is),
        (subst FitText (sym is) fits, sym (length-append bytes (spelled text))),
      ),
    )
spelled-push bytes text start (end ∷ ends) fits are =
    let within = starts_within bytes end ends are.1.1.1 in
    let same = part_stays bytes (spelled text) (start + 4) end within are.0 in (
      are.0,
      (
        part_stays bytes (spelled text) start end within (omega (arith, are.0)) ∙ are.1.0 ∙ ap spelled (sym same),
        (subst FitText (sym same) are.1.1.0, spelled-push bytes text end ends fits are.1.1.1),
      ),
    )

-- it is the last text, and the others stay
pub texts-push : (bytes text : List ℕ) (start : ℕ) (ends : List ℕ) → AreSpelledFrom bytes start ends
    → texts_from (bytes ++ spelled text) start (ends ++ (length bytes + length (spelled text)) ∷ [])
    ≡ texts_from bytes start ends ++ text ∷ []
texts-push bytes text start [] at_end = ap (λ last. last ∷ []) (last_text bytes text start at_end)
texts-push bytes text start (end ∷ ends) are =
    λ i. part_stays bytes (spelled text) (start + 4) end (starts_within bytes end ends are.1.1.1) are.0 i
    ∷ texts-push bytes text end ends are.1.1.1 i

-- the spelling of a text begins where the one before it ends
pub start_at-suc : (start : ℕ) (ends : List ℕ) (i : ℕ) → i < length ends → start_at start ends (suc i) ≡ get_or ends i 0
start_at-suc start [] i l = absurd (omega (arith, l))
start_at-suc start (end ∷ ends) zero l = refl
start_at-suc start (end ∷ ends) (suc i) l = start_at-suc end ends i (omega (arith, l))

pub start_at-later : (start : ℕ) (ends : List ℕ) (i : ℕ) → 0 < i → i < length ends → get_or ends (i - 1) 0 ≡ start_at start ends i
start_at-later start ends zero some l = absurd (omega (arith, some))
start_at-later start ends (suc i) some l =
    let before : suc i - 1 ≡ i = omega arith in
    ap (λ k. get_or ends k 0) before ∙ sym (start_at-suc start ends i (omega (arith, l)))

pub text-at : (bytes : List ℕ) (start : ℕ) (ends : List ℕ) (i : ℕ) → i < length ends
    → slice_get (texts_from bytes start ends) i ≡ Some (text_between bytes (start_at start ends i) (get_or ends i 0))
text-at bytes start [] i l = absurd (omega (arith, l))
text-at bytes start (end ∷ ends) zero l = refl
text-at bytes start (end ∷ ends) (suc i) l = text-at bytes end ends i (omega (arith, l))

-- what a look-up reads is there, and is a text
pub spelled-at : (bytes : List ℕ) (start : ℕ) (ends : List ℕ) (i : ℕ) → i < length ends → AreSpelledFrom bytes start ends
    → (start_at start ends i + 4 ≤ get_or ends i 0)
    × ((get_or ends i 0 ≤ length bytes) × IsUtf8 (text_between bytes (start_at start ends i) (get_or ends i 0)))
spelled-at bytes start [] i l are = absurd (omega (arith, l))
spelled-at bytes start (end ∷ ends) zero l are =
    (are.0, (starts_within bytes end ends are.1.1.1, IsUtf8-from_is_utf8 (text_between bytes start end) are.1.1.0.1))
spelled-at bytes start (end ∷ ends) (suc i) l are = spelled-at bytes end ends i (omega (arith, l)) are.1.1.1

pub length-texts_from : (bytes : List ℕ) (start : ℕ) (ends : List ℕ) → length (texts_from bytes start ends) ≡ length ends
length-texts_from bytes start [] = refl
length-texts_from bytes start (end ∷ ends) = ap suc (length-texts_from bytes end ends)

-- the bytes from a place on are the spellings of the texts, each of which fits
pub spelled_all : (bytes : List ℕ) (start : ℕ) (ends : List ℕ) → AreSpelledFrom bytes start ends
    → drop start bytes ≡ flat_map spelled (texts_from bytes start ends)
spelled_all bytes start [] at_end = drop_all start bytes (omega (arith, at_end))
spelled_all bytes start (end ∷ ends) are =
    let further : start + (end - start) ≡ end = omega (arith, are.0) in
    sym (take-append-drop (end - start) (drop start bytes))
    ∙ (λ i. are.1.0 i ++ (drop-drop (end - start) start bytes ∙ ap (λ at. drop at bytes) further) i)
    ∙ ap (λ rest. spelled (text_between bytes start end) ++ rest) (spelled_all bytes end ends are.1.1.1)

pub fit_all : (bytes : List ℕ) (start : ℕ) (ends : List ℕ) → AreSpelledFrom bytes start ends
    → AllByRecursion FitText (texts_from bytes start ends)
fit_all bytes start [] at_end = tt
fit_all bytes start (end ∷ ends) are = (are.1.1.0, fit_all bytes end ends are.1.1.1)

-- one text more, where those before are the first of a list
pub next-text : {X : Type 0} (f : X → List ℕ) (xs : List X) (i : ℕ) (d : X) (old new : List (List ℕ)) → i < length xs
    → old ≡ map f (take i xs) → new ≡ old ++ f (get_or xs i d) ∷ [] → new ≡ map f (take (i + 1) xs)
next-text f xs i d old new l before more = more ∙ ap (λ front. front ++ f (get_or xs i d) ∷ []) before ∙ sym (map_more f xs i d l)

-- what a look-up reads is within the bytes
pub text_is_within : (bytes shown ends held : List ℕ) (i start : ℕ) → shown ≡ bytes → held ≡ ends → start ≡ start_at 0 held i
    → i < length held → AreSpelledFrom bytes 0 ends
    → (start + 4 ≤ get_or held i 0) × ((get_or held i 0 ≤ length shown) × IsUtf8 (text_between shown start (get_or held i 0)))
text_is_within bytes shown ends held i start is_bytes are_ends is_start l are =
    let whole : AreSpelledFrom shown 0 held =
    subst (λ b. AreSpelledFrom b 0 held) (sym is_bytes) (subst (AreSpelledFrom bytes 0) (sym are_ends) are) in
    subst
    (λ s. (s + 4 ≤ get_or held i 0) × ((get_or held i 0 ≤ length shown) × IsUtf8 (text_between shown s (get_or held i 0))))
    (sym is_start) (spelled-at shown 0 held i l whole)

-- and is the text there
pub text_is_found : (bytes shown ends held : List ℕ) (i start : ℕ) (text : List ℕ) → shown ≡ bytes → held ≡ ends
    → start ≡ start_at 0 held i → i < length held → text ≡ text_between shown start (get_or held i 0)
    → Some text ≡ slice_get (texts_from bytes 0 ends) i
text_is_found bytes shown ends held i start text is_bytes are_ends is_start l is =
    ap Some (is ∙ ap (λ s. text_between shown s (get_or held i 0)) is_start)
    ∙ sym (text-at shown 0 held i l)
    ∙ (λ k. slice_get (texts_from (is_bytes k) 0 (are_ends k)) i)
