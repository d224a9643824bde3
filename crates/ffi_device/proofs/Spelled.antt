-- Texts that are spelled one after the other are told apart: each begins with its length, so what is left after one is shorter and told in
-- one way.
use Rattle.std.proofs.Common.{◌≡◌, ◌≢◌, ◌++◌, ◌∙◌, ℕ, List, [], ◌∷◌, Some, ◌+◌, ◌<◌, append_assoc, ap, arith, length, length-append, sym}
use Rattle.std.specs.List.{AllByRecursion, flat_map}
use Rattle.zk_jute.specs.Layout.{ustring}
use Rattle.zk_jute.specs.inner.Laws.{one_spelling}
use Rattle.zk_jute.specs.Spelling.{Fits, counted_bytes, int_bytes, spelling}
use Rattle.ffi_device.specs.Standings.{AreNoMarkers}
use Rattle.ffi_device.specs.Texts.{AreTexts}

abbrev pub spelled : List ℕ → List ℕ
spelled text = spelling ustring (Some text)

abbrev pub FitText : List ℕ → Type 0
FitText text = Fits ustring (Some text)

-- a spelling is not empty
length_text : (text : List ℕ) → length (spelled text) ≡ 4 + length text
unfolding counted_bytes int_bytes
length_text text = omega arith

some_bytes : (text rest : List ℕ) → [] ≡ spelled text ++ rest → ⊥
some_bytes text rest e = omega (arith, ap length e, length-append (spelled text) rest, length_text text)

-- what is left after one gets shorter
pub shorter : (text before after : List ℕ) → before ≡ spelled text ++ after → length after < length before
shorter text before after e = omega (arith, ap length e, length-append (spelled text) after, length_text text)

-- where no text begins what is left, no texts are spelled so as a whole
pub no_more : (rest : List ℕ) → rest ≢ [] → ((text after : List ℕ) → FitText text → rest ≡ spelled text ++ after → ⊥)
    → (done texts : List (List ℕ)) → AllByRecursion FitText done → AllByRecursion FitText texts
    → flat_map spelled done ++ rest ≡ flat_map spelled texts → ⊥
no_more rest some none [] [] fd ft e = some e
no_more rest some none [] (t ∷ ts) fd ft e = none t (flat_map spelled ts) ft.0 e
no_more rest some none (d ∷ ds) [] fd ft e =
    some_bytes d (flat_map spelled ds ++ rest) (sym e ∙ append_assoc (spelled d) (flat_map spelled ds) rest)
no_more rest some none (d ∷ ds) (t ∷ ts) fd ft e =
    let both = one_spelling ustring (Some d) (Some t) (flat_map spelled ds ++ rest) (flat_map spelled ts) fd.0 ft.0
    (sym (append_assoc (spelled d) (flat_map spelled ds) rest) ∙ e) in
    no_more rest some none ds ts fd.1 ft.1 both.1

-- where no texts are spelled, not one marker is
pub no_markers : (texts : List (List ℕ)) (bytes : List ℕ) → texts ≡ [] → AreTexts texts bytes → AreNoMarkers bytes
no_markers texts bytes none are own against other =
    some_bytes own (flat_map spelled against) (sym (are.is ∙ ap (flat_map spelled) none) ∙ other.is)
