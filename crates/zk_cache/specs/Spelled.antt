-- Texts that are spelled one after the other, each after its length.
use Rattle.std.specs.Prelude.{◌≡◌, ℕ, ◌+◌, ◌-◌, ◌≤◌, List, [], ◌∷◌, length, take, drop, Some}
use Rattle.zk_jute.specs.Layout.{ustring}
use Rattle.zk_jute.specs.Spelling.{Fits, spelling}

-- what stands between two places, without the four bytes of a length
abbrev pub text_between : List ℕ → ℕ → ℕ → List ℕ
text_between bytes start end = take (end - (start + 4)) (drop (start + 4) bytes)

-- the texts from a place on, each up to the next end
abbrev pub texts_from : List ℕ → ℕ → List ℕ → List (List ℕ)
texts_from bytes start [] = []
texts_from bytes start (end ∷ ends) = text_between bytes start end ∷ texts_from bytes end ends

-- From a place up to each end, and on from there, stands the spelling of a text, and the last ends with the bytes.
abbrev pub AreSpelledFrom : List ℕ → ℕ → List ℕ → Type 0
AreSpelledFrom bytes start [] = start ≡ length bytes
AreSpelledFrom bytes start (end ∷ ends) =
    (start + 4 ≤ end) × ((take (end - start) (drop start bytes) ≡ spelling ustring (Some (text_between bytes start end)))
    × (Fits ustring (Some (text_between bytes start end)) × AreSpelledFrom bytes end ends))
