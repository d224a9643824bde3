-- Parents that are written one after the other: what is written so far with any spelling of those left spells all.
use Rattle.std.proofs.Common.{◌≡◌, ◌++◌, ◌∙◌, ◌+◌, ◌<◌, ℕ, suc, List, [], ◌∷◌, drop, get_or, length, ap, append-nil, append_assoc, arith}
use Rattle.std.proofs.Common.{refl, subst, sym}
use Rattle.std.proofs.Math.Seq.{drop-cons}
use Rattle.zk_nodes.specs.Path.{Text}
use Rattle.zk_turns.specs.View.{Cache}
use Rattle.ffi_device.specs.Snapshots.{AreParents, IsParent}

-- what is left of a list, after its next element
pub next_left : {X : Type 0} (xs : List X) (i : ℕ) (x : X) → i < length xs → x ≡ get_or xs i x → drop i xs ≡ x ∷ drop (i + 1) xs
next_left xs i x low e =
    let one : suc i ≡ i + 1 = omega arith in
    drop-cons xs i x low ∙ ap (λ y. y ∷ drop (suc i) xs) (sym e) ∙ ap (λ (n : ℕ). x ∷ drop n xs) one

-- what spells those that are left makes up the whole with this text
abbrev pub Written : Cache → (left paths : List Text) → List ℕ → Type 0
Written cache left paths text = (rest : List ℕ) → AreParents cache left rest → AreParents cache paths (text ++ rest)

-- one more is written
pub written_one : (cache : Cache) (path : Text) (before left paths : List Text) (text more one : List ℕ)
    → before ≡ path ∷ left → Written cache before paths text
    → more ≡ text ++ one → IsParent cache path one → Written cache left paths more
written_one cache path before left paths text more one e written is parent rest after =
    subst (AreParents cache paths) (sym (append_assoc text one rest) ∙ ap (λ front. front ++ rest) (sym is))
    (written (one ++ rest) (subst (λ before. AreParents cache before (one ++ rest)) (sym e) (one, rest, refl, parent, after)))

-- none is left
pub written_all : (cache : Cache) (left paths : List Text) (text : List ℕ)
    → left ≡ [] → Written cache left paths text → AreParents cache paths text
written_all cache left paths text e written =
    subst (AreParents cache paths) (append-nil text) (written [] (subst (λ left. AreParents cache left []) (sym e) refl))
