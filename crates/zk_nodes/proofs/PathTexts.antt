-- Texts and paths of good names are the same, and the last slash parts a path from its last name.
use Rattle.std.proofs.Common.{◌≡◌, ℕ, zero, suc, ◌+◌, ◌-◌, ◌<◌, ◌==◌, Bool, true, false, ◌&&◌, not, cond, List, [], ◌∷◌, ◌++◌, length}
use Rattle.std.proofs.Common.{get_or, take, drop, Option, Some, refl, sym, ap, ◌∙◌, arith, inl, inr, Decides, subst, option_map}
use Rattle.std.proofs.lemmas.List.{length-append, append-nil}
use Rattle.std.proofs.Common.{append_assoc}
use Rattle.std.proofs.Math.ListN.{get_or-append}
use Rattle.std.proofs.Math.Seq.{get_or-append_right, get_or-append_seam, take-append_seam, drop-append-add}
use Rattle.std.proofs.lemmas.Bool.{cases_lt}
use Rattle.std.proofs.lemmas.Bool.Decides.{nat_tests, same_from_decides}
use Rattle.std.proofs.lemmas.Slice.Eq.{bytes_eq-Decides}
use Rattle.std.proofs.lemmas.Str.{chars-IsAscii}
use Rattle.std.proofs.lemmas.List.Folds.{list_all_at}
use Rattle.std.specs.Prelude.{fold, bytes_eq, IsUtf8, IsAscii}
use Rattle.zk_nodes.specs.Path.{Name, NodePath, path_eq, text_of, byte_more, path_of, IsPathText, has_no_slash, is_empty, are_names}
use Rattle.zk_nodes.specs.Path.{parent_of, parent_text, name_of}
use Rattle.zk_nodes.specs.inner.Path.{is_below}
use Rattle.zk_nodes.specs.PathFault.{IsPath}
use Rattle.zk_nodes.proofs.PathLemmas.{text_of-path_of, joined, text_of-joined, IsPath-parts, IsPath-text, IsPath-names, IsPath-front}

-- names that are good, one by one
name_good : (name : Name) (path : NodePath)
    → are_names (name ∷ path) ≡ true → (is_empty name ≡ false) × (has_no_slash name ≡ true) × (are_names path ≡ true)
name_good name path e = (grind (arith, e), grind (arith, e), grind (arith, e))

-- a name goes to the last one
fold-name : (bs : List ℕ) (name : Name) (path : NodePath) → has_no_slash bs ≡ true → fold byte_more (name ∷ path) bs ≡ (name ++ bs) ∷ path
fold-name [] name path e = ap (λ n. n ∷ path) (sym (append-nil name))
fold-name (b ∷ bs) name path e =
    let f : (b == 47) ≡ false = grind (arith, e) in
    let g : has_no_slash bs ≡ true = grind (arith, e) in
    ap (λ v. fold byte_more (cond v ([] ∷ name ∷ path) ((name ++ b ∷ []) ∷ path)) bs) f
    ∙ fold-name bs (name ++ b ∷ []) path g
    ∙ ap (λ n. n ∷ path) (append_assoc name (b ∷ []) bs)

fold-append : (xs ys : List ℕ) (path : NodePath) → fold byte_more path (xs ++ ys) ≡ fold byte_more (fold byte_more path xs) ys
fold-append [] ys path = refl
fold-append (x ∷ xs) ys path = fold-append xs ys (byte_more path x)

with_slash : (path : NodePath) → byte_more path 47 ≡ [] ∷ path
with_slash [] = refl
with_slash (name ∷ path) = refl

fold-joined : (path : NodePath) → are_names path ≡ true → fold byte_more [] (joined path) ≡ path
fold-joined [] e = refl
fold-joined (name ∷ path) e =
    let good = name_good name path e in
    fold-append (joined path) (47 ∷ name) []
    ∙ ap (λ p. fold byte_more p (47 ∷ name)) (fold-joined path good.2)
    ∙ ap (λ p. fold byte_more p name) (with_slash path)
    ∙ fold-name name [] path good.1

-- two bytes or more
path_of-long : (text : List ℕ) → 1 < length text → path_of text ≡ fold byte_more [] text
path_of-long [] l = absurd (omega arith)
path_of-long (b ∷ []) l = absurd (omega arith)
path_of-long (b ∷ c ∷ text) l = refl

long : (name : Name) (path : NodePath) → is_empty name ≡ false → 1 < length (joined (name ∷ path))
long [] path e = absurd cc
long (b ∷ bs) path e = omega (arith, length-append (joined path) (47 ∷ b ∷ bs))

-- a path of good names is that of its text
pub path_of-text_of : (path : NodePath) → are_names path ≡ true → path_of (text_of path) ≡ path
path_of-text_of [] e = refl
path_of-text_of (name ∷ path) e =
    ap path_of (text_of-joined name path) ∙ path_of-long (joined (name ∷ path)) (long name path (name_good name path e).0)
    ∙ fold-joined (name ∷ path) e

-- equal paths
pub path_eq-true : (p q : NodePath) → path_eq p q ≡ true → p ≡ q
path_eq-true [] [] e = refl
path_eq-true [] (y ∷ ys) e = cc
path_eq-true (x ∷ xs) [] e = cc
path_eq-true (x ∷ xs) (y ∷ ys) e =
    let a : bytes_eq x y ≡ true = grind (arith, e) in
    let b : path_eq xs ys ≡ true = grind (arith, e) in
    let p : x ≡ y = (bytes_eq-Decides x y).0 a in
    let q : xs ≡ ys = path_eq-true xs ys b in
    cc

pub path_eq-refl : (p : NodePath) → path_eq p p ≡ true
path_eq-refl [] = refl
path_eq-refl (x ∷ xs) = ap (λ b. b && path_eq xs xs) ((bytes_eq-Decides x x).1 refl) ∙ path_eq-refl xs

pub path_eq-Decides : (p q : NodePath) → Decides (path_eq p q) (p ≡ q)
path_eq-Decides p q = (path_eq-true p q, λ e. rw (← e) (path_eq-refl p))

-- paths are the same where their texts are
pub path_eq-text : (t text u : List ℕ) → IsPath text → IsPath t → u ≡ t → (b : Bool)
    → b ≡ bytes_eq u text → b ≡ path_eq (path_of text) (path_of t)
path_eq-text t text u good is e b h =
    same_from_decides _ (path_eq (path_of text) (path_of t)) (
      λ r. ap path_of (sym ((bytes_eq-Decides u text).0 (sym h ∙ r)) ∙ e),
      λ s. h ∙ (bytes_eq-Decides u text).1 (e ∙ sym (IsPath-text t is) ∙ ap text_of (sym s) ∙ IsPath-text text good),
    )
    (path_eq-Decides (path_of text) (path_of t))

slash_in_name : (xs name : List ℕ) (i j : ℕ)
    → has_no_slash name ≡ true → i ≡ length xs + suc j → j < length name → get_or (xs ++ 47 ∷ name) i 0 ≡ 47 → ⊥
slash_in_name xs name i j good at l e =
    let k : i - length xs ≡ suc j = omega arith in
    let f : get_or name j 0 ≡ 47 = sym (get_or-append_right xs (47 ∷ name) i 0 (omega arith) ∙ ap (λ k. get_or (47 ∷ name) k 0) k) ∙ e in
    let g : not (get_or name j 0 == 47) ≡ false = grind (arith, nat_tests, f) in
    let h = list_all_at (λ b. not (b == 47)) name j 0 l g in
    absurd cc

-- the last slash stands before the last name
pub last_slash_at : (xs name : List ℕ) (i : ℕ) → has_no_slash name ≡ true → i < length (xs ++ 47 ∷ name) → get_or (xs ++ 47 ∷ name) i 0 ≡ 47
    → ((k : ℕ) → i < k → k < length (xs ++ 47 ∷ name) → get_or (xs ++ 47 ∷ name) k 0 ≡ 47 → ⊥) → i ≡ length xs
last_slash_at xs name i good l e after =
    let n = length-append xs (47 ∷ name) in
    elim (cases_lt i (length xs)) [
      | inl low ↦ absurd (after (length xs) low (omega (arith, n)) (get_or-append_seam xs 47 name 0))
      | inr high ↦ elim (cases_lt (length xs) i) [
        | inl above ↦ absurd (slash_in_name xs name i (i - length xs - 1) good (omega arith) (omega (arith, n)) e)
        | inr low ↦ omega arith
      ]
    ]

-- the text of a path begins with a slash
pub slash_first : (path : NodePath) → (get_or (text_of path) 0 0 ≡ 47) × (0 < length (text_of path))
slash_first [] = (refl, omega arith)
slash_first (name ∷ []) = (refl, omega arith)
slash_first (name ∷ other ∷ path) =
    let h = slash_first (other ∷ path) in (
      get_or-append (text_of (other ∷ path)) (47 ∷ name) 0 0 h.1 ∙ h.0,
      omega (arith, length-append (text_of (other ∷ path)) (47 ∷ name), h.1),
    )

pub slash_of_text : (path : NodePath) (text : List ℕ) → text ≡ text_of path → (get_or text 0 0 ≡ 47) × (0 < length text)
slash_of_text path text e = let P : List ℕ → Type 0 = λ t. (get_or t 0 0 ≡ 47) × (0 < length t) in subst P (sym e) (slash_first path)

-- what the last slash parts
pub parted : (path : NodePath) (text : List ℕ) (i : ℕ) → text_of path ≡ text → are_names path ≡ true → (length text ≡ 1 → ⊥)
    → i < length text → get_or text i 0 ≡ 47
    → ((k : ℕ) → i < k → k < length text → get_or text k 0 ≡ 47 → ⊥)
    → (i ≡ 0 → Some (47 ∷ []) ≡ option_map text_of (parent_of path))
    × ((i ≡ 0 → ⊥) → Some (take i text) ≡ option_map text_of (parent_of path)) × (Some (drop (i + 1) text) ≡ name_of path)
parted [] text i t good n l e after = absurd (n (ap length (sym t)))
parted (name ∷ []) text i t good n l e after =
    let P : List ℕ → Type 0 = λ x. i < length x → get_or x i 0 ≡ 47 → ((k : ℕ) → i < k → k < length x → get_or x k 0 ≡ 47 → ⊥) → i ≡ 0 in
    let z : i ≡ 0 = subst P t (last_slash_at [] name i (name_good name [] good).1) l e after in
    (λ _. refl, λ m. absurd (m z), ap (λ k. Some (drop (k + 1) text)) z ∙ ap (λ x. Some (drop 1 x)) (sym t))
parted (name ∷ other ∷ path) text i t good n l e after =
    let xs = text_of (other ∷ path) in
    let P : List ℕ → Type 0 = λ x. i < length x → get_or x i 0 ≡ 47 → ((k : ℕ) → i < k → k < length x → get_or x k 0 ≡ 47 → ⊥)
    → i ≡ length (text_of (other ∷ path)) in
    let z : i ≡ length (text_of (other ∷ path)) =
    subst P t (last_slash_at (text_of (other ∷ path)) name i (name_good name (other ∷ path) good).1) l e after in (
      λ m. absurd (omega (arith, (slash_first (other ∷ path)).1, z, m)),
      λ _. ap Some (ap (λ k. take k text) z ∙ ap (take (length (text_of (other ∷ path)))) (sym t)
          ∙ take-append_seam (text_of (other ∷ path)) (47 ∷ name)),
      ap (λ k. Some (drop (k + 1) text)) z ∙ ap (λ x. Some (drop (length (text_of (other ∷ path)) + 1) x)) (sym t)
          ∙ ap Some (drop-append-add (text_of (other ∷ path)) (47 ∷ name) 1),
    )

-- the root's text has one byte
pub root_alone : (text : List ℕ) → IsPath text → length text ≡ 1 → (path_of text ≡ []) × (text ≡ 47 ∷ [])
root_alone text is e = go text e (IsPath-parts text is).2 where
  go : (bs : List ℕ) → length bs ≡ 1 → get_or bs 0 0 ≡ 47 → (path_of bs ≡ []) × (bs ≡ 47 ∷ [])
  go [] l h = absurd (omega (arith, l))
  go (b ∷ []) l h = (refl, ap (λ x. x ∷ []) h)
  go (b ∷ c ∷ cs) l h = absurd (omega (arith, l))

pub root_text : (text : List ℕ) → IsPath text → path_of text ≡ [] → text ≡ 47 ∷ []
root_text text is e = sym (IsPath-text text is) ∙ ap text_of e

-- a path lies right below a text that is its parent's
pub is_below-path : (p q r : NodePath) → Some q ≡ parent_of p → is_below r p ≡ path_eq r q
is_below-path [] q r e = cc
is_below-path (name ∷ path) q r e = let same : q ≡ path = cc in ap (path_eq r) (sym same)

pub is_below-text : (t text u : List ℕ) → IsPath text → IsPath u → Some (path_of u) ≡ parent_of (path_of t) → (b : Bool)
    → b ≡ bytes_eq u text → b ≡ is_below (path_of text) (path_of t)
is_below-text t text u good is p b h = path_eq-text u text u good is refl b h ∙ sym (is_below-path (path_of t) (path_of u) (path_of text) p)

-- the same of the parent, as a call gives its text
pub parent_path : (path : NodePath) → are_names path ≡ true → (o : Option (List ℕ)) → o ≡ option_map text_of (parent_of path)
    → option_map path_of o ≡ parent_of path
parent_path [] e o h = ap (option_map path_of) h
parent_path (name ∷ path) e o h = ap (option_map path_of) h ∙ ap Some (path_of-text_of path (name_good name path e).2)

above_slash : (path : NodePath) (x : List ℕ) → Some x ≡ option_map text_of (parent_of path) → (get_or x 0 0 ≡ 47) × (0 < length x)
above_slash [] x h = cc
above_slash (name ∷ path) x h = let same : x ≡ text_of path = cc in slash_of_text path x same

-- the parent's text is a path
pub parent_valid : (t u v : List ℕ) → IsPath t → IsUtf8 u → t ≡ u ++ v → Some u ≡ parent_text t → IsPath u
parent_valid t u v is utf8 front e =
    let names : Some (path_of u) ≡ parent_of (path_of t) = parent_path (path_of t) (IsPath-names t is) (Some u) e in
    let slash = above_slash (path_of t) u e in
    IsPath-front t u v (path_of u) is utf8 front slash.1 slash.0 refl names

pub slash_ascii : IsAscii (47 ∷ [])
slash_ascii zero = omega arith
slash_ascii (suc i) = omega arith

pub IsPath-root : IsPath (47 ∷ [])
IsPath-root = rw (chars-IsAscii (47 ∷ []) slash_ascii) refl

-- a text that begins with a slash is the text of its path
pub text_path : (text : List ℕ) → IsPathText text → text_of (path_of text) ≡ text
text_path [] e = absurd e
text_path (b ∷ bs) e = text_of-path_of (b ∷ bs) (omega arith) e
