-- A set of texts, as a set of names: what it contains, and what an insert and a removal leave.
use Rattle.std.proofs.Common.{◌≡◌, ℕ, Bool, true, false, ◌||◌, ◌&&◌, not, cond, List, [], ◌∷◌, map, refl, sym, ap, ◌∙◌}
use Rattle.std.specs.Prelude.{String}
use Rattle.std.specs.BTreeSet as tree
use Rattle.std.specs.BTreeSet.{BTreeSet, contains_text}
use Rattle.std.specs.FinSet as set
use Rattle.std.specs.String.{string_bytes, string_cmp}
use Rattle.std.specs.Str.{bytes_eq}
use Rattle.std.specs.Ordering.{nat_cmp, eq_by_cmp}
use Rattle.std.specs.Cmp.Lexicographic.{slice_cmp}
use Rattle.std.specs.List.{list_any}
use Rattle.std.proofs.lemmas.Cmp.{nat_list_cmp_total}
use Rattle.std.proofs.lemmas.Map.Text.{btree_set_updates_text, is_eq-slice_cmp}
use Rattle.std.proofs.lemmas.Slice.Eq.{bytes_eq-Decides}
use Rattle.std.proofs.lemmas.Bool.Decides.{same_from_decides}
use Rattle.zk_nodes.specs.Names.{Names}
use Rattle.zk_nodes.specs.inner.Names.{names_of}

pub same_names : (s t : Names) → ((q : List ℕ) → set.contains s q ≡ set.contains t q) → s ≡ t
same_names s t h = set.same_set nat_list_cmp_total (set.slice_cmp-IsAntisymmetric set.nat_cmp-IsAntisymmetric) s t h

any_mapped : {X Y : Type 0} (p : Y → Bool) (h : X → Y) (xs : List X) → list_any p (map h xs) ≡ list_any (λ x. p (h x)) xs
any_mapped p h [] = refl
any_mapped p h (x ∷ xs) = ap (λ b. p (h x) || b) (any_mapped p h xs)

pub contains-names_of : {A : Type 0} (s : BTreeSet (String A)) (q : List ℕ) → set.contains (names_of s) q ≡ contains_text s q
contains-names_of s q = set.contains-from_list nat_list_cmp_total (map string_bytes s.keys) q
    ∙ any_mapped (eq_by_cmp (slice_cmp nat_cmp) q) string_bytes s.keys

bytes_eq_swap : (xs ys : List ℕ) → bytes_eq xs ys ≡ bytes_eq ys xs
bytes_eq_swap xs ys = same_from_decides _ (bytes_eq ys xs) (bytes_eq-Decides xs ys)
    (λ e. sym ((bytes_eq-Decides ys xs).0 e), λ e. (bytes_eq-Decides ys xs).1 (sym e))

or_cond : (b x : Bool) → cond b true x ≡ (b || x)
or_cond true x = refl
or_cond false x = refl

not_cond : (b x : Bool) → cond b false x ≡ (not b && x)
not_cond true x = refl
not_cond false x = refl

-- the test of a key in the order of bytes
pub tested : (q k : List ℕ) → eq_by_cmp (slice_cmp nat_cmp) q k ≡ bytes_eq q k
tested q k = is_eq-slice_cmp q k

pub names_of-insert : {A : Type 0} (s n : BTreeSet (String A)) (key : String A)
    → tree.UpdatesBy string_cmp (string_cmp key) s n true → names_of n ≡ set.insert (names_of s) (string_bytes key)
names_of-insert s n key u = same_names _ _ (λ q.
    contains-names_of n q ∙ btree_set_updates_text (string_bytes key) s n true u q
    ∙ or_cond (bytes_eq (string_bytes key) q) (contains_text s q)
    ∙ ap (λ b. b || contains_text s q) (bytes_eq_swap (string_bytes key) q ∙ sym (tested q (string_bytes key)))
    ∙ ap (λ b. eq_by_cmp (slice_cmp nat_cmp) q (string_bytes key) || b) (sym (contains-names_of s q))
    ∙ sym (set.contains-insert nat_list_cmp_total (names_of s) (string_bytes key) q))

pub names_of-remove : {A : Type 0} (s n : BTreeSet (String A)) (bs : List ℕ)
    → tree.UpdatesBy string_cmp (λ k. slice_cmp nat_cmp bs (string_bytes k)) s n false → names_of n ≡ set.remove (names_of s) bs
names_of-remove s n bs u = same_names _ _ (λ q.
    contains-names_of n q ∙ btree_set_updates_text bs s n false u q ∙ not_cond (bytes_eq bs q) (contains_text s q)
    ∙ ap (λ b. not b && contains_text s q) (bytes_eq_swap bs q ∙ sym (tested q bs))
    ∙ ap (λ b. not (eq_by_cmp (slice_cmp nat_cmp) q bs) && b) (sym (contains-names_of s q))
    ∙ sym (set.contains-remove nat_list_cmp_total (names_of s) bs q))
