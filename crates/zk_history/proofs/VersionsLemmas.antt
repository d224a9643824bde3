-- The versions of a text after a change of the map, and the last one up to a zxid.
use Rattle.std.proofs.Common.{◌≡◌, ℕ, zero, suc, ◌+◌, ◌-◌, ◌<◌, ◌≤◌, Bool, true, false, ◌||◌, cond, leb, List, [], ◌∷◌, ◌++◌, length}
use Rattle.std.proofs.Common.{get_or, take, map, Result, Ok, Err, OnOk, OnErr, Option, Some, None, refl, sym, ap, ◌∙◌, arith, String}
use Rattle.std.proofs.Common.{BTreeMap}
use Rattle.std.proofs.lemmas.Bool.{cond-true, cond-false, leb-true, false≢true}
use Rattle.std.proofs.lemmas.Bool.Decides.{nat_tests}
use Rattle.std.proofs.lemmas.Map.Text.{btree_map_updates_text}
use Rattle.std.proofs.lemmas.Slice.Eq.{bytes_eq-Decides}
use Rattle.std.proofs.Math.Seq.{take-append_seam}
use Rattle.std.proofs.lemmas.List.{length-append, map-append}
use Rattle.std.specs.Prelude.{bytes_eq, slice_get, is_err}
use Rattle.std.specs.Option.{option_map_or}
use Rattle.std.specs.BTreeMap.{get_by_text, UpdatesBy}
use Rattle.std.specs.String.{string_cmp, string_bytes}
use Rattle.std.specs.Ordering.{nat_cmp}
use Rattle.std.specs.Cmp.Lexicographic.{slice_cmp}
use Rattle.std.specs.declared.vec.Vec.{Vec}
use Rattle.zk_nodes.specs.Path.{Text, NodePath, path_eq, path_of, parent_of}
use Rattle.zk_nodes.specs.History.{Transaction}
use Rattle.zk_nodes.specs.PathFault.{IsPath}
use Rattle.zk_nodes.proofs.PathTexts.{root_text, path_eq-text}
use Rattle.zk_history.proofs.ViewLemmas.{at_last}
use Rattle.zk_history.specs.declared.version.Version.{Version}
use Rattle.zk_history.specs.Versions.{versions_of, version_at, first_entry}
use Rattle.zk_history.specs.inner.Versions.{without_last, last_version, is_near, last_transaction}
use Rattle.zk_history.specs.Versions.{AreOrdered}

items_picked : {A : Type 0} (b : Bool) (w : Vec Version A) (o : Option (Vec Version A))
    → option_map_or (λ v. v.items) (cond b (Some w) o) [] ≡ cond b w.items (option_map_or (λ v. v.items) o [])
items_picked true w o = refl
items_picked false w o = refl

-- a text whose versions were written anew
pub versions_written : {A : Type 0} (at : Text) (m n : BTreeMap (String A) (Vec Version A)) (w : Vec Version A)
    (f : List Version → List Version) (xs : List Version)
    → versions_of m at ≡ xs → w.items ≡ f xs → UpdatesBy string_cmp (λ k. slice_cmp nat_cmp at (string_bytes k)) m n (Some w)
    → (text : Text) → versions_of n text ≡ cond (bytes_eq at text) (f (versions_of m text)) (versions_of m text)
versions_written at m n w f xs had is u text =
    ap (λ o. option_map_or (λ v. v.items) o []) (btree_map_updates_text at m n (Some w) u text)
    ∙ items_picked (bytes_eq at text) w (get_by_text m text)
    ∙ elim (bytes_eq at text) as
    (λ b. bytes_eq at text ≡ b → cond b w.items (versions_of m text) ≡ cond b (f (versions_of m text)) (versions_of m text)) [
      | true ↦ λ e. is ∙ ap f (sym had) ∙ ap (λ t. f (versions_of m t)) ((bytes_eq-Decides at text).0 e)
      | false ↦ λ e. refl
    ] refl

-- where nothing is written
pub versions_kept : {A : Type 0} (at : Text) (m : BTreeMap (String A) (Vec Version A)) (f : List Version → List Version)
    → versions_of m at ≡ [] → f [] ≡ [] → (text : Text)
    → versions_of m text ≡ cond (bytes_eq at text) (f (versions_of m text)) (versions_of m text)
versions_kept at m f had none text =
    elim (bytes_eq at text) as (λ b. bytes_eq at text ≡ b → versions_of m text ≡ cond b (f (versions_of m text)) (versions_of m text)) [
      | true ↦ λ e.
          let here : versions_of m text ≡ [] = ap (versions_of m) (sym ((bytes_eq-Decides at text).0 e)) ∙ had in
          here ∙ sym none ∙ ap f (sym here)
      | false ↦ λ e. refl
    ] refl

pub written_same : {A : Type 0} (at : Text) (m n : BTreeMap (String A) (Vec Version A)) (w : Vec Version A) (xs : List Version)
    → versions_of m at ≡ xs → w.items ≡ xs → UpdatesBy string_cmp (λ k. slice_cmp nat_cmp at (string_bytes k)) m n (Some w)
    → (text : Text) → versions_of n text ≡ versions_of m text
written_same at m n w xs had is u text =
    versions_written at m n w (λ vs. vs) xs had is u text
    ∙ elim (bytes_eq at text) as (λ b. cond b (versions_of m text) (versions_of m text) ≡ versions_of m text) [ true ↦ refl | false ↦ refl ]

pub without_pushed : (vs : List Version) (v : Version) → without_last (vs ++ v ∷ []) ≡ vs
without_pushed vs v =
    let l : length (vs ++ v ∷ []) - 1 ≡ length vs = omega (arith, length-append vs (v ∷ [])) in
    ap (λ n. take n (vs ++ v ∷ [])) l ∙ take-append_seam vs (v ∷ [])

-- the last of a list
pub slice_last : (vs : List Version) → slice_get vs (length vs - 1) ≡ last_version vs
slice_last [] = refl
slice_last (v ∷ []) = refl
slice_last (v ∷ w ∷ vs) = let n : length (v ∷ w ∷ vs) - 1 ≡ suc (length (w ∷ vs) - 1) = omega arith in
    ap (slice_get (v ∷ w ∷ vs)) n ∙ slice_last (w ∷ vs)

-- past all zxids the last one is the last of all
pub version_at-last : (z low high : ℕ) (vs : List Version) → AreOrdered low vs high → high ≤ z → version_at z vs None ≡ last_version vs
version_at-last z low high [] h l = refl
version_at-last z low high (v ∷ vs) h l = some v vs low None h where
  some : (v : Version) (vs : List Version) (low : ℕ) (held : Option Version)
      → AreOrdered low (v ∷ vs) high → version_at z (v ∷ vs) held ≡ last_version (v ∷ vs)
  some v [] low held h = let e : leb v.zxid z ≡ true = (let k : v.zxid ≤ z = omega (arith, h.1, l) in grind (arith, nat_tests, k)) in
      cond-true (leb v.zxid z) (Some v) held e
  some v (w ∷ vs) low held h = some w vs v.zxid (cond (leb v.zxid z) (Some v) held) h.1

-- one version more
pub version_at-push : (z : ℕ) (vs : List Version) (v : Version) (held : Option Version)
    → version_at z (vs ++ v ∷ []) held ≡ cond (leb v.zxid z) (Some v) (version_at z vs held)
version_at-push z [] v held = refl
version_at-push z (w ∷ vs) v held = version_at-push z vs v (cond (leb w.zxid z) (Some w) held)

pub AreOrdered-push : (low high : ℕ) (vs : List Version) (v : Version)
    → AreOrdered low vs high → high ≤ v.zxid → AreOrdered low (vs ++ v ∷ []) v.zxid
AreOrdered-push low high [] v h l = (omega (arith, h, l), omega arith)
AreOrdered-push low high (w ∷ vs) v h l = (h.0, AreOrdered-push w.zxid high vs v h.1 l)

pub AreOrdered-higher : (low high top : ℕ) (vs : List Version) → AreOrdered low vs high → high ≤ top → AreOrdered low vs top
AreOrdered-higher low high top [] h l = omega (arith, h, l)
AreOrdered-higher low high top (w ∷ vs) h l = (h.0, AreOrdered-higher w.zxid high top vs h.1 l)

-- what the order gives a search
above_low : (low high : ℕ) (vs : List Version) (j : ℕ) (d : Version) → AreOrdered low vs high → j < length vs → low ≤ (get_or vs j d).zxid
above_low low high [] j d h l = absurd (omega (arith, l))
above_low low high (v ∷ vs) zero d h l = h.0
above_low low high (v ∷ vs) (suc j) d h l = omega (arith, h.0, above_low v.zxid high vs j d h.1 (omega (arith, l)))

pub in_order : (low high : ℕ) (vs : List Version) (i j : ℕ) (d : Version)
    → AreOrdered low vs high → i ≤ j → j < length vs → (get_or vs i d).zxid ≤ (get_or vs j d).zxid
in_order low high [] i j d h k l = absurd (omega (arith, l))
in_order low high (v ∷ vs) zero zero d h k l = omega arith
in_order low high (v ∷ vs) zero (suc j) d h k l = above_low v.zxid high vs j d h.1 (omega (arith, l))
in_order low high (v ∷ vs) (suc i) zero d h k l = absurd (omega (arith, k))
in_order low high (v ∷ vs) (suc i) (suc j) d h k l = in_order v.zxid high vs i j d h.1 (omega (arith, k)) (omega (arith, l))

pub lower_passes : (low high z : ℕ) (vs : List Version) (i j : ℕ) (d : Version)
    → AreOrdered low vs high → i ≤ j → j < length vs → leb (get_or vs j d).zxid z ≡ true → leb (get_or vs i d).zxid z ≡ true
lower_passes low high z vs i j d h k l e =
    let a = in_order low high vs i j d h k l in
    let b = leb-true (get_or vs j d).zxid z e in
    let c : (get_or vs i d).zxid ≤ z = omega (arith, a, b) in
    grind (arith, nat_tests, c)

-- the version before the first one past a zxid
pub version_at-none : (z : ℕ) (vs : List Version) (held : Option Version)
    → ((i : ℕ) (d : Version) → i < length vs → leb (get_or vs i d).zxid z ≡ false) → version_at z vs held ≡ held
version_at-none z [] held past = refl
version_at-none z (v ∷ vs) held past =
    version_at-none z vs _ (λ i d l. past (suc i) d (omega (arith, l)))
    ∙ cond-false (leb v.zxid z) (Some v) held (past zero v (omega arith))

pub version_at-point : (z k : ℕ) (vs : List Version) (held : Option Version) (d : Version) → k < length vs
    → ((i : ℕ) (d : Version) → i < k + 1 → leb (get_or vs i d).zxid z ≡ true)
    → ((i : ℕ) (d : Version) → k + 1 ≤ i → i < length vs → leb (get_or vs i d).zxid z ≡ false)
    → version_at z vs held ≡ Some (get_or vs k d)
version_at-point z k [] held d l up past = absurd (omega (arith, l))
version_at-point z zero (v ∷ vs) held d l up past =
    version_at-none z vs _ (λ i d m. past (suc i) d (omega arith) (omega (arith, m)))
    ∙ cond-true (leb v.zxid z) (Some v) held (up zero v (omega arith))
version_at-point z (suc k) (v ∷ vs) held d l up past =
    version_at-point z k vs _ d (omega (arith, l)) (λ i d m. up (suc i) d (omega (arith, m)))
    (λ i d m n. past (suc i) d (omega (arith, m)) (omega (arith, n)))

-- another path than the root's is not there before all changes
pub first_absent : (t : List ℕ) → IsPath t → bytes_eq (47 ∷ []) t ≡ false → None ≡ first_entry (path_of t)
first_absent t is e = go (path_of t) (root_text t is) where
  go : (p : NodePath) → (p ≡ [] → t ≡ 47 ∷ []) → None ≡ first_entry p
  go [] h = let same : bytes_eq (47 ∷ []) t ≡ true = (bytes_eq-Decides (47 ∷ []) t).1 (sym (h refl)) in cc
  go (name ∷ p) h = refl

-- texts of near paths

pub same_path : (at text : Text) → IsPath at → IsPath text → bytes_eq at text ≡ path_eq (path_of text) (path_of at)
same_path at text is_at is_text = path_eq-text at text at is_text is_at refl (bytes_eq at text) refl

near_parts : (p q r : NodePath) → parent_of q ≡ Some r → is_near p q ≡ (path_eq p q || path_eq p r)
near_parts p [] r h = absurd cc
near_parts p (name ∷ path) r h = let same : path ≡ r = cc in ap (λ x. path_eq p (name ∷ path) || path_eq p x) same

pub near_text : (at parent text : Text) → IsPath at → IsPath parent → IsPath text → parent_of (path_of at) ≡ Some (path_of parent)
    → (bytes_eq at text || bytes_eq parent text) ≡ is_near (path_of text) (path_of at)
near_text at parent text is_at is_parent is_text h =
    ap (λ b. b || bytes_eq parent text) (same_path at text is_at is_text)
    ∙ ap (λ b. path_eq (path_of text) (path_of at) || b) (same_path parent text is_parent is_text)
    ∙ sym (near_parts (path_of text) (path_of at) (path_of parent) h)

longer : (p : NodePath) → parent_of p ≡ Some p → ⊥
longer [] h = cc
longer (name ∷ path) h = let same : path ≡ name ∷ path = cc in
    let l : length path ≡ length (name ∷ path) = ap length same in omega (arith, l)

pub parent_differs : (at parent : Text) → parent_of (path_of at) ≡ Some (path_of parent) → bytes_eq at parent ≡ false
parent_differs at parent h =
    elim (bytes_eq at parent) as (λ b. bytes_eq at parent ≡ b → b ≡ false) [
      | true ↦ λ e. absurd (longer (path_of parent) (ap (λ t. parent_of (path_of t)) (sym ((bytes_eq-Decides at parent).0 e)) ∙ h))
      | false ↦ λ e. refl
    ] refl

-- the root is near no path
pub none_near : (p q : NodePath) → parent_of q ≡ None → is_near p q ≡ false
none_near p [] h = refl
none_near p (name ∷ path) h = absurd cc

-- a text and its parent's are written in turn
pub both_written : (at parent text : Text) (f : List Version → List Version) (old mid new : List Version) → bytes_eq at parent ≡ false
    → mid ≡ cond (bytes_eq at text) (f old) old → new ≡ cond (bytes_eq parent text) (f mid) mid
    → new ≡ cond (bytes_eq at text || bytes_eq parent text) (f old) old
both_written at parent text f old mid new differ one two =
    elim (bytes_eq at text) as (λ a. bytes_eq at text ≡ a → mid ≡ cond a (f old) old → new ≡ cond (a || bytes_eq parent text) (f old) old) [
      | true ↦ λ e m.
          let other : bytes_eq parent text ≡ false = elim (bytes_eq parent text) as (λ b. bytes_eq parent text ≡ b → b ≡ false) [
            | true ↦ λ d. absurd (false≢true
                (sym differ ∙ (bytes_eq-Decides at parent).1 ((bytes_eq-Decides at text).0 e ∙ sym ((bytes_eq-Decides parent text).0 d))))
            | false ↦ λ d. refl
          ] refl in
          two ∙ cond-false (bytes_eq parent text) (f mid) mid other ∙ m
      | false ↦ λ e m. two ∙ ap (λ vs. cond (bytes_eq parent text) (f vs) vs) m
    ] refl one

-- what was pushed is taken away again
pub pushed_undone : (b : Bool) (v : Version) (old mid same new : List Version)
    → mid ≡ cond b (old ++ v ∷ []) old → same ≡ mid → new ≡ cond b (without_last same) same → new ≡ old
pushed_undone true v old mid same new one two three = three ∙ ap without_last (two ∙ one) ∙ without_pushed old v
pushed_undone false v old mid same new one two three = three ∙ two ∙ one

-- what holds of a result that is an error, or is none
pub on_err_is : {T E : Type 0} {A : Type 0} (r : Result T E) (b : Bool) → b ≡ is_err r → b ≡ true → OnErr r A → A
on_err_is (Ok x) b e f a = absurd (false≢true (sym e ∙ f))
on_err_is (Err x) b e f a = a

pub on_ok_is : {T E : Type 0} {A : Type 0} (r : Result T E) (b : Bool) → b ≡ is_err r → b ≡ false → OnOk r A → A
on_ok_is (Ok x) b e f a = a
on_ok_is (Err x) b e f a = absurd (false≢true (sym f ∙ e))

-- the last transaction
pub last_transaction-push : (ts : List Transaction) (one : Transaction) → last_transaction (ts ++ one ∷ []) ≡ one
last_transaction-push [] one = refl
last_transaction-push (a ∷ []) one = refl
last_transaction-push (a ∷ b ∷ ts) one = last_transaction-push (b ∷ ts) one

pub last_transaction-mapped : {X : Type 0} (f : X → Transaction) (xs : List X) (n : ℕ) (x : X)
    → n + 1 ≡ length xs → x ≡ get_or xs n x → last_transaction (map f xs) ≡ f x
last_transaction-mapped f xs n x l e =
    ap (λ ys. last_transaction (map f ys)) (at_last xs n x l e) ∙ ap last_transaction (map-append f (take n xs) (x ∷ []))
    ∙ last_transaction-push (map f (take n xs)) (f x)
