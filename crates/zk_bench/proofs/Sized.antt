-- How many bytes the names of a node's children take in an answer: names that are all different weigh no more than a list that has them
-- all, so what fits that list fits.
use Rattle.std.proofs.Common.{ℕ, ℤ, ◌≡◌, ◌+◌, ◌<◌, ◌≤◌, ◌^◌, refl, ap, sym, subst, ◌∙◌, arith, Bool, true, false, ◌||◌, cond, List, [], ◌∷◌}
use Rattle.std.proofs.Common.{map, length, length-append, Option, None, Some}
use Rattle.std.specs.Prelude.{String, string_bytes, sum_by}
use Rattle.std.specs.List.{AllByRecursion, list_any}
use Rattle.std.specs.List.Sorted.{IsStrictlySortedBy}
use Rattle.std.specs.String.{string_cmp}
use Rattle.std.specs.BTreeSet.{BTreeSet, IsOrdered, contains_text}
use Rattle.std.specs.Ordering.{is_eq, eq_by_cmp}
use Rattle.std.specs.declared.cmp.Ordering.TheVariants.{Less}
use Rattle.std.specs.FinSet as set
use Rattle.std.proofs.lemmas.Str.{IsUtf8-string_bytes, is_utf8-from_IsUtf8}
use Rattle.std.proofs.lemmas.Cmp.{nat_list_cmp_total}
use Rattle.std.proofs.lemmas.Slice.Eq.{bytes_eq-Decides}
use Rattle.std.proofs.lemmas.List.Sums.{sum_by-cons}
use Rattle.zk_jute.specs.Spelling.{spelling, Fits}
use Rattle.zk_jute.specs.Layout.{Value, ustring}
use Rattle.zk_nodes.specs.Path.{NodePath, Name}
use Rattle.zk_nodes.specs.History.{Node, Tree, Children, view}
use Rattle.zk_nodes.specs.StatLayout.{stat}
use Rattle.zk_nodes.specs.declared.stat.Stat.{Stat}
use Rattle.zk_nodes.specs.declared.side.Side.TheVariants.{Child}
use Rattle.zk_nodes.specs.Names.{Names, name_cmp}
use Rattle.zk_nodes.proofs.NamesLemmas.{tested}
use Rattle.zk_history.specs.HistoryView.{HasChildren}
use Rattle.zk_history.specs.Shown.{IsStat}
use Rattle.zk_records.specs.Layouts.{get_children_response, get_children2_response}
use Rattle.zk_conversation.proofs.Lengths.{weights, length-vector}
use Rattle.zk_bench.specs.Serving.{FitsReply}
use Rattle.zk_bench.specs.inner.Serving.{CanBeSent}
use Rattle.zk_bench.specs.Answerable.{size_of_names, NamesFit}
use Rattle.zk_bench.specs.inner.Answerable.{ListFits}
use Rattle.zk_bench.proofs.Answered.{or-true, names_found, both_told}
use Rattle.zk_bench.proofs.Staying.{length-stat}

-- the name is one of these
abbrev Has : List Name → Name → Type 0
Has names name = list_any (eq_by_cmp name_cmp name) names ≡ true

itself : (name : Name) → eq_by_cmp name_cmp name name ≡ true
itself name = tested name name ∙ (bytes_eq-Decides name name).1 refl

-- all but the first that is the name
abbrev but : Name → List Name → List Name
but name [] = []
but name (x ∷ xs) = cond (eq_by_cmp name_cmp name x) xs (x ∷ but name xs)

weights-but : (name : Name) (xs : List Name) → Has xs name → weights xs ≡ (4 + length name) + weights (but name xs)
weights-but name [] has = absurd cc
weights-but name (x ∷ xs) has = go (eq_by_cmp name_cmp name x) refl has (weights-but name xs)
  where
    go : (b : Bool) → eq_by_cmp name_cmp name x ≡ b → (b || list_any (eq_by_cmp name_cmp name) xs) ≡ true
        → (Has xs name → weights xs ≡ (4 + length name) + weights (but name xs))
        → (4 + length x) + weights xs ≡ (4 + length name) + weights (cond b xs (x ∷ but name xs))
    go true e h later = let same : name ≡ x = (bytes_eq-Decides name x).0 (sym (tested name x) ∙ e) in
        let long = ap length same in omega (arith, long)
    go false e h later = let rest = later h in omega (arith, rest)

-- another name is still there
has-but : (name other : Name) (xs : List Name) → eq_by_cmp name_cmp name other ≡ false → Has xs other → Has (but name xs) other
has-but name other [] apart has = has
has-but name other (x ∷ xs) apart has =
    go (eq_by_cmp name_cmp name x) refl (eq_by_cmp name_cmp other x) refl has (has-but name other xs apart)
  where
    go : (b : Bool) → eq_by_cmp name_cmp name x ≡ b → (c : Bool)
        → eq_by_cmp name_cmp other x ≡ c → (c || list_any (eq_by_cmp name_cmp other) xs) ≡ true → (Has xs other → Has (but name xs) other)
        → Has (cond b xs (x ∷ but name xs)) other
    go true e true f h later =
        let one : name ≡ x = (bytes_eq-Decides name x).0 (sym (tested name x) ∙ e) in
        let two : other ≡ x = (bytes_eq-Decides other x).0 (sym (tested other x) ∙ f) in
        let clash : eq_by_cmp name_cmp name other ≡ true = ap (eq_by_cmp name_cmp name) (two ∙ sym one) ∙ itself name in absurd cc
    go true e false f h later = h
    go false e true f h later = ap (λ (c : Bool). c || list_any (eq_by_cmp name_cmp other) (but name xs)) f
    go false e false f h later = ap (λ (c : Bool). c || list_any (eq_by_cmp name_cmp other) (but name xs)) f ∙ later h

module _ {A : Type 0} where
  abbrev AreIn : List Name → List (String A) → Type 0
  AreIn xs keys = AllByRecursion (λ key. Has xs (string_bytes key)) keys

  still_in : (key : String A) (xs : List Name) (keys : List (String A))
      → AllByRecursion (λ other. string_cmp key other ≡ Less) keys → AreIn xs keys → AreIn (but (string_bytes key) xs) keys
  still_in key xs [] above all = tt
  still_in key xs (other ∷ keys) above all =
      (has-but (string_bytes key) (string_bytes other) xs (ap is_eq above.0) all.0, still_in key xs keys above.1 all.1)

  -- keys that rise have no more bytes than names among which they are
  lighter : (keys : List (String A)) (xs : List Name)
      → IsStrictlySortedBy string_cmp keys → AreIn xs keys → weights (map string_bytes keys) ≤ weights xs
  unfolding IsStrictlySortedBy
  lighter [] xs rising all = omega arith
  lighter (key ∷ keys) xs rising all =
      let one = weights-but (string_bytes key) xs all.0 in
      let rest = lighter keys (but (string_bytes key) xs) rising.1 (still_in key xs keys rising.0 all.1) in
      omega (arith, one, rest)

  wider : (name : Name) (xs : List Name) (keys : List (String A)) → AreIn xs keys → AreIn (name ∷ xs) keys
  wider name xs [] all = tt
  wider name xs (key ∷ keys) all = (
    ap (λ (b : Bool). eq_by_cmp name_cmp (string_bytes key) name || b) all.0 ∙ or-true (eq_by_cmp name_cmp (string_bytes key) name),
    wider name xs keys all.1,
  )

  own_names : (keys : List (String A)) → AreIn (map string_bytes keys) keys
  own_names [] = tt
  own_names (key ∷ keys) = (
    ap (λ (b : Bool). b || list_any (eq_by_cmp name_cmp (string_bytes key)) (map string_bytes keys)) (itself (string_bytes key)),
    wider (string_bytes key) (map string_bytes keys) keys (own_names keys),
  )

  moved : (xs ys : List Name) → ((name : Name) → list_any (eq_by_cmp name_cmp name) xs ≡ list_any (eq_by_cmp name_cmp name) ys)
      → (keys : List (String A)) → AreIn xs keys → AreIn ys keys
  moved xs ys same [] all = tt
  moved xs ys same (key ∷ keys) all = (sym (same (string_bytes key)) ∙ all.0, moved xs ys same keys all.1)

  -- texts of few bytes fit
  short_texts : (keys : List (String A))
      → weights (map string_bytes keys) < 2 ^ 31 → (length (map Some (map string_bytes keys)) ≤ weights (map string_bytes keys))
      × AllByRecursion (Fits ustring) (map Some (map string_bytes keys))
  short_texts [] low = (omega arith, tt)
  short_texts (key ∷ keys) low =
      let rest = short_texts keys (omega (arith, low)) in
      (omega (arith, rest.0), ((omega (arith, low), is_utf8-from_IsUtf8 (string_bytes key) (IsUtf8-string_bytes key)), rest.1))

weights_sum : (xs : List Name) → sum_by (λ (name : Name). 4 + length name) xs ≡ weights xs
weights_sum [] = refl
weights_sum (x ∷ xs) = sum_by-cons (λ (name : Name). 4 + length name) x xs ∙ ap (λ (n : ℕ). (4 + length x) + n) (weights_sum xs)

-- The names of children that are found fit where those of the set fit.
pub list_fits : {A : Type 0} (tree : Tree) (path : NodePath) (kept : BTreeSet (String A)) (pzxid : ℤ) (names : Names)
    (texts : Option (List (Option (List ℕ)))) → Children (contains_text kept) pzxid ≡ view Child tree path
    → texts ≡ Some (map Some (map string_bytes kept.keys)) → IsOrdered string_cmp kept → HasChildren tree path names
    → FitsReply (4 + size_of_names names + 68) → ListFits texts
list_fits tree path kept pzxid names texts seen is rising children small =
    let own = map string_bytes kept.keys in
    let same : (name : Name) → list_any (eq_by_cmp name_cmp name) own ≡ list_any (eq_by_cmp name_cmp name) (set.items names) =
    λ name. sym (set.contains-from_list nat_list_cmp_total own name) ∙ names_found tree path kept pzxid seen name ∙ sym (children name)
    ∙ set.contains-items names name in
    let light = lighter kept.keys (set.items names) rising (moved own (set.items names) same kept.keys (own_names kept.keys)) in
    let sum = weights_sum (set.items names) in
    let short = short_texts kept.keys (omega (arith, light, sum, small)) in
    let long = length-vector own in
    subst ListFits (sym is)
    (record { fits = (omega (arith, short.0, light, sum, small), short.1); small = omega (arith, long, light, sum, small) })

-- with the Stat of a node
pub names_fit : (texts : Option (List (Option (List ℕ)))) (value : Value stat)
    → ListFits texts → Fits stat value → CanBeSent get_children2_response (texts, value)
names_fit texts value list fits =
    let small = list.small in
    let long = length-append (spelling get_children_response texts) (spelling stat value) in
    let last = length-stat value in
    record { fits = (list.fits, fits); small = omega (arith, long, last, small) }

-- the names that fit, of a node that is there
pub names_there : (tree : Tree) (path : NodePath) (told : Stat) → IsStat tree path (Some told) → NamesFit tree path (tree path)
    → (names : Names) × HasChildren tree path names × FitsReply (4 + size_of_names names + 68)
names_there tree path told is fit = go (tree path) refl fit
  where
    go : (node : Option Node) → tree path ≡ node → NamesFit tree path node
        → (names : Names) × HasChildren tree path names × FitsReply (4 + size_of_names names + 68)
    go None none fit = absurd (both_told tree path told is none)
    go (Some node) some fit = fit
