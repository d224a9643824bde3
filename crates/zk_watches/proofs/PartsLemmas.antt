-- How the parts of a registry's lists grow.
use Rattle.std.proofs.Common.{◌≡◌, ℕ, ◌+◌, ◌-◌, ◌<◌, ◌≤◌, List, [], ◌∷◌, ◌++◌, map, length, take, drop, get_or, All, flat_map, inl, inr}
use Rattle.std.proofs.Common.{refl, sym, ap, subst, ◌∙◌, arith, append_assoc}
use Rattle.std.proofs.Math.Seq.{drop-cons}
use Rattle.std.proofs.Math.ListN.{drop_of_length-le}
use Rattle.std.proofs.lemmas.List.{append-nil, take-append-drop, length-map, length-drop, length-take-le, take-append-le, drop-append-le}
use Rattle.std.proofs.lemmas.Bool.{cases_lt}
use Rattle.std.proofs.lemmas.List.Concat.{flat_map-append}
use Rattle.std.proofs.lemmas.List.Elements.{All-push}
use Rattle.std.proofs.lemmas.List.Sums.{sum_by_more, sum_by-take-drop}
use Rattle.zk_watches.specs.Lists.{Lists}
use Rattle.zk_watches.specs.Parts.{Watch, OnData, OnExist, OnChild, weight_of, total_of, watches_of, IsFull, AreFull, ArePartsOf}
use Rattle.zk_watches.proofs.CutLemmas.{run-append, run-map, take_all}
use Rattle.zk_limits.specs.declared.limits.TheConstants.{MOST_WEIGHT}

-- the run of each list that a part lends, joined, is the run of all
pub run-watches : (l : Lists) (start end : ℕ) → start ≤ end
    → watches_of (record {
      data_watches = drop start (take end l.data_watches);
      exist_watches = drop (start - length l.data_watches) (take (end - length l.data_watches) l.exist_watches);
      child_watches = drop (start - (length l.data_watches + length l.exist_watches))
          (take (end - (length l.data_watches + length l.exist_watches)) l.child_watches);
    }) ≡ drop start (take end (watches_of l))
run-watches l start end h =
    let a = length l.data_watches in
    let b = length l.exist_watches in
    let ds = map OnData l.data_watches in
    let es = map OnExist l.exist_watches in
    let cs = map OnChild l.child_watches in
    let la : length ds ≡ a = length-map l.data_watches OnData in
    let lb : length es ≡ b = length-map l.exist_watches OnExist in
    let s2 : (start - a) - b ≡ start - (a + b) = omega arith in
    let e2 : (end - a) - b ≡ end - (a + b) = omega arith in
    let below : start - a ≤ end - a = omega arith in
    let whole : drop start (take end (ds ++ (es ++ cs))) ≡ drop start (take end ds) ++ drop (start - a) (take (end - a) (es ++ cs)) =
    run-append start end ds (es ++ cs) h ∙ ap (λ n. drop start (take end ds) ++ drop (start - n) (take (end - n) (es ++ cs))) la in
    let rest : drop (start - a) (take (end - a) (es ++ cs)) ≡ drop (start - a) (take (end - a) es) ++ drop (start - (a + b))
    (take (end - (a + b)) cs) =
    run-append (start - a) (end - a) es cs below
    ∙ ap (λ n. drop (start - a) (take (end - a) es) ++ drop ((start - a) - n) (take ((end - a) - n) cs)) lb
    ∙ (λ i. drop (start - a) (take (end - a) es) ++ drop (s2 i) (take (e2 i) cs)) in
    sym (whole ∙ ap (λ l'. drop start (take end ds) ++ l') rest
    ∙ (λ i. run-map OnData start end l.data_watches i ++ (run-map OnExist (start - a) (end - a) l.exist_watches i
    ++ run-map OnChild (start - (a + b)) (end - (a + b)) l.child_watches i)))

-- each part is full, where these watches follow the last one
abbrev AreFullThen : List Lists → List Watch → Type 0
AreFullThen [] rest = Unit {0}
AreFullThen (part ∷ parts) rest = IsFull (total_of (watches_of part)) (flat_map watches_of parts ++ rest) × AreFullThen parts rest

full-alone : (parts : List Lists) → AreFullThen parts [] → AreFull parts
full-alone [] h = tt
full-alone (part ∷ parts) h =
    (subst (IsFull (total_of (watches_of part))) (append-nil (flat_map watches_of parts)) h.0, full-alone parts h.1)

-- what the parts are, as far as the cut at `start`, with the paths from there on to `at` still to be put into one
pub record PartsSoFar (watches : List Watch) (parts : List Lists) (start weight at : ℕ) : Type 0 where
  pub joined : flat_map watches_of parts ≡ take start watches
  pub weighed : weight + total_of (take start watches) ≡ total_of (take at watches)
  pub light : weight ≤ MOST_WEIGHT
  pub behind : start ≤ at
  pub ahead : 0 < at → start < at
  pub some : All (λ part. 0 < length (watches_of part)) parts
  pub within : All (λ part. total_of (watches_of part) ≤ MOST_WEIGHT) parts
  pub full : AreFullThen parts (drop start watches)

-- one more part, where what follows it does not fit
full-push : (parts : List Lists) (part : Lists) (rest : List Watch) → AreFullThen parts (watches_of part ++ rest)
    → IsFull (total_of (watches_of part)) rest → AreFullThen (parts ++ part ∷ []) rest
full-push [] part rest h f = (f, tt)
full-push (p ∷ parts) part rest h f =
    let e : flat_map watches_of parts ++ (watches_of part ++ rest) ≡ flat_map watches_of (parts ++ part ∷ []) ++ rest =
    sym (append_assoc (flat_map watches_of parts) (watches_of part) rest)
    ∙ ap (λ l. l ++ rest) (ap (λ l. flat_map watches_of parts ++ l) (sym (append-nil (watches_of part)))
    ∙ sym (flat_map-append watches_of parts (part ∷ []))) in
    (subst (IsFull (total_of (watches_of p))) e h.0, full-push parts part rest h.1 f)

pub so_far-none : (watches : List Watch) → PartsSoFar watches [] 0 0 0
so_far-none watches = record {
  joined = refl;
  weighed = refl;
  light = omega arith;
  behind = omega arith;
  ahead = λ h. absurd (omega arith);
  some = λ k d h. absurd (omega arith);
  within = λ k d h. absurd (omega arith);
  full = tt;
}

module _ (watches : List Watch) (parts : List Lists) (start weight at : ℕ) (s : PartsSoFar watches parts start weight at) where
  -- one more path that fits
  pub so_far-fits : (more : ℕ) → at < length watches → ((w : Watch) → more ≡ weight_of (get_or watches at w))
      → weight + more ≤ MOST_WEIGHT → PartsSoFar watches parts start (weight + more) (at + 1)
  so_far-fits more h w f =
      let e : total_of (take (at + 1) watches) ≡ total_of (take at watches) + more =
      sum_by_more weight_of watches at (OnData []) h ∙ ap (λ n. total_of (take at watches) + n) (sym (w (OnData []))) in
      record {
        joined = s.joined;
        weighed = omega (arith, s.weighed);
        light = f;
        behind = omega (arith, s.behind);
        ahead = λ _. omega (arith, s.behind);
        some = s.some;
        within = s.within;
        full = s.full;
      }

  module _ (h : at ≤ length watches) (part : Lists) (is : watches_of part ≡ drop start (take at watches)) where
    reach : start ≤ length (take at watches)
    reach = omega (arith, s.behind, length-take-le at watches h)

    front : take start (take at watches) ≡ take start watches
    front = sym (take-append-le start (take at watches) (drop at watches) reach) ∙ ap (take start) (take-append-drop at watches)

    weight-part : total_of (watches_of part) ≡ weight
    weight-part =
        let sum : total_of (take start watches) + total_of (drop start (take at watches)) ≡ total_of (take at watches) =
        ap (λ l. total_of l + total_of (drop start (take at watches))) (sym front) ∙ sum_by-take-drop weight_of (take at watches) start in
        ap total_of is ∙ omega (arith, s.weighed)

    length-part : length (watches_of part) ≡ at - start
    length-part = ap length is ∙ length-drop start (take at watches) ∙ ap (λ n. n - start) (length-take-le at watches h)

    joined-part : flat_map watches_of (parts ++ part ∷ []) ≡ take at watches
    joined-part =
        flat_map-append watches_of parts (part ∷ [])
        ∙ (λ i. s.joined i ++ (append-nil (watches_of part) ∙ is) i)
        ∙ ap (λ l. l ++ drop start (take at watches)) (sym front)
        ∙ take-append-drop start (take at watches)

    follows-part : drop start watches ≡ watches_of part ++ drop at watches
    follows-part =
        ap (drop start) (sym (take-append-drop at watches))
        ∙ drop-append-le start (take at watches) (drop at watches) reach
        ∙ ap (λ l. l ++ drop at watches) (sym is)

    full-part : IsFull (total_of (watches_of part)) (drop at watches) → AreFullThen (parts ++ part ∷ []) (drop at watches)
    full-part f = full-push parts part (drop at watches) (subst (AreFullThen parts) follows-part s.full) f

    -- the part is cut where the next path does not fit
    pub so_far-cut : (more : ℕ) → at < length watches → ((w : Watch) → more ≡ weight_of (get_or watches at w))
        → more ≤ 4100 → MOST_WEIGHT < weight + more → PartsSoFar watches (parts ++ part ∷ []) at (0 + more) (at + 1)
    so_far-cut more in_list w small past =
        let e : total_of (take (at + 1) watches) ≡ total_of (take at watches) + more =
        sum_by_more weight_of watches at (OnData []) in_list ∙ ap (λ n. total_of (take at watches) + n) (sym (w (OnData []))) in
        let long : 0 < length (watches_of part) = elim (cases_lt start at) as (λ _. 0 < length (watches_of part)) [
          | inl less ↦ omega (arith, length-part)
          | inr same ↦ let one : start ≡ at = omega (arith, s.behind) in
              absurd (omega (arith, s.weighed, ap (λ n. total_of (take n watches)) one))
        ] in
        record {
          joined = joined-part;
          weighed = omega (arith, e);
          light = omega arith;
          behind = omega arith;
          ahead = λ _. omega arith;
          some = All-push (λ p. 0 < length (watches_of p)) parts part s.some long;
          within = All-push (λ p. total_of (watches_of p) ≤ MOST_WEIGHT) parts part s.within
              (let l = s.light in let e = weight-part in omega arith);
          full = full-part (subst (IsFull (total_of (watches_of part))) (sym (drop-cons watches at (OnData []) in_list))
              (omega (arith, weight-part, w (OnData []))));
        }

    -- the last part
    pub so_far-last : (l : Lists) → watches ≡ watches_of l → at ≡ length watches → start < at → ArePartsOf l (parts ++ part ∷ [])
    so_far-last l e n less = record {
      joined = joined-part ∙ take_all at watches (omega arith) ∙ e;
      some = All-push (λ p. 0 < length (watches_of p)) parts part s.some (omega (arith, length-part));
      within =
          All-push (λ p. total_of (watches_of p) ≤ MOST_WEIGHT) parts part s.within (let l = s.light in let e = weight-part in omega arith);
      full = full-alone (parts ++ part ∷ []) (subst (AreFullThen (parts ++ part ∷ [])) (drop_of_length-le watches (omega arith))
          (full-part (subst (IsFull (total_of (watches_of part))) (sym (drop_of_length-le watches (omega arith))) tt)));
    }

  -- no path is left
  pub so_far-all : (l : Lists) → watches ≡ watches_of l → at ≡ length watches → at ≤ start → ArePartsOf l parts
  so_far-all l e n h = record {
    joined = s.joined ∙ take_all start watches (omega arith) ∙ e;
    some = s.some;
    within = s.within;
    full = full-alone parts (subst (AreFullThen parts) (drop_of_length-le watches (omega arith)) s.full);
  }

-- what a part lends of the sets' keys
pub lent : {X : Type 0} (now : X → List ℕ) (kd ke kc there absent below : List X)
    (start end start_exist end_exist start_child end_child : ℕ)
    → start ≤ end
    → there ≡ drop start (take end kd)
    → start_exist ≡ start - length kd → end_exist ≡ end - length kd
    → absent ≡ drop start_exist (take end_exist ke)
    → start_child ≡ start - (length kd + length ke) → end_child ≡ end - (length kd + length ke)
    → below ≡ drop start_child (take end_child kc)
    → watches_of (record { data_watches = map now there; exist_watches = map now absent; child_watches = map now below })
    ≡ drop start (take end (watches_of (record { data_watches = map now kd; exist_watches = map now ke; child_watches = map now kc })))
lent now kd ke kc there absent below start end start_exist end_exist start_child end_child h d s1 e1 x s2 e2 c =
    (λ i. watches_of (record {
      data_watches = (ap (map now) d ∙ sym (run-map now start end kd)) i;
      exist_watches = (ap (map now) x ∙ sym (run-map now start_exist end_exist ke)) i;
      child_watches = (ap (map now) c ∙ sym (run-map now start_child end_child kc)) i;
    }))
    ∙ (λ i. watches_of (record {
      data_watches = drop start (take end (map now kd));
      exist_watches = drop ((s1 ∙ ap (λ n. start - n) (sym (length-map kd now))) i)
          (take ((e1 ∙ ap (λ n. end - n) (sym (length-map kd now))) i) (map now ke));
      child_watches = drop ((s2 ∙ (λ j. start - (sym (length-map kd now) j + sym (length-map ke now) j))) i)
          (take ((e2 ∙ (λ j. end - (sym (length-map kd now) j + sym (length-map ke now) j))) i) (map now kc));
    }))
    ∙ run-watches (record { data_watches = map now kd; exist_watches = map now ke; child_watches = map now kc }) start end h
