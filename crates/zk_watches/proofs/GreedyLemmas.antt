-- The parts of lists are full, and nothing else is so cut.
use Rattle.std.proofs.Common.{◌≡◌, ℕ, ◌+◌, ◌<◌, ◌≤◌, Bool, true, false, List, [], ◌∷◌, ◌++◌, length, All, flat_map, refl, sym, ap, subst}
use Rattle.std.proofs.Common.{◌∙◌, arith, leb, length-append, if◌then◌else◌}
use Rattle.std.proofs.lemmas.Bool.{leb-true, leb-false, le-leb, lt-leb}
use Rattle.std.proofs.lemmas.List.Elements.{All-head, All-tail, All-cons, All-nil}
use Rattle.std.proofs.lemmas.List.Sums.{sum_by-cons}
use Rattle.zk_nodes.specs.Path.{Text}
use Rattle.zk_watches.specs.Lists.{Lists, no_lists}
use Rattle.zk_watches.specs.Parts.{Watch, OnData, OnExist, OnChild, path_of, weight_of, total_of, watches_of, put_first, into_first}
use Rattle.zk_watches.specs.Parts.{rest_of_parts, parts_of_watches, parts, IsFull, AreFull, ArePartsOf}
use Rattle.zk_limits.specs.declared.limits.TheConstants.{LONGEST_PATH, MOST_WEIGHT}

abbrev head : Watch → List Watch → Watch
head other [] = other
head other (x ∷ xs) = x

abbrev tail : List Watch → List Watch
tail [] = []
tail (x ∷ xs) = xs

abbrev IsSome : List Watch → Type 0
IsSome [] = ⊥
IsSome (x ∷ xs) = Unit {0}

not_none : {A : Type 0} (x : Watch) (xs : List Watch) → x ∷ xs ≡ [] → A
not_none x xs h = absurd (subst IsSome h tt)

abbrev lists : List Text → List Text → List Text → Lists
lists d e c = record { data_watches = d; exist_watches = e; child_watches = c }

-- lists whose first path is this one
record Split (x : Watch) (xs : List Watch) (part : Lists) : Type 0 where
  rest : Lists
  is : part ≡ put_first x rest
  watches : watches_of rest ≡ xs

split-by : (x : Watch) (xs : List Watch) (d e c : List Text) → watches_of (lists d e c) ≡ x ∷ xs → Split x xs (lists d e c)
split-by x xs (path ∷ d) e c h =
    record { rest = lists d e c; is = ap (λ w. put_first w (lists d e c)) (ap (head x) h); watches = ap tail h }
split-by x xs [] (path ∷ e) c h =
    record { rest = lists [] e c; is = ap (λ w. put_first w (lists [] e c)) (ap (head x) h); watches = ap tail h }
split-by x xs [] [] (path ∷ c) h =
    record { rest = lists [] [] c; is = ap (λ w. put_first w (lists [] [] c)) (ap (head x) h); watches = ap tail h }
split-by x xs [] [] [] h = not_none x xs (sym h)

split : (x : Watch) (xs : List Watch) (part : Lists) → watches_of part ≡ x ∷ xs → Split x xs part
split x xs part h = split-by x xs part.data_watches part.exist_watches part.child_watches h

none-by : (d e c : List Text) → watches_of (lists d e c) ≡ [] → lists d e c ≡ no_lists
none-by (path ∷ d) e c h = not_none _ _ h
none-by [] (path ∷ e) c h = not_none _ _ h
none-by [] [] (path ∷ c) h = not_none _ _ h
none-by [] [] [] h = refl

none : (part : Lists) → watches_of part ≡ [] → part ≡ no_lists
none part h = none-by part.data_watches part.exist_watches part.child_watches h

-- parts of which each has a path, is within its weight and full
abbrev AreGood : List Lists → Type 0
AreGood [] = Unit {0}
AreGood (part ∷ ps) =
    (0 < length (watches_of part)) × (total_of (watches_of part) ≤ MOST_WEIGHT)
    × IsFull (total_of (watches_of part)) (flat_map watches_of ps) × AreGood ps

good_from : (l : Lists) (ps : List Lists)
    → All (λ part. 0 < length (watches_of part)) ps → All (λ part. total_of (watches_of part) ≤ MOST_WEIGHT) ps → AreFull ps → AreGood ps
good_from l [] some within full = tt
good_from l (part ∷ ps) some within full = (
  All-head (λ q. 0 < length (watches_of q)) part ps some,
  All-head (λ q. total_of (watches_of q) ≤ MOST_WEIGHT) part ps within,
  full.0,
  good_from l ps (All-tail (λ q. 0 < length (watches_of q)) part ps some)
      (All-tail (λ q. total_of (watches_of q) ≤ MOST_WEIGHT) part ps within) full.1,
)

some_of : (ps : List Lists) → AreGood ps → All (λ part. 0 < length (watches_of part)) ps
some_of [] good = All-nil (λ part. 0 < length (watches_of part))
some_of (part ∷ ps) good = All-cons (λ q. 0 < length (watches_of q)) part ps good.0 (some_of ps good.3)

within_of : (ps : List Lists) → AreGood ps → All (λ part. total_of (watches_of part) ≤ MOST_WEIGHT) ps
within_of [] good = All-nil (λ part. total_of (watches_of part) ≤ MOST_WEIGHT)
within_of (part ∷ ps) good = All-cons (λ q. total_of (watches_of q) ≤ MOST_WEIGHT) part ps good.1 (within_of ps good.3)

full_of : (ps : List Lists) → AreGood ps → AreFull ps
full_of [] good = tt
full_of (part ∷ ps) good = (good.2, full_of ps good.3)

-- Nothing else is so cut

-- what a cut of the rest of the watches is, where a part has this weight
abbrev IsRest : List Watch → Type 0
IsRest ws =
    (weight : ℕ) (part : Lists) (ps : List Lists) → watches_of part ++ flat_map watches_of ps ≡ ws
    → weight + total_of (watches_of part) ≤ MOST_WEIGHT
    → IsFull (weight + total_of (watches_of part)) (flat_map watches_of ps) → AreGood ps → part ∷ ps ≡ rest_of_parts weight ws

-- parts that begin with this path
begun : (x : Watch) (xs : List Watch) (part : Lists) (ps : List Lists)
    → IsRest xs → watches_of part ++ flat_map watches_of ps ≡ x ∷ xs → AreGood (part ∷ ps)
    → part ∷ ps ≡ into_first x (rest_of_parts (weight_of x) xs)
begun x xs part ps rest h good = by (watches_of part) refl
  where
    by : (l : List Watch) → watches_of part ≡ l → part ∷ ps ≡ into_first x (rest_of_parts (weight_of x) xs)
    by [] e = absurd (let some = good.0 in let none = ap length e in omega arith)
    by (y ∷ ys) e =
        let whole : (y ∷ ys) ++ flat_map watches_of ps ≡ x ∷ xs = ap (λ l. l ++ flat_map watches_of ps) (sym e) ∙ h in
        let s : Split x ys part = split x ys part (e ∙ ap (λ w. w ∷ ys) (ap (head x) whole)) in
        let sum : total_of (watches_of part) ≡ weight_of x + total_of (watches_of s.rest) =
        ap total_of (e ∙ ap (λ w. w ∷ ys) (ap (head x) whole)) ∙ sum_by-cons weight_of x ys
        ∙ ap (λ l. weight_of x + total_of l) (sym s.watches) in
        ap (λ q. q ∷ ps) s.is
        ∙ ap (into_first x) (rest (weight_of x) s.rest ps (ap (λ l. l ++ flat_map watches_of ps) s.watches ∙ ap tail whole)
        (subst (λ n. n ≤ MOST_WEIGHT) sum good.1) (subst (λ n. IsFull n (flat_map watches_of ps)) sum good.2) good.3)

rest_is : (ws : List Watch) → IsRest ws
rest_is [] weight part ps h light full good = by (watches_of part) refl ps h good
  where
    by : (l : List Watch) → watches_of part ≡ l → (qs : List Lists)
        → watches_of part ++ flat_map watches_of qs ≡ [] → AreGood qs → part ∷ qs ≡ no_lists ∷ []
    by [] e [] h good = ap (λ q. q ∷ []) (none part e)
    by [] e (q ∷ qs) h good =
        let joined : watches_of q ++ flat_map watches_of qs ≡ [] = ap (λ l. l ++ (watches_of q ++ flat_map watches_of qs)) (sym e) ∙ h in
        let some = good.0 in
        let sum = length-append (watches_of q) (flat_map watches_of qs) in absurd (omega (arith, ap length joined, sum))
    by (y ∷ ys) e qs h good = not_none y (ys ++ flat_map watches_of qs) (ap (λ l. l ++ flat_map watches_of qs) (sym e) ∙ h)
rest_is (x ∷ xs) weight part ps h light full good = by (rest_is xs) (watches_of part) refl ps h full good
  where
    by : IsRest xs → (l : List Watch) → watches_of part ≡ l → (qs : List Lists) → watches_of part ++ flat_map watches_of qs ≡ x ∷ xs
        → IsFull (weight + total_of (watches_of part)) (flat_map watches_of qs) → AreGood qs → part ∷ qs ≡ rest_of_parts weight (x ∷ xs)
    by rest [] e [] h full good = not_none x xs (sym (ap (λ l. l ++ []) (sym e) ∙ h))
    by rest [] e (q ∷ qs) h full good =
        let joined : watches_of q ++ flat_map watches_of qs ≡ x ∷ xs =
        ap (λ l. l ++ (watches_of q ++ flat_map watches_of qs)) (sym e) ∙ h in
        let empty : total_of (watches_of part) ≡ 0 = ap total_of e in
        let past : MOST_WEIGHT < weight + total_of (watches_of part) + weight_of x =
        subst (IsFull (weight + total_of (watches_of part))) joined full in
        let closes : leb (weight + weight_of x) MOST_WEIGHT ≡ false =
        lt-leb (weight + weight_of x) MOST_WEIGHT (omega (arith, past, empty)) in
        (λ i. none part e i ∷ begun x xs q qs rest joined good i)
        ∙ ap (λ b. if b then into_first x (rest_of_parts (weight + weight_of x) xs)
        else no_lists ∷ into_first x (rest_of_parts (weight_of x) xs)) (sym closes)
    by rest (y ∷ ys) e qs h full good =
        let whole : (y ∷ ys) ++ flat_map watches_of qs ≡ x ∷ xs = ap (λ l. l ++ flat_map watches_of qs) (sym e) ∙ h in
        let s : Split x ys part = split x ys part (e ∙ ap (λ w. w ∷ ys) (ap (head x) whole)) in
        let sum : total_of (watches_of part) ≡ weight_of x + total_of (watches_of s.rest) =
        ap total_of (e ∙ ap (λ w. w ∷ ys) (ap (head x) whole)) ∙ sum_by-cons weight_of x ys
        ∙ ap (λ l. weight_of x + total_of l) (sym s.watches) in
        let moved : weight + total_of (watches_of part) ≡ weight + weight_of x + total_of (watches_of s.rest) = omega (arith, sum) in
        let fits : leb (weight + weight_of x) MOST_WEIGHT ≡ true = le-leb (weight + weight_of x) MOST_WEIGHT (omega (arith, light, sum)) in
        ap (λ q. q ∷ qs) s.is
        ∙ ap (into_first x)
        (rest (weight + weight_of x) s.rest qs (ap (λ l. l ++ flat_map watches_of qs) s.watches ∙ ap tail whole)
        (subst (λ n. n ≤ MOST_WEIGHT) moved light) (subst (λ n. IsFull n (flat_map watches_of qs)) moved full) good)
        ∙ ap (λ b. if b then into_first x (rest_of_parts (weight + weight_of x) xs)
        else no_lists ∷ into_first x (rest_of_parts (weight_of x) xs)) (sym fits)

-- What is so cut is the parts.
pub parts_are_one : (l : Lists) (cut : List Lists) → ArePartsOf l cut → cut ≡ parts l
parts_are_one l cut a = by cut a.joined (good_from l cut a.some a.within a.full)
  where
    by : (ps : List Lists) → flat_map watches_of ps ≡ watches_of l → AreGood ps → ps ≡ parts l
    by [] h good = ap parts_of_watches h
    by (part ∷ ps) h good = first (watches_of part) refl
      where
        first : (ws : List Watch) → watches_of part ≡ ws → part ∷ ps ≡ parts l
        first [] e = absurd (let some = good.0 in let none = ap length e in omega arith)
        first (x ∷ xs) e =
            begun x (xs ++ flat_map watches_of ps) part ps (rest_is (xs ++ flat_map watches_of ps))
            (ap (λ ws. ws ++ flat_map watches_of ps) e) good
            ∙ ap parts_of_watches (ap (λ ws. ws ++ flat_map watches_of ps) (sym e) ∙ h)

-- The parts are so cut

-- whether the path may stand before these: the data list comes first, then the exist list
abbrev Follows : Watch → List Watch → Type 0
Follows (OnData path) ws = Unit {0}
Follows (OnExist path) [] = Unit {0}
Follows (OnExist path) (OnData other ∷ ws) = ⊥
Follows (OnExist path) (OnExist other ∷ ws) = Unit {0}
Follows (OnExist path) (OnChild other ∷ ws) = Unit {0}
Follows (OnChild path) [] = Unit {0}
Follows (OnChild path) (OnData other ∷ ws) = ⊥
Follows (OnChild path) (OnExist other ∷ ws) = ⊥
Follows (OnChild path) (OnChild other ∷ ws) = Unit {0}

abbrev IsOrdered : List Watch → Type 0
IsOrdered [] = Unit {0}
IsOrdered (x ∷ xs) = Follows x xs × IsOrdered xs

ordered-by : (d e c : List Text) → IsOrdered (watches_of (lists d e c))
ordered-by (path ∷ d) e c = (tt, ordered-by d e c)
ordered-by [] (path ∷ other ∷ e) c = (tt, ordered-by [] (other ∷ e) c)
ordered-by [] (path ∷ []) (other ∷ c) = (tt, ordered-by [] [] (other ∷ c))
ordered-by [] (path ∷ []) [] = (tt, tt)
ordered-by [] [] (path ∷ other ∷ c) = (tt, ordered-by [] [] (other ∷ c))
ordered-by [] [] (path ∷ []) = (tt, tt)
ordered-by [] [] [] = tt

put-by : (x : Watch) (d e c : List Text) (ws : List Watch) → Follows x (watches_of (lists d e c) ++ ws)
    → watches_of (put_first x (lists d e c)) ≡ x ∷ watches_of (lists d e c)
put-by (OnData path) d e c ws h = refl
put-by (OnExist path) [] e c ws h = refl
put-by (OnExist path) (other ∷ d) e c ws h = absurd h
put-by (OnChild path) [] [] c ws h = refl
put-by (OnChild path) [] (other ∷ e) c ws h = absurd h
put-by (OnChild path) (other ∷ d) e c ws h = absurd h

put : (x : Watch) (part : Lists) (ws : List Watch) → Follows x (watches_of part ++ ws) → watches_of (put_first x part) ≡ x ∷ watches_of part
put x part ws h = put-by x part.data_watches part.exist_watches part.child_watches ws h

-- the rest of a part of this weight, and the parts after it
abbrev IsCut : List Watch → ℕ → List Lists → Type 0
IsCut ws weight [] = ⊥
IsCut ws weight (part ∷ ps) =
    (watches_of part ++ flat_map watches_of ps ≡ ws) × (weight + total_of (watches_of part) ≤ MOST_WEIGHT)
    × IsFull (weight + total_of (watches_of part)) (flat_map watches_of ps) × AreGood ps

abbrev IsWhole : List Watch → List Lists → Type 0
IsWhole ws ps = (flat_map watches_of ps ≡ ws) × AreGood ps

module _ (x : Watch) (xs : List Watch) (follows : Follows x xs) where
  total_put : (part : Lists) → watches_of (put_first x part) ≡ x ∷ watches_of part
      → total_of (watches_of (put_first x part)) ≡ weight_of x + total_of (watches_of part)
  total_put part e = ap total_of e ∙ sum_by-cons weight_of x (watches_of part)

  -- one more path before them
  put_cut : (weight : ℕ) (ps : List Lists) → IsCut xs (weight + weight_of x) ps → IsCut (x ∷ xs) weight (into_first x ps)
  put_cut weight [] c = absurd c
  put_cut weight (part ∷ ps) c =
      let e : watches_of (put_first x part) ≡ x ∷ watches_of part =
      put x part (flat_map watches_of ps) (subst (Follows x) (sym c.0) follows) in
      let sum = total_put part e in
      let moved : weight + weight_of x + total_of (watches_of part)
      ≡ weight + total_of (watches_of (put_first x part)) = omega (arith, sum) in (
        ap (λ l. l ++ flat_map watches_of ps) e ∙ ap (λ l. x ∷ l) c.0,
        subst (λ n. n ≤ MOST_WEIGHT) moved c.1,
        subst (λ n. IsFull n (flat_map watches_of ps)) moved c.2,
        c.3,
      )

  -- a part begins with it
  begin_cut : (ps : List Lists) → IsCut xs (weight_of x) ps → IsWhole (x ∷ xs) (into_first x ps)
  begin_cut [] c = absurd c
  begin_cut (part ∷ ps) c =
      let e : watches_of (put_first x part) ≡ x ∷ watches_of part =
      put x part (flat_map watches_of ps) (subst (Follows x) (sym c.0) follows) in
      let sum = sym (total_put part e) in (
        ap (λ l. l ++ flat_map watches_of ps) e ∙ ap (λ l. x ∷ l) c.0,
        (
          let n = ap length e in omega arith,
          subst (λ n. n ≤ MOST_WEIGHT) sum c.1,
          subst (λ n. IsFull n (flat_map watches_of ps)) sum c.2,
          c.3,
        ),
      )

  -- the part before it is full
  close_cut : (weight : ℕ) (ps : List Lists)
      → weight ≤ MOST_WEIGHT → MOST_WEIGHT < weight + weight_of x → IsWhole (x ∷ xs) ps → IsCut (x ∷ xs) weight (no_lists ∷ ps)
  close_cut weight ps light past whole = (whole.0, omega arith, subst (IsFull (weight + 0)) (sym whole.0) (omega (arith, past)), whole.1)

abbrev AreShort : List Watch → Type 0
AreShort ws = All (λ watch. length (path_of watch) ≤ LONGEST_PATH) ws

cut_is : (ws : List Watch) (weight : ℕ) → IsOrdered ws → AreShort ws → weight ≤ MOST_WEIGHT → IsCut ws weight (rest_of_parts weight ws)
cut_is [] weight ordered short light = (refl, omega arith, tt, tt)
cut_is (x ∷ xs) weight ordered short light = by (leb (weight + weight_of x) MOST_WEIGHT) refl (cut_is xs)
  where
    here : length (path_of x) ≤ LONGEST_PATH
    here = All-head (λ watch. length (path_of watch) ≤ LONGEST_PATH) x xs short

    below : AreShort xs
    below = All-tail (λ watch. length (path_of watch) ≤ LONGEST_PATH) x xs short

    by : (b : Bool) → leb (weight + weight_of x) MOST_WEIGHT ≡ b
        → ((w : ℕ) → IsOrdered xs → AreShort xs → w ≤ MOST_WEIGHT → IsCut xs w (rest_of_parts w xs))
        → IsCut (x ∷ xs) weight
        (if b then into_first x (rest_of_parts (weight + weight_of x) xs) else no_lists ∷ into_first x (rest_of_parts (weight_of x) xs))
    by true e rest = put_cut x xs ordered.0 weight (rest_of_parts (weight + weight_of x) xs)
        (rest (weight + weight_of x) ordered.1 below (leb-true (weight + weight_of x) MOST_WEIGHT e))
    by false e rest =
        close_cut x xs ordered.0 weight (into_first x (rest_of_parts (weight_of x) xs)) light
        (leb-false (weight + weight_of x) MOST_WEIGHT e)
        (begin_cut x xs ordered.0 (rest_of_parts (weight_of x) xs) (rest (weight_of x) ordered.1 below (omega (arith, here))))

whole_is : (ws : List Watch) → IsOrdered ws → AreShort ws → IsWhole ws (parts_of_watches ws)
whole_is [] ordered short = (refl, tt)
whole_is (x ∷ xs) ordered short =
    let here : length (path_of x) ≤ LONGEST_PATH = All-head (λ watch. length (path_of watch) ≤ LONGEST_PATH) x xs short in
    begin_cut x xs ordered.0 (rest_of_parts (weight_of x) xs)
    (cut_is xs (weight_of x) ordered.1 (All-tail (λ watch. length (path_of watch) ≤ LONGEST_PATH) x xs short) (omega (arith, here)))

-- The parts are so cut.
pub parts_are_full : (l : Lists) → AreShort (watches_of l) → ArePartsOf l (parts l)
parts_are_full l short =
    let whole = whole_is (watches_of l) (ordered-by l.data_watches l.exist_watches l.child_watches) short in
    record { joined = whole.0; some = some_of (parts l) whole.1; within = within_of (parts l) whole.1; full = full_of (parts l) whole.1 }
