-- Of those that stay each is quiet at its new place that was so at its old one.
use Rattle.std.proofs.Common.{◌≡◌, ◌≤◌, ◌<◌, ◌+◌, ◌∙◌, ◌++◌, ◌∷◌, ℕ, Bool, true, false, not, cond, List, [], length, get_or, set, take}
use Rattle.std.proofs.Common.{refl, sym, ap, subst, arith}
use Rattle.std.specs.Prelude.{◌==◌, ◌||◌, nat_lt}
use Rattle.std.specs.List.{filter}
use Rattle.std.proofs.lemmas.List.{append-nil, get_or_append_left, get_or-set_other, get_or-set_same, take_more}
use Rattle.std.proofs.Math.Seq.{get_or-append_seam}
use Rattle.std.proofs.lemmas.List.Elements.{filter-append}
use Rattle.std.proofs.lemmas.List.Filters.{length-filter_more}
use Rattle.std.proofs.lemmas.List.Folds.{list_any_more}
use Rattle.std.proofs.lemmas.Bool.Decides.{Decides-eqb, nat_tests}
use Rattle.zk_turns.specs.View.{View}
use Rattle.zk_follow.specs.declared.subject.Subject.{Subject}
use Rattle.zk_follow.specs.Following.{is_among, is_quiet, AreQuietBut}
use Rattle.zk_follow.proofs.Finding.{unless}
use Rattle.zk_follow.proofs.Still.{among_both}
use Rattle.zk_follow.proofs.Placing.{among_before, among_last}

-- a mark that is set stays so
pub mark_kept : (marks : List Bool) (place at : ℕ) → place < length marks → get_or marks at false ≡ true
    → get_or (set marks place true) at false ≡ true
mark_kept marks place at within e = by (at == place) refl
  where
    by : (same : Bool) → (at == place) ≡ same → get_or (set marks place true) at false ≡ true
    by true f =
        let is : at ≡ place = (Decides-eqb at place).0 f in
        ap (λ n. get_or (set marks place true) n false) is ∙ get_or-set_same marks place true false within
    by false f =
        get_or-set_other marks place at true false (λ is. let t : (at == place) ≡ true = (Decides-eqb at place).1 is in cc) ∙ e

-- one more place is marked
pub marked_more : (places : List ℕ) (index size : ℕ) (old new : List Bool) → index < length places
    → ((at : ℕ) → get_or old at false ≡ true → get_or new at false ≡ true)
    → (get_or places index 0 < size → get_or new (get_or places index 0) false ≡ true)
    → ((at : ℕ) → at < size → is_among at (take index places) ≡ true → get_or old at false ≡ true)
    → (at : ℕ) → at < size → is_among at (take (index + 1) places) ≡ true → get_or new at false ≡ true
marked_more places index size old new within kept here before at fits among =
    by (is_among at (take index places)) (at == get_or places index 0) refl refl (sym more ∙ among)
  where
    more : is_among at (take (index + 1) places) ≡ (is_among at (take index places) || at == get_or places index 0)
    more = list_any_more (λ its. at == its) places index 0 within

    by : (a b : Bool) → is_among at (take index places) ≡ a → (at == get_or places index 0) ≡ b → (a || b) ≡ true
        → get_or new at false ≡ true
    by true b e f g = kept at (before at fits e)
    by false true e f g =
        let is : at ≡ get_or places index 0 = (Decides-eqb at (get_or places index 0)).0 f in
        ap (λ n. get_or new n false) is ∙ here (subst (λ n. n < size) is fits)
    by false false e f g = absurd cc

-- ---- one more stays

at_last : {X : Type 0} (some : List X) (x d : X) (k : ℕ) → k ≡ length some → get_or (some ++ x ∷ []) k d ≡ x
at_last some x d k is = ap (λ n. get_or (some ++ x ∷ []) n d) is ∙ get_or-append_seam some x [] d

quiet_left : {A : Type 0} (view : View) (some : List (Subject A)) (next : ℕ) (subject : Subject A) (left new : List ℕ) (is_awake : Bool)
    → next ≡ length some → new ≡ cond is_awake (left ++ next ∷ []) left → (is_awake ≡ false → is_quiet view subject ≡ true)
    → AreQuietBut view next some left → AreQuietBut view (next + 1) (some ++ subject ∷ []) new
quiet_left {A} view some next subject left new is_awake size is quiet before k d fits none = by (nat_lt k next) refl
  where
    more : (b : Bool) → is_among k left ≡ true → is_among k (cond b (left ++ next ∷ []) left) ≡ true
    more true e = among_before k next left e
    more false e = e

    asleep : k ≡ next → (b : Bool) → is_awake ≡ b → is_awake ≡ false
    asleep last true e = absurd (
        let f : true ≡ false = sym (ap (is_among k) is ∙ ap (λ b. is_among k (cond b (left ++ next ∷ []) left)) e
        ∙ ap (λ n. is_among n (left ++ next ∷ [])) last ∙ among_last next left) ∙ none in
        cc
        )
    asleep last false e = e

    by : (b : Bool) → nat_lt k next ≡ b → is_quiet view (get_or (some ++ subject ∷ []) k d) ≡ true
    by true e =
        let below : k < next = grind (arith, nat_tests) in
        ap (λ (s : Subject A). is_quiet view s) (get_or_append_left some (subject ∷ []) d k (omega (arith, below, size)))
        ∙ before k d below (unless (is_among k left) (is_among k new) (λ f. ap (is_among k) is ∙ more is_awake f) none)
    by false e =
        let last : k ≡ next = let above : next ≤ k = grind (arith, nat_tests) in omega (arith, above, fits) in
        ap (λ (s : Subject A). is_quiet view s) (at_last some subject d k (last ∙ size)) ∙ quiet (asleep last is_awake refl)

module _ {A : Type 0} (view : View) (p : Subject A → Bool) (subjects : List (Subject A)) (awake : List ℕ) (count place : ℕ)
    (subject : Subject A) (within : place < length subjects) (at : subject ≡ get_or subjects place subject) where
  abbrev one : Bool → List (Subject A)
  one b = cond b (subject ∷ []) []

  more : (b : Bool) → p subject ≡ b → filter p (take (place + 1) subjects) ≡ filter p (take place subjects) ++ one b
  more b e =
      ap (filter p) (take_more subjects place subject within) ∙ filter-append p (take place subjects) (get_or subjects place subject ∷ [])
      ∙ ap (λ (s : Subject A). filter p (take place subjects) ++ filter p (s ∷ [])) (sym at)
      ∙ ap (λ b. filter p (take place subjects) ++ one b) e

  pub left_more : (next after : ℕ) (left new : List ℕ) (is_awake : Bool)
      → next ≡ length (filter p (take place subjects)) → after ≡ next + cond (p subject) 1 0
      → new ≡ cond (p subject) (cond is_awake (left ++ next ∷ []) left) left
      → (is_awake ≡ false → (place < count) × (is_among place awake ≡ false))
      → AreQuietBut view count subjects awake → AreQuietBut view next (filter p (take place subjects)) left
      → AreQuietBut view after (filter p (take (place + 1) subjects)) new
  left_more next after left new is_awake size counted is asleep quiet before = by (p subject) refl
    where
      here : is_awake ≡ false → is_quiet view subject ≡ true
      here e =
          let its = asleep e in
          ap (λ (s : Subject A). is_quiet view s) at ∙ quiet place subject its.0 its.1

      by : (b : Bool) → p subject ≡ b → AreQuietBut view after (filter p (take (place + 1) subjects)) new
      by true e =
          let some = filter p (take place subjects) in
          let to : after ≡ next + 1 = counted ∙ ap (λ b. next + cond b 1 0) e in
          subst (λ all. AreQuietBut view after all new) (sym (more true e))
          (subst (λ n. AreQuietBut view n (some ++ subject ∷ []) new) (sym to)
          (quiet_left view some next subject left new is_awake size (is ∙ ap (λ b. cond b (cond is_awake (left ++ next ∷ []) left) left) e)
          here before))
      by false e =
          let some = filter p (take place subjects) in
          let to : after ≡ next = counted ∙ ap (λ b. next + cond b 1 0) e ∙ omega arith in
          let stays : new ≡ left = is ∙ ap (λ b. cond b (cond is_awake (left ++ next ∷ []) left) left) e in
          subst (λ all. AreQuietBut view after all new) (sym (more false e ∙ append-nil some))
          (subst (λ n. AreQuietBut view n some new) (sym to) (subst (AreQuietBut view next some) (sym stays) before))

-- how many have stayed
pub left_low : (stays : Bool) (next after place : ℕ) → next ≤ place → after ≡ next + cond stays 1 0 → after ≤ place + 1
left_low true next after place low is = omega (arith, low, is)
left_low false next after place low is = omega (arith, low, is)

pub left_size : {X : Type 0} (p : X → Bool) (xs : List X) (place : ℕ) (x : X) → place < length xs → x ≡ get_or xs place x
    → (next after : ℕ) → next ≡ length (filter p (take place xs)) → after ≡ next + cond (p x) 1 0
    → after ≡ length (filter p (take (place + 1) xs))
left_size p xs place x within at next after size is =
    is ∙ ap (λ n. n + cond (p x) 1 0) size ∙ ap (λ y. length (filter p (take place xs)) + cond (p y) 1 0) at
    ∙ sym (length-filter_more p xs place x within)

-- who is not marked was not awake
pub left_asleep : (awake : List ℕ) (marks slice : List Bool) (count place size : ℕ) → place < size → slice ≡ marks
    → ((at : ℕ) → at < size → is_among at awake ≡ true → get_or marks at false ≡ true) → (is_awake : Bool)
    → (is_awake ≡ false → (place < count) × (get_or slice place false ≡ false)) → is_awake ≡ false
    → (place < count) × (is_among place awake ≡ false)
left_asleep awake marks slice count place size within is marked is_awake asleep e =
    let its = asleep e in (
      its.0,
      unless (is_among place awake) (get_or marks place false) (marked place within)
          (ap (λ all. get_or all place false) (sym is) ∙ its.1),
    )

-- ---- the same of what a follower has

-- who waited is awake
pub poured_quiet : {A : Type 0} (view : View) (count : ℕ) (subjects : List (Subject A)) → count ≤ length subjects
    → (awake waiting all : List ℕ)
    → ((at : ℕ) → at < length subjects → (is_among at awake || is_among at waiting) ≡ true → is_among at all ≡ true)
    → AreQuietBut view count subjects (awake ++ waiting) → AreQuietBut view count subjects all
poured_quiet view count subjects within awake waiting all has quiet k d fits none =
    quiet k d fits (unless (is_among k (awake ++ waiting)) (is_among k all)
    (λ e. has k (omega (arith, fits, within)) (sym (among_both k awake waiting) ∙ e)) none)

pub quiet_stay : {A : Type 0} (view : View) (gone : List ℕ) (count counted : ℕ) (subjects slice : List (Subject A))
    (awake places left : List ℕ) (new rest : List (Subject A)) (size : ℕ) (some : List ℕ) → counted ≡ count
    → slice ≡ subjects → places ≡ awake → new ≡ filter (λ subject. not (is_among subject.ticket gone)) subjects → rest ≡ new
    → (AreQuietBut view counted slice places
    → AreQuietBut view (length (filter (λ subject. not (is_among subject.ticket gone)) slice))
    (filter (λ subject. not (is_among subject.ticket gone)) slice) left)
    → (AreQuietBut view (length rest) rest left → AreQuietBut view size rest some)
    → AreQuietBut view count subjects awake → AreQuietBut view size new some
quiet_stay {A} view gone count counted subjects slice awake places left new rest size some is_count is_slice is_awake is_new is_rest one two
    quiet =
    subst (λ all. AreQuietBut view size all some) is_rest (two (subst (λ all. AreQuietBut view (length all) all left) to (one from)))
  where
    to : filter (λ subject. not (is_among subject.ticket gone)) slice ≡ rest
    to = ap (filter (λ (subject : Subject A). not (is_among subject.ticket gone))) is_slice ∙ sym is_new ∙ sym is_rest

    from : AreQuietBut view counted slice places
    from =
        subst (λ n. AreQuietBut view n slice places) (sym is_count)
        (subst (λ all. AreQuietBut view count all places) (sym is_slice) (subst (AreQuietBut view count subjects) (sym is_awake) quiet))
