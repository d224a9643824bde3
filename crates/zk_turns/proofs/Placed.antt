-- The paths of a list stand in the order in which they last came into it: by induction on the past, as what stays keeps its order and what
-- comes in goes last.
use Rattle.std.proofs.Common.{◌≡◌, ◌<◌, Bool, true, false, cond, ◌&&◌, ◌||◌, List, [], ◌∷◌, ◌++◌, length, refl, sym, ap, subst, ◌∙◌, inl}
use Rattle.std.proofs.Common.{inr, ◌⊎◌, arith}
use Rattle.std.specs.Prelude.{bytes_eq, not, filter, ◌↔◌}
use Rattle.std.proofs.lemmas.List.{length-append}
use Rattle.zk_nodes.specs.Path.{Text}
use Rattle.zk_conversation.specs.Questions.{Question, Exists, GetData, GetChildren}
use Rattle.zk_turns.specs.Past.{Past, Happening, Took, Replies, path_of_read, path_of_reply, arrivals, listed, in_known, in_missing}
use Rattle.zk_turns.specs.Past.{in_parents}
use Rattle.zk_watches.specs.Lists.{has}
use Rattle.zk_turns.specs.Meaning.{Among, StaysIn, CameIn, StandsBefore}
use Rattle.zk_turns.proofs.Lists.{same_text, bytes_eq-refl, Tracks, has_listed, grows}
use Rattle.zk_turns.proofs.Registered.{tracks_known, tracks_missing, tracks_parents}

-- ---- members

among_or : (p x : Text) (xs : List Text) (b : Bool)
    → bytes_eq p x ≡ b → (b || has xs p) ≡ true → (has xs p ≡ true → Among p xs) → Among p (x ∷ xs)
among_or p x xs true e h ih = inl (same_text p x e)
among_or p x xs false e h ih = inr (ih h)

among_has : (p : Text) (xs : List Text) → has xs p ≡ true → Among p xs
among_has p [] h = absurd cc
among_has p (x ∷ xs) h = among_or p x xs (bytes_eq p x) refl h (among_has p xs)

or_right : (a b : Bool) → b ≡ true → (a || b) ≡ true
or_right true b e = refl
or_right false b e = e

has_among : (p : Text) (xs : List Text) → Among p xs → has xs p ≡ true
has_among p [] a = absurd a
has_among p (x ∷ xs) (inl e) = ap (λ b. b || has xs p) (ap (λ t. bytes_eq p t) (sym e) ∙ bytes_eq-refl p)
has_among p (x ∷ xs) (inr a) = or_right (bytes_eq p x) (has xs p) (has_among p xs a)

among_passes : (f : Text → Bool) (q : Text) (xs : List Text) → Among q (filter f xs) → (f q ≡ true) × Among q xs
among_passes f q [] a = absurd a
among_passes f q (x ∷ xs) a = by (f x) refl a (among_passes f q xs)
  where
    by : (b : Bool) → f x ≡ b → Among q (cond b (x ∷ filter f xs) (filter f xs)) → (Among q (filter f xs) → (f q ≡ true) × Among q xs)
        → (f q ≡ true) × Among q (x ∷ xs)
    by true e (inl i) ih = (ap f i ∙ e, inl i)
    by true e (inr a) ih = ((ih a).0, inr (ih a).1)
    by false e a ih = ((ih a).0, inr (ih a).1)

passes_among : (f : Text → Bool) (q : Text) (xs : List Text) → f q ≡ true → Among q xs → Among q (filter f xs)
passes_among f q [] t a = absurd a
passes_among f q (x ∷ xs) t a = by (f x) refl a (passes_among f q xs t)
  where
    by : (b : Bool) → f x ≡ b → Among q (x ∷ xs) → (Among q xs → Among q (filter f xs)) → Among q (cond b (x ∷ filter f xs) (filter f xs))
    by true e (inl i) ih = inl i
    by true e (inr a) ih = inr (ih a)
    by false e (inl i) ih = absurd (let s = ap f i in cc)
    by false e (inr a) ih = ih a

-- ---- before and after

passes_before : (f : Text → Bool) (p q : Text) (xs : List Text)
    → f p ≡ true → f q ≡ true → StandsBefore p q xs → StandsBefore p q (filter f xs)
passes_before f p q [] s t b = absurd b
passes_before f p q (x ∷ xs) s t b = by (f x) refl b (passes_before f p q xs s t)
  where
    by : (c : Bool) → f x ≡ c → StandsBefore p q (x ∷ xs) → (StandsBefore p q xs → StandsBefore p q (filter f xs))
        → StandsBefore p q (cond c (x ∷ filter f xs) (filter f xs))
    by true e (inl m) ih = inl (m.0, passes_among f q xs t m.1)
    by true e (inr m) ih = inr (ih m)
    by false e (inl m) ih = absurd (let r = ap f m.0 in cc)
    by false e (inr m) ih = ih m

before_passes : (f : Text → Bool) (p q : Text) (xs : List Text) → StandsBefore p q (filter f xs) → StandsBefore p q xs
before_passes f p q [] b = absurd b
before_passes f p q (x ∷ xs) b = by (f x) b (before_passes f p q xs)
  where
    by : (c : Bool) → StandsBefore p q (cond c (x ∷ filter f xs) (filter f xs)) → (StandsBefore p q (filter f xs) → StandsBefore p q xs)
        → StandsBefore p q (x ∷ xs)
    by true (inl m) ih = inl (m.0, (among_passes f q xs m.1).1)
    by true (inr m) ih = inr (ih m)
    by false m ih = inr (ih m)

among_front : (q : Text) (xs ys : List Text) → Among q xs → Among q (xs ++ ys)
among_front q [] ys a = absurd a
among_front q (x ∷ xs) ys (inl e) = inl e
among_front q (x ∷ xs) ys (inr a) = inr (among_front q xs ys a)

among_back : (q : Text) (xs ys : List Text) → Among q ys → Among q (xs ++ ys)
among_back q [] ys a = a
among_back q (x ∷ xs) ys a = inr (among_back q xs ys a)

among_split : (q : Text) (xs ys : List Text) → Among q (xs ++ ys) → Among q xs ⊎ Among q ys
among_split q [] ys a = inr a
among_split q (x ∷ xs) ys (inl e) = inl (inl e)
among_split q (x ∷ xs) ys (inr a) = elim (among_split q xs ys a) [ inl b ↦ inl (inr b) | inr b ↦ inr b ]

before_front : (p q : Text) (xs ys : List Text) → StandsBefore p q xs → StandsBefore p q (xs ++ ys)
before_front p q [] ys b = absurd b
before_front p q (x ∷ xs) ys (inl m) = inl (m.0, among_front q xs ys m.1)
before_front p q (x ∷ xs) ys (inr m) = inr (before_front p q xs ys m)

before_across : (p q : Text) (xs ys : List Text) → Among p xs → Among q ys → StandsBefore p q (xs ++ ys)
before_across p q [] ys a b = absurd a
before_across p q (x ∷ xs) ys (inl e) b = inl (e, among_back q xs ys b)
before_across p q (x ∷ xs) ys (inr a) b = inr (before_across p q xs ys a b)

-- where the two stand in joined lists
abbrev Across : Text → Text → List Text → List Text → Type 0
Across p q xs ys = StandsBefore p q xs ⊎ (StandsBefore p q ys ⊎ (Among p xs × Among q ys))

before_split : (p q : Text) (xs ys : List Text) → StandsBefore p q (xs ++ ys) → Across p q xs ys
before_split p q [] ys b = inr (inl b)
before_split p q (x ∷ xs) ys (inl m) = elim (among_split q xs ys m.1) [ inl a ↦ inl (inl (m.0, a)) | inr a ↦ inr (inr (inl m.0, a)) ]
before_split p q (x ∷ xs) ys (inr m) = by (before_split p q xs ys m)
  where
    by : Across p q xs ys → Across p q (x ∷ xs) ys
    by (inl b) = inl (inr b)
    by (inr (inl b)) = inr (inl b)
    by (inr (inr b)) = inr (inr (inr b.0, b.1))

-- ---- the list after a happening

one_path : (q : Question) (a b : Text) (more : List Text) → path_of_read q ≡ a ∷ b ∷ more → ⊥
one_path (Exists p w) a b more e = cc
one_path (GetData p w) a b more e = cc
one_path (GetChildren p w) a b more e = cc
one_path _ a b more e = cc

pub one_reply : (x : Happening) (a b : Text) (more : List Text) → path_of_reply x ≡ a ∷ b ∷ more → ⊥
one_reply (Took (Replies ticket q zxid result)) a b more e = one_path q a b more e
one_reply _ a b more e = cc

module _ (is_in : Text → Past → Bool) (tracks : Tracks is_in) where
  -- those that are new in it
  abbrev come : Happening → Past → List Text
  come x past = filter (λ q. is_in q (x ∷ past) && not (is_in q past)) (path_of_reply x)

  -- What is still in the list keeps its order, and what comes in goes last.
  listed_step : (x : Happening) (past : Past)
      → listed is_in (x ∷ past) ≡ filter (λ q. is_in q (x ∷ past)) (listed is_in past) ++ come x past
  listed_step x past = grows (λ q. is_in q past) (λ q. is_in q (x ∷ past)) (path_of_reply x) (arrivals is_in past) (one_reply x)
      (λ q h e. tracks.by_reply q x past h e)

  listed_in : (p : Text) (past : Past) → Among p (listed is_in past) → is_in p past ≡ true
  listed_in p past a = sym (has_listed is_in tracks p past) ∙ has_among p (listed is_in past) a

  in_listed : (p : Text) (past : Past) → is_in p past ≡ true → Among p (listed is_in past)
  in_listed p past e = among_has p (listed is_in past) (has_listed is_in tracks p past ∙ e)

  still_in : (p : Text) (since : List Happening) (before : Past) → StaysIn is_in p since before → is_in p (since ++ before) ≡ true
  still_in p [] before s = s
  still_in p (x ∷ since) before s = s.0

  came_in : (p : Text) (past : Past) → CameIn is_in p past → is_in p past ≡ true
  came_in p past c = ap (is_in p) c.whole ∙ still_in p c.since (c.by ∷ c.before) c.stays

  came : (p : Text) (past : Past) → is_in p past ≡ true → CameIn is_in p past
  came p [] e = absurd (let n = tracks.none p in cc)
  came p (x ∷ past) e = on (is_in p past) refl (came p past)
    where
      on : (b : Bool) → is_in p past ≡ b → (is_in p past ≡ true → CameIn is_in p past) → CameIn is_in p (x ∷ past)
      on true was ih =
          let c = ih was in
          record {
            since = x ∷ c.since;
            by = c.by;
            before = c.before;
            whole = ap (λ l. x ∷ l) c.whole;
            was_out = c.was_out;
            stays = (ap (λ l. is_in p (x ∷ l)) (sym c.whole) ∙ e, c.stays);
          }
      on false was ih = record { since = []; by = x; before = past; whole = refl; was_out = was; stays = e }

  -- A list has the paths that came into it and stayed.
  pub members : (p : Text) (past : Past)
      → (Among p (listed is_in past) → CameIn is_in p past) × (CameIn is_in p past → Among p (listed is_in past))
  members p past = (λ a. came p past (listed_in p past a), λ c. in_listed p past (came_in p past c))

  among_new : (p : Text) (x : Happening) (past : Past) → is_in p (x ∷ past) ≡ true → is_in p past ≡ false → Among p (come x past)
  among_new p x past e was = passes_among (λ q. is_in q (x ∷ past) && not (is_in q past)) p (path_of_reply x)
      (ap (λ b. b && not (is_in p past)) e ∙ ap not was) (subst (λ l. Among p l) (sym (tracks.by_reply p x past e was)) (inl refl))

  new_out : (p : Text) (x : Happening) (past : Past) → Among p (come x past) → is_in p past ≡ false
  new_out p x past a =
      by (is_in p (x ∷ past)) (is_in p past) (among_passes (λ q. is_in q (x ∷ past) && not (is_in q past)) p (path_of_reply x) a).0
    where
      by : (b c : Bool) → (b && not c) ≡ true → c ≡ false
      by true true e = absurd cc
      by true false e = refl
      by false c e = absurd cc

  -- what a list of what was says of its newest
  head_of : (x y : Happening) (past : Past) (before : Past) → x ∷ past ≡ y ∷ before → past ≡ before
  head_of x y past before e = cc

  longer : (since : List Happening) (by : Happening) (before past : Past) → past ≡ since ++ by ∷ before → length before < length past
  longer since by before past e =
      let n = length-append since (by ∷ before) in
      let l = ap length e in
      omega arith

  abbrev came_rest : (p : Text) (x : Happening) (past : Past) (y : Happening) (since : List Happening) (by : Happening) (before : Past)
      → x ∷ past ≡ y ∷ (since ++ by ∷ before) → is_in p before ≡ false → StaysIn is_in p since (by ∷ before) → CameIn is_in p past
  came_rest p x past y since by before e o s =
      record { since = since; by = by; before = before; whole = head_of x y past (since ++ by ∷ before) e; was_out = o; stays = s }

  order_by : (p q : Text) (x : Happening) (past : Past) (a : CameIn is_in p (x ∷ past)) (b : CameIn is_in q (x ∷ past))
      → length a.before < length b.before
      → ((a : CameIn is_in p past) (b : CameIn is_in q past) → length a.before < length b.before → StandsBefore p q (listed is_in past))
      → StandsBefore p q (filter (λ q. is_in q (x ∷ past)) (listed is_in past) ++ come x past)
  order_by p q x past a b less ih = by a.since b.since a.whole b.whole a.stays b.stays
    where
      p_in : is_in p (x ∷ past) ≡ true
      p_in = came_in p (x ∷ past) a

      q_in : is_in q (x ∷ past) ≡ true
      q_in = came_in q (x ∷ past) b

      by : (s t : List Happening) → x ∷ past ≡ s ++ a.by ∷ a.before → x ∷ past ≡ t ++ b.by ∷ b.before → StaysIn is_in p s (a.by ∷ a.before)
          → StaysIn is_in q t (b.by ∷ b.before)
          → StandsBefore p q (filter (λ q. is_in q (x ∷ past)) (listed is_in past) ++ come x past)
      by [] t e f k l =
          let same = ap length (head_of x a.by past a.before e) in
          let less' = longer t b.by b.before (x ∷ past) f in
          absurd (omega arith)
      by (y ∷ s) [] e f k l =
          let c : CameIn is_in p past = came_rest p x past y s a.by a.before e a.was_out k.1 in
          let old : is_in q past ≡ false = ap (is_in q) (head_of x b.by past b.before f) ∙ b.was_out in
          before_across p q (filter (λ q. is_in q (x ∷ past)) (listed is_in past)) (come x past)
          (passes_among (λ q. is_in q (x ∷ past)) p (listed is_in past) p_in (in_listed p past (came_in p past c)))
          (among_new q x past q_in old)
      by (y ∷ s) (z ∷ t) e f k l =
          before_front p q (filter (λ q. is_in q (x ∷ past)) (listed is_in past)) (come x past)
          (passes_before (λ q. is_in q (x ∷ past)) p q (listed is_in past) p_in q_in
          (ih (came_rest p x past y s a.by a.before e a.was_out k.1) (came_rest q x past z t b.by b.before f b.was_out l.1) less))

  -- What came in earlier stands before what came in later.
  pub in_order : (p q : Text) (past : Past) (a : CameIn is_in p past) (b : CameIn is_in q past)
      → length a.before < length b.before → StandsBefore p q (listed is_in past)
  in_order p q [] a b less = absurd (let l = longer b.since b.by b.before [] b.whole in omega arith)
  in_order p q (x ∷ past) a b less =
      subst (λ l. StandsBefore p q l) (sym (listed_step x past)) (order_by p q x past a b less (in_order p q past))

  one_new : (f : Text → Bool) (p : Text) (xs : List Text) → ((a b : Text) (more : List Text) → xs ≡ a ∷ b ∷ more → ⊥)
      → StandsBefore p p (filter f xs) → ⊥
  one_new f p xs one b = by xs one (before_passes f p p xs b)
    where
      by : (ys : List Text) → ((a b : Text) (more : List Text) → ys ≡ a ∷ b ∷ more → ⊥) → StandsBefore p p ys → ⊥
      by [] one b = b
      by (y ∷ []) one (inl m) = m.1
      by (y ∷ []) one (inr m) = m
      by (y ∷ z ∷ ys) one b = one y z ys refl

  -- No path stands twice in a list.
  pub each_once : (p : Text) (past : Past) → StandsBefore p p (listed is_in past) → ⊥
  each_once p [] b = b
  each_once p (x ∷ past) b =
      by (before_split p p (filter (λ q. is_in q (x ∷ past)) (listed is_in past)) (come x past)
      (subst (λ l. StandsBefore p p l) (listed_step x past) b)) (each_once p past)
    where
      by : Across p p (filter (λ q. is_in q (x ∷ past)) (listed is_in past)) (come x past) → (StandsBefore p p (listed is_in past) → ⊥) → ⊥
      by (inl m) ih = ih (before_passes (λ q. is_in q (x ∷ past)) p p (listed is_in past) m)
      by (inr (inl m)) ih = one_new (λ q. is_in q (x ∷ past) && not (is_in q past)) p (path_of_reply x) (one_reply x) m
      by (inr (inr m)) ih =
          let old = listed_in p past (among_passes (λ q. is_in q (x ∷ past)) p (listed is_in past) m.0).1 in
          let new = new_out p x past m.1 in
          cc

-- what a list is, by the test of being in it
pub record IsPlaced (is_in : Text → Past → Bool) : Type 0 where
  pub members : (path : Text) (past : Past) → Among path (listed is_in past) ↔ CameIn is_in path past
  pub order : (first second : Text) (past : Past) (a : CameIn is_in first past) (b : CameIn is_in second past)
      → length a.before < length b.before → StandsBefore first second (listed is_in past)
  pub once : (path : Text) (past : Past) → ¬ StandsBefore path path (listed is_in past)

placed : (is_in : Text → Past → Bool) → Tracks is_in → IsPlaced is_in
placed is_in tracks = record { members = members is_in tracks; order = in_order is_in tracks; once = each_once is_in tracks }

pub known_placed : IsPlaced in_known
known_placed = placed in_known tracks_known

pub missing_placed : IsPlaced in_missing
missing_placed = placed in_missing tracks_missing

pub parents_placed : IsPlaced in_parents
parents_placed = placed in_parents tracks_parents
