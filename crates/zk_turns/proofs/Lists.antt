-- The lists: paths that come in go last, paths that are there keep their places, paths that leave close up. A list is the paths that pass a
-- test, so each happening is a change of the test: at no path, at one, or at all.
use Rattle.std.proofs.Common.{◌≡◌, Bool, true, false, not, cond, ◌&&◌, ◌||◌, List, [], ◌∷◌, ◌++◌, reverse, refl, sym, ap, ◌∙◌}
use Rattle.std.specs.Prelude.{filter, bytes_eq}
use Rattle.std.proofs.lemmas.List.{reverse-append, append-nil}
use Rattle.std.proofs.lemmas.List.Elements.{filter_agree, filter-append}
use Rattle.std.proofs.lemmas.Bool.Decides.{same_from_decides}
use Rattle.std.proofs.lemmas.Slice.Eq.{bytes_eq-Decides}
use Rattle.zk_nodes.specs.Path.{Text}
use Rattle.zk_turns.specs.Past.{Past, Happening, firsts, arrivals, listed, path_of_reply}
use Rattle.zk_watches.specs.Lists.{without, has, with_path}

-- ---- tests of texts

pub same_text : (a b : Text) → bytes_eq a b ≡ true → a ≡ b
same_text a b e = (bytes_eq-Decides a b).0 e

pub bytes_eq-refl : (a : Text) → bytes_eq a a ≡ true
bytes_eq-refl a = (bytes_eq-Decides a a).1 refl

pub bytes_eq-comm : (a b : Text) → bytes_eq a b ≡ bytes_eq b a
bytes_eq-comm a b =
    let d = bytes_eq-Decides b a in
    same_from_decides (bytes_eq a b) (bytes_eq b a) (bytes_eq-Decides a b) (λ e. sym (d.0 e), λ q. d.1 (sym q))

-- ---- filters

pub filter_in : (f : Text → Bool) (x : Text) (xs : List Text) → f x ≡ true → filter f (x ∷ xs) ≡ x ∷ filter f xs
filter_in f x xs e = ap (λ b. cond b (x ∷ filter f xs) (filter f xs)) e

filter_out : (f : Text → Bool) (x : Text) (xs : List Text) → f x ≡ false → filter f (x ∷ xs) ≡ filter f xs
filter_out f x xs e = ap (λ b. cond b (x ∷ filter f xs) (filter f xs)) e

filter_none : (xs : List Text) → filter (λ path. false) xs ≡ []
filter_none [] = refl
filter_none (x ∷ xs) = filter_none xs

both_cond : (f : Text → Bool) (a b : Bool) (x : Text) (ys zs : List Text)
    → f x ≡ b → filter f ys ≡ zs → filter f (cond a (x ∷ ys) ys) ≡ cond (a && b) (x ∷ zs) zs
both_cond f true true x ys zs e ih = filter_in f x ys e ∙ ap (λ t. x ∷ t) ih
both_cond f true false x ys zs e ih = filter_out f x ys e ∙ ih
both_cond f false b x ys zs e ih = ih

pub filter_filter : (f g : Text → Bool) (xs : List Text) → filter f (filter g xs) ≡ filter (λ path. g path && f path) xs
filter_filter f g [] = refl
filter_filter f g (x ∷ xs) = both_cond f (g x) (f x) x (filter g xs) (filter (λ path. g path && f path) xs) refl (filter_filter f g xs)

pub reverse-cons : (x : Text) (xs : List Text) → reverse (x ∷ xs) ≡ reverse xs ++ x ∷ []
reverse-cons x xs = reverse-append (x ∷ []) xs

reverse_cond : (b : Bool) (x : Text) (ys : List Text) → reverse (cond b (x ∷ ys) ys) ≡ reverse ys ++ cond b (x ∷ []) []
reverse_cond true x ys = reverse-cons x ys
reverse_cond false x ys = sym (append-nil (reverse ys))

pub reverse_filter : (f : Text → Bool) (xs : List Text) → reverse (filter f xs) ≡ filter f (reverse xs)
reverse_filter f [] = refl
reverse_filter f (x ∷ xs) =
    reverse_cond (f x) x (filter f xs)
    ∙ ap (λ ys. ys ++ cond (f x) (x ∷ []) []) (reverse_filter f xs)
    ∙ sym (filter-append f (reverse xs) (x ∷ []))
    ∙ sym (ap (filter f) (reverse-cons x xs))

-- ---- what is in a list

or_assoc : (a b c : Bool) → (a || (b || c)) ≡ ((a || b) || c)
or_assoc true b c = refl
or_assoc false b c = refl

or_false : (a : Bool) → (a || false) ≡ a
or_false true = refl
or_false false = refl

or_true : (a : Bool) → (a || true) ≡ true
or_true true = refl
or_true false = refl

or_comm : (a b : Bool) → (a || b) ≡ (b || a)
or_comm true b = sym (or_true b)
or_comm false b = sym (or_false b)

and_true : (a : Bool) → (a && true) ≡ a
and_true true = refl
and_true false = refl

and_false : (a : Bool) → (a && false) ≡ false
and_false true = refl
and_false false = refl

pub has-append : (xs ys : List Text) (p : Text) → has (xs ++ ys) p ≡ (has xs p || has ys p)
has-append [] ys p = refl
has-append (x ∷ xs) ys p = ap (λ b. bytes_eq p x || b) (has-append xs ys p) ∙ or_assoc (bytes_eq p x) (has xs p) (has ys p)

has-reverse : (xs : List Text) (p : Text) → has (reverse xs) p ≡ has xs p
has-reverse [] p = refl
has-reverse (x ∷ xs) p =
    ap (λ ys. has ys p) (reverse-cons x xs)
    ∙ has-append (reverse xs) (x ∷ []) p
    ∙ ap (λ b. b || (bytes_eq p x || false)) (has-reverse xs p)
    ∙ ap (λ b. has xs p || b) (or_false (bytes_eq p x))
    ∙ or_comm (has xs p) (bytes_eq p x)

has_cond : (a b c h : Bool) (x : Text) (ys : List Text) (p : Text) → bytes_eq p x ≡ b → has ys p ≡ (h && c) → (b ≡ true → a ≡ c)
    → has (cond a (x ∷ ys) ys) p ≡ ((b || h) && c)
has_cond true true c h x ys p e ih same = ap (λ t. t || has ys p) e ∙ same refl
has_cond true false c h x ys p e ih same = ap (λ t. t || has ys p) e ∙ ih
has_cond false true c h x ys p e ih same = ih ∙ ap (λ t. h && t) (sym (same refl)) ∙ and_false h ∙ same refl
has_cond false false c h x ys p e ih same = ih

has-filter : (f : Text → Bool) (xs : List Text) (p : Text) → has (filter f xs) p ≡ (has xs p && f p)
has-filter f [] p = refl
has-filter f (x ∷ xs) p =
    has_cond (f x) (bytes_eq p x) (f p) (has xs p) x (filter f xs) p refl (has-filter f xs p) (λ e. ap f (sym (same_text p x e)))

first_or_other : (a b h : Bool) → a ≡ b → (a || (h && not b)) ≡ (a || h)
first_or_other true b h e = refl
first_or_other false true h e = absurd cc
first_or_other false false h e = and_true h

has-firsts : (xs : List Text) (p : Text) → has (firsts xs) p ≡ has xs p
has-firsts [] p = refl
has-firsts (x ∷ xs) p =
    ap (λ b. bytes_eq p x || b) (has-filter (λ other. not (bytes_eq x other)) (firsts xs) p)
    ∙ first_or_other (bytes_eq p x) (bytes_eq x p) (has (firsts xs) p) (bytes_eq-comm p x)
    ∙ ap (λ b. bytes_eq p x || b) (has-firsts xs p)

-- ---- the list of the paths that pass a test, from the newest first

abbrev pub shown : (Text → Bool) → List Text → List Text
shown test paths = reverse (filter test (firsts paths))

and_not : (a : Bool) → (a && not a) ≡ false
and_not true = refl
and_not false = refl

and_and_not : (a b : Bool) → ((a && b) && not a) ≡ false
and_and_not true b = and_false b
and_and_not false b = refl

no_new : (f g : Text → Bool) (ps older : List Text) → ((q : Text) → (g q && not (f q)) ≡ false)
    → filter (λ q. g q && not (f q)) ps ++ older ≡ older
no_new f g ps older none = ap (λ t. t ++ older) (filter_agree (λ q. g q && not (f q)) (λ q. false) none ps ∙ filter_none ps)

-- nothing changes
pub stays : (f g : Text → Bool) (ps older : List Text) → ((q : Text) → g q ≡ f q)
    → shown g (filter (λ q. g q && not (f q)) ps ++ older) ≡ shown f older
stays f g ps older same =
    ap (shown g) (no_new f g ps older (λ q. ap (λ t. t && not (f q)) (same q) ∙ and_not (f q)))
    ∙ ap reverse (filter_agree g f same (firsts older))

-- one path leaves
pub leaves : (f g : Text → Bool) (ps older : List Text) (p : Text) → ((q : Text) → g q ≡ (f q && not (bytes_eq p q)))
    → shown g (filter (λ q. g q && not (f q)) ps ++ older) ≡ without (shown f older) p
leaves f g ps older p other =
    ap (shown g) (no_new f g ps older (λ q. ap (λ t. t && not (f q)) (other q) ∙ and_and_not (f q) (not (bytes_eq p q))))
    ∙ ap reverse (filter_agree g (λ q. f q && not (bytes_eq p q)) other (firsts older))
    ∙ ap reverse (sym (filter_filter (λ q. not (bytes_eq p q)) f (firsts older)))
    ∙ reverse_filter (λ q. not (bytes_eq p q)) (filter f (firsts older))

-- none is left
pub empties : (g : Text → Bool) (paths : List Text) → ((q : Text) → g q ≡ false) → shown g paths ≡ []
empties g paths none = ap reverse (filter_agree g (λ q. false) none (firsts paths) ∙ filter_none (firsts paths))

-- one path comes
comes_old : (f g : Text → Bool) (older : List Text) (p : Text) → ((q : Text) → g q ≡ (bytes_eq p q || f q))
    → has (shown f older) p ≡ f p → f p ≡ true
    → shown g (filter (λ q. g q && not (f q)) (p ∷ []) ++ older) ≡ with_path (shown f older) p
comes_old f g older p more found e =
    stays f g (p ∷ []) older (λ q. more q ∙ old q (bytes_eq p q) refl)
    ∙ ap (λ b. cond b (shown f older) (shown f older ++ p ∷ [])) (sym (found ∙ e))
  where
    old : (q : Text) (b : Bool) → bytes_eq p q ≡ b → (b || f q) ≡ f q
    old q true is = sym (ap f (sym (same_text p q is)) ∙ e)
    old q false is = refl

new_test : (f g : Text → Bool) (p : Text) → ((q : Text) → g q ≡ (bytes_eq p q || f q)) → f p ≡ false → (g p && not (f p)) ≡ true
new_test f g p more e = ap (λ t. t && not (f p)) (more p ∙ ap (λ t. t || f p) (bytes_eq-refl p)) ∙ ap not e

newest : (f g : Text → Bool) (p : Text) → ((q : Text) → g q ≡ (bytes_eq p q || f q)) → f p ≡ false → (q : Text) (b : Bool)
    → bytes_eq p q ≡ b → (not b && g q) ≡ f q
newest f g p more e q true is = sym (ap f (sym (same_text p q is)) ∙ e)
newest f g p more e q false is = more q ∙ ap (λ t. t || f q) is

comes_new : (f g : Text → Bool) (older : List Text) (p : Text) → ((q : Text) → g q ≡ (bytes_eq p q || f q))
    → has (shown f older) p ≡ f p → f p ≡ false
    → shown g (filter (λ q. g q && not (f q)) (p ∷ []) ++ older) ≡ with_path (shown f older) p
comes_new f g older p more found e =
    ap (λ t. shown g (t ++ older)) (filter_in (λ q. g q && not (f q)) p [] (new_test f g p more e))
    ∙ ap reverse (filter_in g p (without (firsts older) p) (more p ∙ ap (λ t. t || f p) (bytes_eq-refl p)))
    ∙ ap (λ t. reverse (p ∷ t)) (filter_filter g (λ q. not (bytes_eq p q)) (firsts older)
    ∙ filter_agree (λ q. not (bytes_eq p q) && g q) f (λ q. newest f g p more e q (bytes_eq p q) refl) (firsts older))
    ∙ reverse-cons p (filter f (firsts older))
    ∙ ap (λ b. cond b (shown f older) (shown f older ++ p ∷ [])) (sym (found ∙ e))

pub comes : (f g : Text → Bool) (older : List Text) (p : Text) → ((q : Text) → g q ≡ (bytes_eq p q || f q)) → has (shown f older) p ≡ f p
    → shown g (filter (λ q. g q && not (f q)) (p ∷ []) ++ older) ≡ with_path (shown f older) p
comes f g older p more found = by (f p) refl
  where
    by : (b : Bool) → f p ≡ b → shown g (filter (λ q. g q && not (f q)) (p ∷ []) ++ older) ≡ with_path (shown f older) p
    by true e = comes_old f g older p more found e
    by false e = comes_new f g older p more found e

-- ---- one step of a list

-- a path that newly passes is the one that the reply is about
abbrev pub IsNew : (Text → Bool) → (Text → Bool) → List Text → Type 0
IsNew f g ps = (q : Text) → g q ≡ true → f q ≡ false → ps ≡ q ∷ []

none_new : (f g : Text → Bool) (older : List Text) → ((q : Text) → g q ≡ true → f q ≡ true) → shown g older ≡ filter g (shown f older)
none_new f g older was =
    ap reverse (filter_agree g (λ q. f q && g q) (λ q. by q (f q) (g q) refl refl) (firsts older) ∙ sym (filter_filter g f (firsts older)))
    ∙ reverse_filter g (filter f (firsts older))
  where
    by : (q : Text) (b c : Bool) → f q ≡ b → g q ≡ c → c ≡ (b && c)
    by q true c e h = refl
    by q false true e h = absurd (let w = was q h in cc)
    by q false false e h = refl

pub grows : (f g : Text → Bool) (ps older : List Text) → ((p q : Text) (more : List Text) → ps ≡ p ∷ q ∷ more → ⊥) → IsNew f g ps
    → shown g (filter (λ q. g q && not (f q)) ps ++ older) ≡ filter g (shown f older) ++ filter (λ q. g q && not (f q)) ps
grows f g [] older one new = none_new f g older (λ q h. by q h (f q) refl) ∙ sym (append-nil (filter g (shown f older)))
  where
    by : (q : Text) → g q ≡ true → (b : Bool) → f q ≡ b → b ≡ true
    by q h true e = refl
    by q h false e = absurd (let n = new q h e in cc)
grows f g (p ∷ q ∷ more) older one new = absurd (one p q more refl)
grows f g (p ∷ []) older one new = by (g p) (f p) refl refl
  where
    test : Text → Bool
    test q = g q && not (f q)

    same_head : (q : Text) → p ∷ [] ≡ q ∷ [] → p ≡ q
    same_head q e = ap (λ l. elim l [ [] ↦ p | x ∷ xs ↦ x ]) e

    old : (g p ≡ true → f p ≡ true) → (q : Text) → g q ≡ true → f q ≡ true
    old was q h = on (f q) refl
      where
        on : (b : Bool) → f q ≡ b → b ≡ true
        on true e = refl
        on false e = let s = same_head q (new q h e) in absurd (let w = was (ap g s ∙ h) in let v = ap f s in cc)

    kept : f p ≡ false → (q : Text) → (not (bytes_eq p q) && g q) ≡ (f q && g q)
    kept was q = on (bytes_eq p q) (f q) (g q) refl refl refl
      where
        on : (b c d : Bool) → bytes_eq p q ≡ b → f q ≡ c → g q ≡ d → (not b && d) ≡ (c && d)
        on true true d e h k = absurd (let s = ap f (same_text p q e) in cc)
        on true false d e h k = refl
        on false true d e h k = refl
        on false false false e h k = refl
        on false false true e h k = absurd (let s = ap (λ t. bytes_eq p t) (sym (same_head q (new q k h))) in let r = bytes_eq-refl p in cc)

    left : (b : Bool) → (g p && not (f p)) ≡ b → (b ≡ false → (q : Text) → g q ≡ true → f q ≡ true)
        → (b ≡ true → (g p ≡ true) × (f p ≡ false))
        → shown g (cond b (p ∷ []) [] ++ older) ≡ filter g (shown f older) ++ cond b (p ∷ []) []
    left false e none some = none_new f g older (none refl) ∙ sym (append-nil (filter g (shown f older)))
    left true e none some =
        ap reverse (filter_in g p (without (firsts older) p) (some refl).0)
        ∙ reverse-cons p (filter g (without (firsts older) p))
        ∙ ap (λ l. reverse l ++ p ∷ []) (filter_filter g (λ q. not (bytes_eq p q)) (firsts older) ∙ filter_agree
        (λ q. not (bytes_eq p q) && g q) (λ q. f q && g q) (kept (some refl).1) (firsts older) ∙ sym (filter_filter g f (firsts older)))
        ∙ ap (λ l. l ++ p ∷ []) (reverse_filter g (filter f (firsts older)))

    by : (b c : Bool) → g p ≡ b → f p ≡ c
        → shown g (cond (g p && not (f p)) (p ∷ []) [] ++ older) ≡ filter g (shown f older) ++ cond (g p && not (f p)) (p ∷ []) []
    by true true e h =
        left (g p && not (f p)) refl (λ z. old (λ w. h)) (λ z. absurd (let t = ap (λ t. t && not (f p)) e in let v = ap not h in cc))
    by true false e h =
        left (g p && not (f p)) refl (λ z. absurd (let t = ap (λ t. t && not (f p)) e in let v = ap not h in cc)) (λ z. (e, h))
    by false c e h = left (g p && not (f p)) refl (λ z. old (λ w. absurd cc)) (λ z. absurd (let t = ap (λ t. t && not (f p)) e in cc))

-- ---- a list has the paths that are in it

-- a path comes into a list by a reply about it alone
pub record Tracks (is_in : Text → Past → Bool) : Type 0 where
  pub none : (p : Text) → is_in p [] ≡ false
  pub by_reply : (p : Text) (happening : Happening) (past : Past)
      → is_in p (happening ∷ past) ≡ true → is_in p past ≡ false → path_of_reply happening ≡ p ∷ []

has_arrivals : (is_in : Text → Past → Bool) → Tracks is_in → (p : Text) (past : Past)
    → is_in p past ≡ true → has (arrivals is_in past) p ≡ true
has_arrivals is_in t p [] e = absurd (let n = t.none p in cc)
has_arrivals is_in t p (happening ∷ past) e = by (is_in p past) refl (has_arrivals is_in t p past)
  where
    new : List Text
    new = filter (λ path. is_in path (happening ∷ past) && not (is_in path past)) (path_of_reply happening)

    by : (b : Bool) → is_in p past ≡ b → (is_in p past ≡ true → has (arrivals is_in past) p ≡ true)
        → has (arrivals is_in (happening ∷ past)) p ≡ true
    by true was ih = has-append new (arrivals is_in past) p ∙ ap (λ b. has new p || b) (ih was) ∙ or_true (has new p)
    by false was ih =
        has-append new (arrivals is_in past) p
        ∙ ap (λ b. b || has (arrivals is_in past) p) (
        ap (λ ps. has (filter (λ path. is_in path (happening ∷ past) && not (is_in path past)) ps) p) (t.by_reply p happening past e was)
        ∙ ap (λ ps. has ps p) (filter_in (λ path. is_in path (happening ∷ past) && not (is_in path past)) p []
        (ap (λ b. b && not (is_in p past)) e ∙ ap not was))
        ∙ ap (λ b. b || false) (bytes_eq-refl p)
        )

pub has_listed : (is_in : Text → Past → Bool) → Tracks is_in → (p : Text) (past : Past) → has (listed is_in past) p ≡ is_in p past
has_listed is_in t p past =
    has-reverse (filter (λ path. is_in path past) (firsts (arrivals is_in past))) p
    ∙ has-filter (λ path. is_in path past) (firsts (arrivals is_in past)) p
    ∙ ap (λ b. b && is_in p past) (has-firsts (arrivals is_in past) p)
    ∙ by (is_in p past) refl
  where
    by : (b : Bool) → is_in p past ≡ b → (has (arrivals is_in past) p && b) ≡ b
    by true e = and_true (has (arrivals is_in past) p) ∙ has_arrivals is_in t p past e
    by false e = and_false (has (arrivals is_in past) p)
