-- Equal paths, and membership: the tests of texts and paths decide equality, by induction on them; and what is fired is sent.
use Rattle.zk_turns.proofs.Lists.{same_text, bytes_eq-refl}
use Rattle.std.proofs.Common.{ℕ, ◌≡◌, ◌==◌, ◌<◌, Bool, true, false, ◌&&◌, List, [], ◌∷◌, ◌++◌, refl, ap, sym, ◌∙◌, subst, inl, inr, ◌⊎◌}
use Rattle.std.proofs.Common.{arith, eqb-true, fold, append_assoc, append-nil}
use Rattle.std.proofs.lemmas.Bool.{and_parts, and_from}
use Rattle.zk_nodes.specs.Path.{Text, Name, NodePath, path_eq, text_of, path_of, byte_more, IsPathText}
use Rattle.zk_records.specs.declared.event.Event.{Event}
use Rattle.zk_records.specs.declared.event.Event.TheVariants.{Created, Deleted, DataChanged, ChildrenChanged}
use Rattle.std.specs.Prelude.{bytes_eq}
use Rattle.std.specs.Ordering.{int_eq}
use Rattle.zk_records.specs.Events.{event_number}
use Rattle.zk_turns.specs.Meaning.{Among}
use Rattle.zk_laws.specs.Server.{Notice, times, AreSent}

pub text_eq-true : (x y : Name) → bytes_eq x y ≡ true → x ≡ y
text_eq-true x y h = same_text x y h

pub text_eq-refl : (x : Name) → bytes_eq x x ≡ true
text_eq-refl x = bytes_eq-refl x

pub path_eq-true : (p q : NodePath) → path_eq p q ≡ true → p ≡ q
path_eq-true [] [] h = refl
path_eq-true [] (y ∷ ys) h = absurd cc
path_eq-true (x ∷ xs) [] h = absurd cc
path_eq-true (x ∷ xs) (y ∷ ys) h =
    let parts = and_parts (bytes_eq x y) (path_eq xs ys) h in
    let rest = path_eq-true xs ys parts.1 in
    let head = text_eq-true x y parts.0 in
    cc

pub path_eq-refl : (p : NodePath) → path_eq p p ≡ true
path_eq-refl [] = refl
path_eq-refl (x ∷ xs) = and_from (bytes_eq x x) (path_eq xs xs) (text_eq-refl x) (path_eq-refl xs)

pub path_eq_from : (p q : NodePath) → p ≡ q → path_eq p q ≡ true
path_eq_from p q e = subst (λ (r : NodePath). path_eq p r ≡ true) e (path_eq-refl p)

pub text_eq_from : (p q : Text) → p ≡ q → bytes_eq p q ≡ true
text_eq_from p q e = subst (λ (r : Text). bytes_eq p r ≡ true) e (text_eq-refl p)

-- The text of a path, and the path of a text

slash_or : (byte : ℕ) → (byte ≡ 47) ⊎ ((byte == 47) ≡ false)
slash_or byte = go (byte == 47) refl
  where
    go : (b : Bool) → (byte == 47) ≡ b → (byte ≡ 47) ⊎ ((byte == 47) ≡ false)
    go true e = inl (eqb-true byte 47 e)
    go false e = inr e

text_more : (name : Name) (path : NodePath) (byte : ℕ) → text_of (byte_more (name ∷ path) byte) ≡ text_of (name ∷ path) ++ byte ∷ []
text_more name path byte = go (slash_or byte)
  where
    other : (path : NodePath) → text_of ((name ++ byte ∷ []) ∷ path) ≡ text_of (name ∷ path) ++ byte ∷ []
    other [] = refl
    other (above ∷ path) = sym (append_assoc (text_of (above ∷ path)) (47 ∷ name) (byte ∷ []))

    go : (byte ≡ 47) ⊎ ((byte == 47) ≡ false) → text_of (byte_more (name ∷ path) byte) ≡ text_of (name ∷ path) ++ byte ∷ []
    go (inl e) = rw e refl
    go (inr f) = rw f (other path)

text_all : (name : Name) (path : NodePath) (bytes : List ℕ) → text_of (fold byte_more (name ∷ path) bytes) ≡ text_of (name ∷ path) ++ bytes
text_all name path [] = sym (append-nil (text_of (name ∷ path)))
text_all name path (byte ∷ bytes) = go (slash_or byte) (λ n p. text_all n p bytes)
  where
    end : (n : Name) (p : NodePath) → text_of (n ∷ p) ≡ text_of (name ∷ path) ++ byte ∷ [] → text_of (fold byte_more (n ∷ p) bytes)
        ≡ text_of (n ∷ p) ++ bytes → text_of (fold byte_more (n ∷ p) bytes) ≡ text_of (name ∷ path) ++ byte ∷ bytes
    end n p e r = r ∙ (ap (λ (t : Text). t ++ bytes) e ∙ append_assoc (text_of (name ∷ path)) (byte ∷ []) bytes)

    go : (byte ≡ 47) ⊎ ((byte == 47) ≡ false)
        → ((n : Name) (p : NodePath) → text_of (fold byte_more (n ∷ p) bytes) ≡ text_of (n ∷ p) ++ bytes)
        → text_of (fold byte_more (byte_more (name ∷ path) byte) bytes) ≡ text_of (name ∷ path) ++ byte ∷ bytes
    go (inl e) more =
        let h : byte_more (name ∷ path) byte ≡ [] ∷ name ∷ path = rw e refl in
        subst (λ (q : NodePath). text_of (fold byte_more q bytes) ≡ text_of (name ∷ path) ++ byte ∷ bytes) (sym h)
        (end [] (name ∷ path) (ap text_of (sym h) ∙ text_more name path byte) (more [] (name ∷ path)))
    go (inr f) more =
        let h : byte_more (name ∷ path) byte ≡ (name ++ byte ∷ []) ∷ path = rw f refl in
        subst (λ (q : NodePath). text_of (fold byte_more q bytes) ≡ text_of (name ∷ path) ++ byte ∷ bytes) (sym h)
        (end (name ++ byte ∷ []) path (ap text_of (sym h) ∙ text_more name path byte) (more (name ++ byte ∷ []) path))

-- a text that begins with a / is the text of its path
pub text_path : (text : Text) → IsPathText text → text_of (path_of text) ≡ text
text_path [] h = absurd h
text_path (byte ∷ []) h = ap (λ b. b ∷ []) (sym h)
text_path (byte ∷ next ∷ bytes) h = rw h (text_all [] [] (next ∷ bytes))

pub Among-left : {A : Type 0} (x : A) (xs ys : List A) → Among x xs → Among x (xs ++ ys)
Among-left x [] ys h = absurd h
Among-left x (z ∷ xs) ys (inl e) = inl e
Among-left x (z ∷ xs) ys (inr h) = inr (Among-left x xs ys h)

pub Among-right : {A : Type 0} (x : A) (xs ys : List A) → Among x ys → Among x (xs ++ ys)
Among-right x [] ys h = h
Among-right x (z ∷ xs) ys h = inr (Among-right x xs ys h)

-- the same event
abbrev event_eq : Event → Event → Bool
event_eq one other = int_eq (event_number one) (event_number other)

event_eq-refl : (e : Event) → event_eq e e ≡ true
event_eq-refl Created = refl
event_eq-refl Deleted = refl
event_eq-refl DataChanged = refl
event_eq-refl ChildrenChanged = refl

event_eq-true : (e f : Event) → event_eq e f ≡ true → e ≡ f
event_eq-true Created Created h = refl
event_eq-true Deleted Deleted h = refl
event_eq-true DataChanged DataChanged h = refl
event_eq-true ChildrenChanged ChildrenChanged h = refl
event_eq-true _ _ h = absurd cc

times-among : (n : Notice) (xs : List Notice) → Among n xs → 0 < times n xs
times-among n [] h = absurd h
times-among n (x ∷ xs) (inl e) =
    let same : (event_eq n.event x.event && bytes_eq n.path x.path) ≡ true =
    subst (λ (m : Notice). (event_eq n.event m.event && bytes_eq n.path m.path) ≡ true) e
    (and_from (event_eq n.event n.event) (bytes_eq n.path n.path) (event_eq-refl n.event) (text_eq-refl n.path)) in
    rw same (omega arith)
times-among n (x ∷ xs) (inr h) = let more = times-among n xs h in omega arith

among_times : (n : Notice) (xs : List Notice) → 0 < times n xs → Among n xs
among_times n [] h = absurd (omega arith)
among_times n (x ∷ xs) h = go (λ m. among_times n xs m) (event_eq n.event x.event && bytes_eq n.path x.path) refl
  where
    go : (0 < times n xs → Among n xs) → (b : Bool) → (event_eq n.event x.event && bytes_eq n.path x.path) ≡ b → Among n (x ∷ xs)
    go more true e =
        let parts = and_parts (event_eq n.event x.event) (bytes_eq n.path x.path) e in
        let one = event_eq-true n.event x.event parts.0 in
        let two = text_eq-true n.path x.path parts.1 in
        inl (λ i. record { event = one i; path = two i })
    go more false e = let k = rw e at h in let k' : 0 < times n xs = omega (arith, k) in inr (more k')

-- what is fired is sent
pub sent_among : (fired sent : List Notice) (n : Notice) → AreSent fired sent → Among n fired → Among n sent
sent_among fired sent n h m = among_times n sent ((h n).1 (times-among n fired m))

-- where nothing is fired nothing is sent
pub none_sent : (sent : List Notice) → AreSent [] sent → sent ≡ []
none_sent [] h = refl
none_sent (x ∷ xs) h = let some = times-among x (x ∷ xs) (inl refl) in let none = (h x).0 in absurd (omega arith)
