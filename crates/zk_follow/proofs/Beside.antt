-- A subject is found by its ticket or its path in a bucket; one that has the path of another, by the place of the other.
use Rattle.std.proofs.Common.{◌≡◌, ◌<◌, ◌+◌, ◌∙◌, ◌||◌, ◌&&◌, ℕ, Bool, true, false, List, length, get_or, take}
use Rattle.std.proofs.Common.{refl, sym, ap, subst, arith}
use Rattle.std.specs.Prelude.{◌==◌, bytes_eq, All}
use Rattle.std.proofs.lemmas.List.{get_or_default}
use Rattle.std.specs.List.{list_any}
use Rattle.std.proofs.lemmas.List.Folds.{list_any_at, list_any_more, Any-from_list_any}
use Rattle.std.proofs.lemmas.Bool.Decides.{Decides-eqb}
use Rattle.zk_nodes.specs.Path.{Text}
use Rattle.zk_turns.specs.Turns.{Output, Answer}
use Rattle.zk_follow.specs.declared.subject.Subject.{Subject}
use Rattle.zk_follow.specs.Following.{is_among}
use Rattle.zk_follow.specs.inner.Owning.{is_of}
use Rattle.zk_follow.specs.inner.Places.{is_named, HasEach}
use Rattle.zk_follow.specs.inner.Resting.{is_beside, is_reply}
use Rattle.zk_follow.proofs.Placing.{among_none}
use Rattle.zk_follow.proofs.Staying.{and_parts}

-- One place more of a bucket is gone over: it is added if its subject passes the test.
pub bucket_more : {A : Type 0} (test : Subject A → Bool) (subjects : List (Subject A)) (count : ℕ) (places : List ℕ) (i : ℕ)
    (old new : List ℕ) → i < length places
    → ((at : ℕ) → at < count → is_among at old ≡ true → is_among at new ≡ true)
    → ((d : Subject A) → get_or places i 0 < count → test (get_or subjects (get_or places i 0) d) ≡ true
    → is_among (get_or places i 0) new ≡ true)
    → ((k : ℕ) (d : Subject A) → k < count → is_among k (take i places) ≡ true → test (get_or subjects k d) ≡ true
    → is_among k old ≡ true)
    → (k : ℕ) (d : Subject A) → k < count → is_among k (take (i + 1) places) ≡ true → test (get_or subjects k d) ≡ true
    → is_among k new ≡ true
bucket_more test subjects count places i old new within had here before k d fits among e =
    by (is_among k (take i places)) (k == get_or places i 0) refl refl (sym more ∙ among)
  where
    more : is_among k (take (i + 1) places) ≡ (is_among k (take i places) || k == get_or places i 0)
    more = list_any_more (λ n. k == n) places i 0 within

    by : (a b : Bool) → is_among k (take i places) ≡ a → (k == get_or places i 0) ≡ b → (a || b) ≡ true → is_among k new ≡ true
    by true b f g h = had k fits (before k d fits f e)
    by false true f g h =
        let at : k ≡ get_or places i 0 = (Decides-eqb k (get_or places i 0)).0 g in
        ap (λ n. is_among n new) at
        ∙ here d (omega (arith, fits, at)) (ap (λ n. test (get_or subjects n d)) (sym at) ∙ e)
    by false false f g h = absurd cc

-- One place more is gone over: those are added that have the path of its subject.
pub paths_more : {A : Type 0} (subjects : List (Subject A)) (count : ℕ) (places : List ℕ) (i : ℕ) (subject : Subject A) (path : Text)
    (old new : List ℕ) → i < length places → All (λ at. at < length subjects) places → subject ≡ get_or subjects (get_or places i 0) subject
    → path ≡ subject.path → ((at : ℕ) → at < count → is_among at old ≡ true → is_among at new ≡ true)
    → HasEach (λ s. bytes_eq path s.path) count subjects new
    → ((k : ℕ) (d : Subject A) → is_among k (take i places) ≡ true
    → HasEach (λ s. bytes_eq (get_or subjects k d).path s.path) count subjects old)
    → (k : ℕ) (d : Subject A) → is_among k (take (i + 1) places) ≡ true
    → HasEach (λ s. bytes_eq (get_or subjects k d).path s.path) count subjects new
paths_more {A} subjects count places i subject path old new within fits is its had here before k d among =
    by (is_among k (take i places)) (k == get_or places i 0) refl refl (sym more ∙ among)
  where
    more : is_among k (take (i + 1) places) ≡ (is_among k (take i places) || k == get_or places i 0)
    more = list_any_more (λ n. k == n) places i 0 within

    by : (a b : Bool) → is_among k (take i places) ≡ a → (k == get_or places i 0) ≡ b → (a || b) ≡ true
        → HasEach (λ s. bytes_eq (get_or subjects k d).path s.path) count subjects new
    by true b e f g = λ at t below same. had at below (before k d e at t below same)
    by false true e f g =
        let at_it : k ≡ get_or places i 0 = (Decides-eqb k (get_or places i 0)).0 f in
        let s : get_or subjects k d ≡ subject =
        ap (λ n. get_or subjects n d) at_it ∙ get_or_default subjects (get_or places i 0) d subject (fits i 0 within) ∙ sym is in
        subst (λ (text : Text). HasEach (λ (t : Subject A). bytes_eq text t.path) count subjects new)
        (its ∙ ap (λ (t : Subject A). t.path) (sym s)) here
    by false false e f g = absurd cc

-- who has the path of a subject of a ticket is found, if those of the ticket are
pub siblings : {A : Type 0} (subjects : List (Subject A)) (count ticket : ℕ) (own slice all : List ℕ) → count ≡ length subjects
    → slice ≡ own → HasEach (λ s. s.ticket == ticket) count subjects own
    → ((k : ℕ) (d : Subject A) → is_among k slice ≡ true
    → HasEach (λ s. bytes_eq (get_or subjects k d).path s.path) count subjects all)
    → HasEach (λ s. is_of subjects ticket s.path) count subjects all
siblings {A} subjects count ticket own slice all size is has each k d fits e =
    let path = (get_or subjects k d).path in
    let any = Any-from_list_any (λ (s : Subject A). ticket == s.ticket && bytes_eq s.path path) subjects e in
    let parts = and_parts (ticket == any.1.ticket) (bytes_eq any.1.path path) any.4 in
    let same : (get_or subjects any.0 any.1).ticket ≡ ticket =
    ap (λ (s : Subject A). s.ticket) any.3 ∙ sym ((Decides-eqb ticket any.1.ticket).0 parts.0) in
    let here = has any.0 any.1 (omega (arith, any.2, size)) ((Decides-eqb (get_or subjects any.0 any.1).ticket ticket).1 same) in
    each any.0 any.1 (ap (is_among any.0) is ∙ here) k d fits (ap (λ (s : Subject A). bytes_eq s.path path) any.3 ∙ parts.1)

-- a reply that is beside a subject is the answer of one of the same ticket
beside_one : {A : Type 0} (subjects : List (Subject A)) (path : Text) (output : Output) → is_beside subjects path output ≡ true
    → (k : ℕ) × (d : Subject A) × (k < length subjects)
    × (is_named (get_or subjects k d).ticket (get_or subjects k d).path output ≡ true)
beside_one {A} subjects path (Answer its outcome) e =
    let parts = and_parts (is_reply outcome) (is_of subjects its path) e in
    let any = Any-from_list_any (λ (s : Subject A). its == s.ticket && bytes_eq s.path path) subjects parts.1 in
    let both = and_parts (its == any.1.ticket) (bytes_eq any.1.path path) any.4 in
    let same : (get_or subjects any.0 any.1).ticket ≡ its =
    ap (λ (s : Subject A). s.ticket) any.3 ∙ sym ((Decides-eqb its any.1.ticket).0 both.0) in
    (any.0, any.1, any.2, (Decides-eqb (get_or subjects any.0 any.1).ticket its).1 same)
beside_one subjects path _ e = absurd cc

-- where outputs name none of them, no reply is beside one
pub none_beside : {A : Type 0} (subjects : List (Subject A)) (count : ℕ) (outputs : List Output) (places : List ℕ) → count ≡ length subjects
    → length places ≡ 0 → HasEach (λ s. list_any (is_named s.ticket s.path) outputs) count subjects places
    → (path : Text) → list_any (is_beside subjects path) outputs ≡ true → ⊥
none_beside {A} subjects count outputs places size none has path e =
    let any = Any-from_list_any (is_beside subjects path) outputs e in
    let one = beside_one subjects path any.1 any.4 in
    let s : Subject A = get_or subjects one.0 one.1 in
    let named = list_any_at (is_named s.ticket s.path) outputs any.0 any.1 any.2 (ap (is_named s.ticket s.path) any.3 ∙ one.3) in
    let among : true ≡ false = sym (has one.0 one.1 (omega (arith, one.2, size)) named) ∙ among_none one.0 places none in
    cc
