-- What is sent on a new connection lists each path that is good: a path comes into a list by a reply about it, and stays there as long as
-- it is of that kind.
use Rattle.zk_watches.specs.Lists.{Lists}
use Rattle.std.proofs.Common.{ℕ, ◌≡◌, ◌≤◌, Bool, true, false, ◌&&◌, ◌||◌, not, cond, List, [], ◌∷◌, ◌++◌, refl, sym, subst, inl, inr, ◌⊎◌}
use Rattle.std.proofs.Common.{arith, Option, Some, None, if◌then◌else◌, flat_map, filter}
use Rattle.std.proofs.lemmas.Bool.{and_parts, or_left, or_right, or_cases, cases_Bool}
use Rattle.zk_nodes.specs.Path.{Text}
use Rattle.zk_nodes.specs.History.{History}
use Rattle.zk_nodes.specs.declared.side.Side.{Side}
use Rattle.zk_nodes.specs.declared.side.Side.TheVariants.{Data, Child}
use Rattle.zk_conversation.specs.Questions.{Question, Exists, GetData, GetChildren}
use Rattle.zk_conversation.specs.Results.{Result, NoNode, Found, Read, Listing}
use Rattle.std.specs.Prelude.{bytes_eq}
use Rattle.zk_laws.specs.Server.{same_side, Watches, zxid_held}
use Rattle.zk_laws.specs.Messages.{Accepted, Expired, Replies, Notifies}
use Rattle.zk_laws.proofs.Log.{Item, Halted, Took, last, good, kept_after, refreshed, answer_of, Kind, Of_data, Of_absence, Of_children}
use Rattle.zk_laws.proofs.Log.{side_of, is_of, is_kind, paths_in, listed, AreParts, tells_of, leaves, Answer, Absent, Known, Full, Names}
use Rattle.zk_laws.proofs.Log.{is_listed}
use Rattle.zk_laws.proofs.Steps.{restores}
use Rattle.zk_conversation.specs.Pending.{closes}
use Rattle.zk_laws.proofs.Basics.{text_eq-true}
use Rattle.zk_laws.proofs.Invariant.{IsRight, Ahead, list_in, is_in, IsAwaited, IsSure, IsSettled}
use Rattle.zk_laws.proofs.Ahead.{max_zero, right_less}

among_left : (path : Text) (xs ys : List Text) → is_listed path xs ≡ true → is_listed path (xs ++ ys) ≡ true
among_left path [] ys e = absurd cc
among_left path (x ∷ xs) ys e = go (λ k. among_left path xs ys k) (or_cases (bytes_eq path x) (is_listed path xs) e)
  where
    go : (is_listed path xs ≡ true → is_listed path (xs ++ ys) ≡ true) → (bytes_eq path x ≡ true) ⊎ (is_listed path xs ≡ true)
        → (bytes_eq path x || is_listed path (xs ++ ys)) ≡ true
    go more (inl h) = or_left (bytes_eq path x) (is_listed path (xs ++ ys)) h
    go more (inr k) = or_right (bytes_eq path x) (is_listed path (xs ++ ys)) (more k)

among_right : (path : Text) (xs ys : List Text) → is_listed path ys ≡ true → is_listed path (xs ++ ys) ≡ true
among_right path [] ys e = e
among_right path (x ∷ xs) ys e = or_right (bytes_eq path x) (is_listed path (xs ++ ys)) (among_right path xs ys e)

pub among_append : (path : Text) (xs ys : List Text)
    → is_listed path (xs ++ ys) ≡ true → (is_listed path xs ≡ true) ⊎ (is_listed path ys ≡ true)
among_append path [] ys e = inr e
among_append path (x ∷ xs) ys e = go (λ k. among_append path xs ys k) (or_cases (bytes_eq path x) (is_listed path (xs ++ ys)) e)
  where
    go : (is_listed path (xs ++ ys) ≡ true → (is_listed path xs ≡ true) ⊎ (is_listed path ys ≡ true))
        → (bytes_eq path x ≡ true) ⊎ (is_listed path (xs ++ ys) ≡ true)
        → ((bytes_eq path x || is_listed path xs) ≡ true) ⊎ (is_listed path ys ≡ true)
    go more (inl h) = inl (or_left (bytes_eq path x) (is_listed path xs) h)
    go more (inr k) = on (more k)
      where
        on : (is_listed path xs ≡ true) ⊎ (is_listed path ys ≡ true)
            → ((bytes_eq path x || is_listed path xs) ≡ true) ⊎ (is_listed path ys ≡ true)
        on (inl a) = inl (or_right (bytes_eq path x) (is_listed path xs) a)
        on (inr b) = inr b

among_filter : (test : Text → Bool) (path : Text) (xs : List Text)
    → test path ≡ true → is_listed path xs ≡ true → is_listed path (filter test xs) ≡ true
among_filter test path [] t e = absurd cc
among_filter test path (x ∷ xs) t e = go (λ k. among_filter test path xs t k) (or_cases (bytes_eq path x) (is_listed path xs) e)
  where
    skip : (b : Bool) → is_listed path (filter test xs) ≡ true → is_listed path (cond b (x ∷ filter test xs) (filter test xs)) ≡ true
    skip true k = or_right (bytes_eq path x) (is_listed path (filter test xs)) k
    skip false k = k

    go : (is_listed path xs ≡ true → is_listed path (filter test xs) ≡ true) → (bytes_eq path x ≡ true) ⊎ (is_listed path xs ≡ true)
        → is_listed path (cond (test x) (x ∷ filter test xs) (filter test xs)) ≡ true
    go more (inl h) = let here : test x ≡ true = subst (λ (q : Text). test q ≡ true) (text_eq-true path x h) t in
        rw here (or_left (bytes_eq path x) (is_listed path (filter test xs)) h)
    go more (inr k) = skip (test x) (more k)

is_of_none : (kind : Kind) → is_of kind None ≡ false
is_of_none Of_data = refl
is_of_none Of_absence = refl
is_of_none Of_children = refl

left_path : (q : Question) (z : ℕ) (r : Result) (side : Side) (path : Text)
    → leaves q r side path ≡ true → is_listed path (paths_in (Took (Replies q z r))) ≡ true
left_path (Exists at true) z NoNode side path e = or_left (bytes_eq path at) false (and_parts (same_side side Data) (bytes_eq path at) e).1
left_path (Exists at true) z (Found fields) side path e =
    or_left (bytes_eq path at) false (and_parts (same_side side Data) (bytes_eq path at) e).1
left_path (GetData at true) z (Read bytes fields) side path e =
    or_left (bytes_eq path at) false (and_parts (same_side side Data) (bytes_eq path at) e).1
left_path (GetChildren at true) z (Listing names pzxid) side path e =
    or_left (bytes_eq path at) false (and_parts (same_side side Child) (bytes_eq path at) e).1
left_path _ z _ side path e = absurd cc

-- a path comes into a list by a reply about it
newcomer : (kind : Kind) (path : Text) (item : Item) (k : Option Answer)
    → is_of kind (kept_after (side_of kind) path item k) ≡ true → is_of kind k ≡ false → is_listed path (paths_in item) ≡ true
newcomer kind path (Took (Replies q z r)) k e f = go (closes q) (leaves q r (side_of kind) path) refl e
  where
    go : (b d : Bool) → leaves q r (side_of kind) path ≡ d
        → is_of kind (if b then None else (if d then Some (refreshed (answer_of r) k) else k)) ≡ true
        → is_listed path (paths_in (Took (Replies q z r))) ≡ true
    go true d g e = let n = is_of_none kind in absurd cc
    go false true g e = left_path q z r (side_of kind) path g
    go false false g e = absurd cc
newcomer kind path (Took (Notifies n)) k e f = go (tells_of n (side_of kind) path) e
  where
    go : (b : Bool) → is_of kind (if b then None else k) ≡ true → is_listed path (paths_in (Took (Notifies n))) ≡ true
    go true e = let n = is_of_none kind in absurd cc
    go false e = absurd cc
newcomer kind path (Took Expired) k e f = let n = is_of_none kind in absurd cc
newcomer kind path Halted k e f = let n = is_of_none kind in absurd cc
newcomer kind path _ k e f = absurd cc

-- each path of a kind is listed
pub listed_has : (kind : Kind) (path : Text) (log : List Item) → is_kind kind path log ≡ true → is_listed path (listed kind log) ≡ true
listed_has kind path [] e = let n = is_of_none kind in absurd cc
listed_has kind path (item ∷ older) e = go (λ k. listed_has kind path older k) (cases_Bool (is_kind kind path older))
  where
    go : (is_kind kind path older ≡ true → is_listed path (listed kind older) ≡ true)
        → (is_kind kind path older ≡ true) ⊎ (is_kind kind path older ≡ false) → is_listed path (listed kind (item ∷ older)) ≡ true
    go more (inl t) = among_left path (filter (λ p. is_kind kind p (item ∷ older)) (listed kind older))
        (filter (λ p. is_kind kind p (item ∷ older) && not (is_kind kind p older)) (paths_in item))
        (among_filter (λ p. is_kind kind p (item ∷ older)) path (listed kind older) e (more t))
    go more (inr f) = among_right path (filter (λ p. is_kind kind p (item ∷ older)) (listed kind older))
        (filter (λ p. is_kind kind p (item ∷ older) && not (is_kind kind p older)) (paths_in item))
        (among_filter (λ p. is_kind kind p (item ∷ older) && not (is_kind kind p older)) path (paths_in item) (rw (e, f) refl)
        (newcomer kind path item (good (side_of kind) path older) e f))

-- a path of the parts is awaited
restores_await : (side : Side) (path : Text) (a : Answer) (relative : ℕ) (parts : List Lists)
    → is_listed path (flat_map (λ part. list_in side a part) parts) ≡ true → IsAwaited side path a relative (restores relative parts)
restores_await side path a relative [] e = absurd cc
restores_await side path a relative (part ∷ []) e = go (among_append path (list_in side a part) [] e)
  where
    go : (is_listed path (list_in side a part) ≡ true) ⊎ (is_listed path [] ≡ true)
        → (relative ≡ relative) × ((is_in side a path part ≡ true) ⊎ ((true ≡ false) × ⊥))
    go (inl h) = (refl, inl h)
    go (inr k) = absurd cc
restores_await side path a relative (part ∷ next ∷ parts) e = go (λ k. restores_await side path a relative (next ∷ parts) k)
    (among_append path (list_in side a part) (flat_map (λ p. list_in side a p) (next ∷ parts)) e)
  where
    go : (is_listed path (flat_map (λ p. list_in side a p) (next ∷ parts)) ≡ true
        → IsAwaited side path a relative (restores relative (next ∷ parts)))
        → (is_listed path (list_in side a part) ≡ true) ⊎ (is_listed path (flat_map (λ p. list_in side a p) (next ∷ parts)) ≡ true)
        → IsAwaited side path a relative (restores relative (part ∷ next ∷ parts))
    go more (inl h) = (refl, inl h)
    go more (inr k) = (refl, inr (refl, more k))

parts_have : (log : List Item) (parts : List Lists) (side : Side) (path : Text) (a : Answer)
    → AreParts log parts → good side path log ≡ Some a → is_listed path (flat_map (λ part. list_in side a part) parts) ≡ true
parts_have log parts Data path Absent are g = rw are.exist_watches (listed_has Of_absence path log (rw g refl))
parts_have log parts Data path (Known f) are g = rw are.data_watches (listed_has Of_data path log (rw g refl))
parts_have log parts Data path (Full b f) are g = rw are.data_watches (listed_has Of_data path log (rw g refl))
parts_have log parts Data path (Names n z) are g = rw are.data_watches (listed_has Of_data path log (rw g refl))
parts_have log parts Child path a are g = rw are.child_watches (listed_has Of_children path log (rw g refl))

-- The client takes the acceptance and sends the parts.
pub joined : (h : History) (side : Side) (path : Text) (log : List Item) (parts : List Lists) (place : ℕ) (watches : Watches)
    → AreParts log parts → IsRight h side path log → last log ≤ zxid_held h place
    → Ahead h side path [] (Took Accepted ∷ log) (IsSettled h side path (restores (last log) parts) place watches)
joined h side path log parts place watches are right low =
    (right_less h side path (Took Accepted ∷ log) log (max_zero (last log), inr refl) right, (omega arith, go (good side path log) refl))
  where
    go : (k : Option Answer)
        → good side path log ≡ k → IsSure h side path (restores (last log) parts) place watches (last (Took Accepted ∷ log)) k
    go None g = tt
    go (Some a) g = inr (subst (λ (z : ℕ). IsAwaited side path a z (restores (last log) parts)) (sym (max_zero (last log)))
        (restores_await side path a (last log) parts (parts_have log parts side path a are g)))
