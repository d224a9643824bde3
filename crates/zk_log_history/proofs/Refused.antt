-- What is taken of several changes and entries, and what refuses them.
use Rattle.std.proofs.Common.{◌≡◌, ℕ, ◌+◌, ◌<◌, ℤ, List, [], ◌∷◌, ◌++◌, map, length, drop, get_or, Option, Some, None, refl, sym, ap, ◌∙◌}
use Rattle.std.proofs.Common.{subst, inl, inr, true, false, Bool, cond, is_some, Result, Ok, Err}
use Rattle.std.proofs.lemmas.Bool.{cond-false}
use Rattle.std.proofs.lemmas.List.{at_drop_more}
use Rattle.std.proofs.lemmas.Result.{MatchResult-weaker}
use Rattle.std.specs.Prelude.{IfErr, IsErrAnd}
use Rattle.std.specs.List.{list_any}
use Rattle.zk_jute.specs.Layout.{Value}
use Rattle.std.specs.BTreeMap.{BTreeMap}
use Rattle.std.specs.declared.vec.Vec.{Vec}
use Rattle.zk_nodes.specs.Path.{Text, NodePath, path_of}
use Rattle.zk_nodes.specs.History.{Node, Change, Deletes}
use Rattle.zk_history.specs.HistoryView.{HistoryView, newest_tree, with_change}
use Rattle.zk_log.specs.Kinds.{part}
use Rattle.zk_log.specs.Following.{is_failed}
use Rattle.zk_log.specs.Format.{Logged}
use Rattle.zk_log.specs.Reading.{Placed}
use Rattle.zk_log_history.specs.Changes.{named, is_owned, with_changes, made_in, deletions, close_changes}
use Rattle.zk_log_history.specs.Changes.{part_changes, parts_changes, all_changes}
use Rattle.zk_log_history.specs.Following.{with_whole, transaction_of}
use Rattle.zk_log_history.specs.Made.{paths_made, AreMade}
use Rattle.zk_log_history.specs.Refused.{AreTaken, AreTold, IsTold, IsUntold, StopsAt, earlier, first_fault}
use Rattle.zk_log_history.specs.inner.Refused.{Refuses, Unread}
use Rattle.zk_log_history.specs.Refused.{path_fault, part_fault, parts_fault}
use Rattle.zk_log_history.specs.declared.untold.Untold.{Untold}
use Rattle.zk_log_history.specs.declared.untold.UntoldEntry.{UntoldEntry}
use Rattle.zk_log_history.specs.declared.untold.Untold.TheVariants as untold
use Rattle.zk_log_history.proofs.Deletions.{made_in-deletions}

-- ---- changes

pub AreTaken-parts : (kept : HistoryView) (xs ys : List Change) → AreTaken kept (xs ++ ys)
    → AreTaken kept xs × AreTaken (with_changes kept xs) ys
AreTaken-parts kept [] ys taken = (tt, taken)
AreTaken-parts kept (x ∷ xs) ys (first, rest) =
    let both = AreTaken-parts (with_change kept x) xs ys rest in
    ((first, both.0), both.1)

pub AreTaken-append : (kept : HistoryView) (xs ys : List Change) → AreTaken kept xs → AreTaken (with_changes kept xs) ys
    → AreTaken kept (xs ++ ys)
AreTaken-append kept [] ys none rest = rest
AreTaken-append kept (x ∷ xs) ys (first, some) rest = (first, AreTaken-append (with_change kept x) xs ys some rest)

-- what cannot be read is refused
pub unread_as : (f : Option Untold) (kept : HistoryView) (cs : List Change) (why : Untold) → Unread f why → Refuses f kept cs why
unread_as f kept cs (untold.Path x) u = u
unread_as f kept cs (untold.Part x) u = u
unread_as f kept cs untold.Order u = u
unread_as f kept cs untold.Missing u = u
unread_as f kept cs untold.Illegal u = absurd u
unread_as f kept cs untold.Memory u = u

-- what refuses some changes refuses those that are taken only with them
pub refused_as : (f g : Option Untold) (kept whole : HistoryView) (cs ds : List Change) (why : Untold)
    → ((x : Untold) → f ≡ Some x → g ≡ Some x) → (AreTaken whole ds → AreTaken kept cs) → Refuses f kept cs why → Refuses g whole ds why
refused_as f g kept whole cs ds (untold.Path x) fault taken r = fault (untold.Path x) r
refused_as f g kept whole cs ds (untold.Part x) fault taken r = fault (untold.Part x) r
refused_as f g kept whole cs ds untold.Order fault taken r = r
refused_as f g kept whole cs ds untold.Missing fault taken r = r
refused_as f g kept whole cs ds untold.Illegal fault taken r = λ t. r (taken t)
refused_as f g kept whole cs ds untold.Memory fault taken r = r

pub no_fault : (g : Option Untold) (x : Untold) → None ≡ Some x → g ≡ Some x
no_fault g x e = cc

-- ---- what is left of changes

-- What is left of some changes, with the first fault that is left, is refused and taken as all of them.
abbrev pub AreLeft : Option Untold → HistoryView → List Change → Option Untold → HistoryView → List Change → Type 0
AreLeft f now cs g kept ds = (f ≡ g) × (AreTaken now cs → AreTaken kept ds) × (AreTaken kept ds → AreTaken now cs)

pub left_all : (f : Option Untold) (kept : HistoryView) (cs : List Change) → AreLeft f kept cs f kept cs
left_all f kept cs = (refl, (λ t. t), (λ t. t))

pub left_more : (f later g : Option Untold) (now after kept : HistoryView) (cs rest ds : List Change)
    → f ≡ None → AreTaken now cs → after ≡ with_changes now cs → AreLeft (earlier f later) now (cs ++ rest) g kept ds
    → AreLeft later after rest g kept ds
left_more f later g now after kept cs rest ds none taken is (same, to, from) = (
  ap (λ o. earlier o later) (sym none) ∙ same,
  (λ t. to (AreTaken-append now cs rest taken (subst (λ k. AreTaken k rest) is t))),
  (λ t. subst (λ k. AreTaken k rest) (sym is) (AreTaken-parts now cs rest (from t)).1),
)

pub left_refused : (f later g : Option Untold) (now kept : HistoryView) (cs rest ds : List Change) (why : Untold)
    → AreLeft (earlier f later) now (cs ++ rest) g kept ds → Refuses f now cs why → Refuses g kept ds why
left_refused f later g now kept cs rest ds why (same, to, from) r =
    refused_as f g now kept cs ds why (λ x e. sym same ∙ ap (λ o. earlier o later) e)
    (λ t. (AreTaken-parts now cs rest (from t)).0) r

pub left_done : (g : Option Untold) (now kept : HistoryView) (ds : List Change) → AreLeft None now [] g kept ds
    → (g ≡ None) × AreTaken kept ds
left_done g now kept ds (same, to, from) = (sym same, to tt)

pub drop_next : {X : Type 0} (xs : List X) (i : ℕ) (x : X) → i < length xs → x ≡ get_or xs i x → drop i xs ≡ x ∷ drop (i + 1) xs
drop_next xs i x within is = at_drop_more (λ left. left) xs i x within ∙ ap (λ y. y ∷ drop (i + 1) xs) (sym is)

-- ---- deletions

deletions-next : (due : Option Node → Bool) (kept : HistoryView) (p : NodePath) (ps : List NodePath)
    → deletions due kept (p ∷ ps) ≡ deletions due kept (p ∷ []) ++ deletions due (with_changes kept (deletions due kept (p ∷ []))) ps
deletions-next due kept p ps =
    let next = with_change kept (Deletes p) in
    elim (due (newest_tree kept p)) as (λ b. cond b (Deletes p ∷ deletions due next ps) (deletions due kept ps)
    ≡ cond b (Deletes p ∷ []) [] ++ deletions due (with_changes kept (cond b (Deletes p ∷ []) [])) ps) [
      | true ↦ refl
      | false ↦ refl
    ]

-- a path more is looked at
pub deletions_left : {X : Type 0} (view : X → NodePath) (fault : X → Option Untold) (due : Option Node → Bool) (xs : List X) (i : ℕ) (x : X)
    (g : Option Untold) (now after kept : HistoryView) (ds : List Change) → i < length xs → x ≡ get_or xs i x
    → fault x ≡ None → AreTaken now (deletions due now (view x ∷ [])) → after ≡ with_changes now (deletions due now (view x ∷ []))
    → AreLeft (first_fault fault (drop i xs)) now (deletions due now (map view (drop i xs))) g kept ds
    → AreLeft (first_fault fault (drop (i + 1) xs)) after (deletions due after (map view (drop (i + 1) xs))) g kept ds
deletions_left view fault due xs i x g now after kept ds within is none taken then left =
    let rest = drop (i + 1) xs in
    let D = deletions due now (view x ∷ []) in
    let next = subst (λ ys. AreLeft (first_fault fault ys) now (deletions due now (map view ys)) g kept ds)
    (drop_next xs i x within is) left in
    let split = subst (λ cs. AreLeft (earlier (fault x) (first_fault fault rest)) now cs g kept ds)
    (deletions-next due now (view x) (map view rest)) next in
    let more = left_more (fault x) (first_fault fault rest) g now after kept D (deletions due (with_changes now D) (map view rest)) ds
    none taken then split in
    subst (λ k. AreLeft (first_fault fault rest) after (deletions due k (map view rest)) g kept ds) (sym then) more

pub deletions_refused : {X : Type 0} (view : X → NodePath) (fault : X → Option Untold) (due : Option Node → Bool) (xs : List X) (i : ℕ)
    (x : X)
    (g : Option Untold) (now kept : HistoryView) (ds : List Change) (why : Untold) → i < length xs → x ≡ get_or xs i x
    → AreLeft (first_fault fault (drop i xs)) now (deletions due now (map view (drop i xs))) g kept ds
    → Refuses (fault x) now (deletions due now (view x ∷ [])) why → Refuses g kept ds why
deletions_refused view fault due xs i x g now kept ds why within is left r =
    let rest = drop (i + 1) xs in
    let D = deletions due now (view x ∷ []) in
    let next = subst (λ ys. AreLeft (first_fault fault ys) now (deletions due now (map view ys)) g kept ds)
    (drop_next xs i x within is) left in
    let split = subst (λ cs. AreLeft (earlier (fault x) (first_fault fault rest)) now cs g kept ds)
    (deletions-next due now (view x) (map view rest)) next in
    left_refused (fault x) (first_fault fault rest) g now kept D (deletions due (with_changes now D) (map view rest)) ds why split r

-- owned paths have no fault
abbrev pub faultless : {X : Type 0} → X → Option Untold
faultless x = None

pub none_first : {X : Type 0} (xs : List X) → first_fault faultless xs ≡ None
none_first [] = refl
none_first (x ∷ xs) = none_first xs

-- ---- the end of a session

abbrev told_by : HistoryView → List (Option Text) → List Change
told_by kept paths = deletions is_some kept (map named paths)

owned_is : {A : Type 0} (made : BTreeMap ℤ (Vec Text A)) (s : ℤ) (paths : List (Option Text)) (kept told : HistoryView) (owned : List Text)
    → told ≡ with_changes kept (told_by kept paths) → owned ≡ paths_made made s → AreMade made kept
    → deletions (is_owned s) told (map path_of owned)
    ≡ deletions (is_owned s) (with_changes kept (told_by kept paths)) (made_in s (with_changes kept (told_by kept paths)).transactions)
owned_is made s paths kept told owned first is right =
    let D = told_by kept paths in
    ap (λ ps. deletions (is_owned s) told ps)
    (ap (map path_of) is ∙ right s ∙ sym (made_in-deletions s is_some kept (map named paths)))
    ∙ ap (λ k. deletions (is_owned s) k (made_in s (with_changes kept D).transactions)) first

pub closed_taken : {A : Type 0} (made : BTreeMap ℤ (Vec Text A)) (s : ℤ) (paths : List (Option Text)) (kept told : HistoryView)
    (owned : List Text) → told ≡ with_changes kept (deletions is_some kept (map named paths)) → owned ≡ paths_made made s
    → AreMade made kept → AreTaken kept (deletions is_some kept (map named paths))
    → AreTaken told (deletions (is_owned s) told (map path_of owned)) → AreTaken kept (close_changes s paths kept)
closed_taken made s paths kept told owned first is right taken then =
    let D = told_by kept paths in
    AreTaken-append kept D (deletions (is_owned s) (with_changes kept D) (made_in s (with_changes kept D).transactions)) taken
    (subst (λ k. AreTaken k (deletions (is_owned s) (with_changes kept D) (made_in s (with_changes kept D).transactions))) first
    (subst (λ cs. AreTaken told cs) (owned_is made s paths kept told owned first is right) then))

-- why what is told is not deleted
pub told_refused : (s : ℤ) (paths : List (Option Text)) (kept : HistoryView) (why : Untold)
    → Refuses (first_fault path_fault paths) kept (deletions is_some kept (map named paths)) why
    → Refuses (first_fault path_fault paths) kept (close_changes s paths kept) why
told_refused s paths kept why r =
    let f = first_fault path_fault paths in
    let D = told_by kept paths in
    refused_as f f kept kept D (close_changes s paths kept) why (λ x e. e)
    (λ t. (AreTaken-parts kept D (deletions (is_owned s) (with_changes kept D) (made_in s (with_changes kept D).transactions)) t).0) r

-- why what is owned is not deleted
pub owned_refused : {A : Type 0} (made : BTreeMap ℤ (Vec Text A)) (s : ℤ) (paths : List (Option Text)) (kept told : HistoryView)
    (owned : List Text) (why : Untold) → told ≡ with_changes kept (deletions is_some kept (map named paths)) → owned ≡ paths_made made s
    → AreMade made kept → Refuses None told (deletions (is_owned s) told (map path_of owned)) why
    → Refuses (first_fault path_fault paths) kept (close_changes s paths kept) why
owned_refused made s paths kept told owned why first is right r =
    let D = told_by kept paths in
    let E = deletions (is_owned s) (with_changes kept D) (made_in s (with_changes kept D).transactions) in
    refused_as None (first_fault path_fault paths) told kept (deletions (is_owned s) told (map path_of owned))
    (close_changes s paths kept) why
    (no_fault (first_fault path_fault paths))
    (λ t. subst (λ cs. AreTaken told cs) (sym (owned_is made s paths kept told owned first is right))
    (subst (λ k. AreTaken k E) (sym first) (AreTaken-parts kept D E t).1))
    r

-- ---- entries

pub told_more : {X : Type 0} (view : X → Logged) (entries : List X) (i : ℕ) (one : X) (kept after : HistoryView) (Whole : Type 0)
    → i < length entries → one ≡ get_or entries i one → after ≡ with_whole kept (transaction_of kept (view one)) → IsTold kept (view one)
    → (AreTold kept (map view (drop i entries)) → Whole) → AreTold after (map view (drop (i + 1) entries)) → Whole
told_more view entries i one kept after Whole within is then told so_far rest =
    so_far (subst (λ ys. AreTold kept (map view ys)) (sym (drop_next entries i one within is))
    (told, subst (λ k. AreTold k (map view (drop (i + 1) entries))) then rest))

pub stops_more : {X : Type 0} (view : X → Placed) (entries : List X) (i : ℕ) (one : X) (kept after : HistoryView) (Whole : UntoldEntry
    → Type 0)
    → i < length entries → one ≡ get_or entries i one → after ≡ with_whole kept (transaction_of kept (view one).entry)
    → IsTold kept (view one).entry
    → ((fault : UntoldEntry) → StopsAt kept (map view (drop i entries)) fault → Whole fault)
    → (fault : UntoldEntry) → StopsAt after (map view (drop (i + 1) entries)) fault → Whole fault
stops_more view entries i one kept after Whole within is then told so_far fault rest =
    so_far fault (subst (λ ys. StopsAt kept (map view ys) fault) (sym (drop_next entries i one within is))
    (inr (told, subst (λ k. StopsAt k (map view (drop (i + 1) entries)) fault) then rest)))

pub stops_here : {X : Type 0} (view : X → Placed) (entries : List X) (i : ℕ) (one : X) (kept : HistoryView) (fault : UntoldEntry)
    → i < length entries → one ≡ get_or entries i one → (view one).place ≡ fault.place → IsUntold kept (view one).entry fault.why
    → StopsAt kept (map view (drop i entries)) fault
stops_here view entries i one kept fault within is place why =
    subst (λ ys. StopsAt kept (map view ys) fault) (sym (drop_next entries i one within is)) (inl (place, why))

-- ---- outcomes

pub on_err : {T E : Type 0} (r : Result T E) (e : E) (P : E → Type 0) → IsErrAnd r (λ one. one ≡ e) → P e → IfErr r P
on_err (Ok x) e P is so = tt
on_err (Err one) e P is so = subst P (sym is) so

pub err_as : {X : Type 0} (r : Result X Untold) (f g : Option Untold) (kept whole : HistoryView) (cs ds : List Change)
    → ((x : Untold) → f ≡ Some x → g ≡ Some x) → (AreTaken whole ds → AreTaken kept cs)
    → IfErr r (Refuses f kept cs) → IfErr r (Refuses g whole ds)
err_as r f g kept whole cs ds fault taken e =
    MatchResult-weaker r e (λ x p. p) (λ why refused. refused_as f g kept whole cs ds why fault taken refused)

-- changes that are others by name
pub taken_by : (kept : HistoryView) (cs ds : List Change) → cs ≡ ds → AreTaken kept ds → AreTaken kept cs
taken_by kept cs ds same t = subst (AreTaken kept) (sym same) t

-- ---- the parts of a multi

pub whole_fault : (parts : List (Value part)) → list_any is_failed parts ≡ false → parts_fault parts ≡ first_fault part_fault parts
whole_fault parts e = cond-false (list_any is_failed parts) None (first_fault part_fault parts) e

pub whole_changes : (s : ℤ) (parts : List (Value part)) → list_any is_failed parts ≡ false → parts_changes s parts ≡ all_changes s parts
whole_changes s parts e = cond-false (list_any is_failed parts) [] (all_changes s parts) e

pub parts_left : {X : Type 0} (view : X → Value part) (s : ℤ) (parts : List X) (i : ℕ) (one : X) (g : Option Untold)
    (now after kept : HistoryView) (ds : List Change) → i < length parts → one ≡ get_or parts i one
    → part_fault (view one) ≡ None → AreTaken now (part_changes s (view one)) → after ≡ with_changes now (part_changes s (view one))
    → AreLeft (first_fault part_fault (map view (drop i parts))) now (all_changes s (map view (drop i parts))) g kept ds
    → AreLeft (first_fault part_fault (map view (drop (i + 1) parts))) after (all_changes s (map view (drop (i + 1) parts))) g kept ds
parts_left view s parts i one g now after kept ds within is none taken then left =
    let rest = map view (drop (i + 1) parts) in
    left_more (part_fault (view one)) (first_fault part_fault rest) g now after kept (part_changes s (view one)) (all_changes s rest) ds
    none taken then
    (subst (λ ys. AreLeft (first_fault part_fault (map view ys)) now (all_changes s (map view ys)) g kept ds)
    (drop_next parts i one within is) left)

pub parts_refused : {X : Type 0} (view : X → Value part) (s : ℤ) (parts : List X) (i : ℕ) (one : X) (g : Option Untold)
    (now kept : HistoryView) (ds : List Change) (why : Untold) → i < length parts → one ≡ get_or parts i one
    → AreLeft (first_fault part_fault (map view (drop i parts))) now (all_changes s (map view (drop i parts))) g kept ds
    → Refuses (part_fault (view one)) now (part_changes s (view one)) why → Refuses g kept ds why
parts_refused view s parts i one g now kept ds why within is left r =
    let rest = map view (drop (i + 1) parts) in
    left_refused (part_fault (view one)) (first_fault part_fault rest) g now kept (part_changes s (view one)) (all_changes s rest) ds why
    (subst (λ ys. AreLeft (first_fault part_fault (map view ys)) now (all_changes s (map view ys)) g kept ds)
    (drop_next parts i one within is) left)
    r
