-- What is known step by step, and why a step stops.
use Rattle.std.proofs.Common.{◌≡◌, ℕ, ℤ, ◌+◌, ◌<◌, Bool, false, List, [], ◌∷◌, map, length, drop, get_or, Option, None}
use Rattle.std.proofs.Common.{Result, Ok, Err, refl, sym, ap, ◌∙◌, subst}
use Rattle.std.proofs.lemmas.Bool.{false≢true}
use Rattle.std.specs.Prelude.{IsTrue, ◌↔◌, IsErrAnd, IfOk, OnOk, IfErr}
use Rattle.std.specs.Option.{option_map}
use Rattle.std.proofs.lemmas.List.{map-id}
use Rattle.zk_nodes.specs.Path.{NodePath, Text, path_eq}
use Rattle.zk_nodes.specs.History.{Change}
use Rattle.zk_jute.specs.Lenient.{or_empty}
use Rattle.zk_jute.specs.declared.then.Then.{Then}
use Rattle.zk_jute.specs.declared.list.List.{List as Listed}
use Rattle.zk_log.specs.declared.txn.Txn.{Txn}
use Rattle.zk_log.specs.declared.txn.Txn.TheVariants as txn
use Rattle.zk_log.specs.Views.{kind_of, body_of, part_of}
use Rattle.zk_log.specs.Format.{Logged}
use Rattle.zk_log_history.specs.Known.{known_of, gone_told, left_by, end_told, parts_told, operation_told, entry_told}
use Rattle.zk_log_history.specs.Known.{Known, StopsBy, so_on, all_told, if_read, is_at, change_told, changes_told}
use Rattle.zk_log_history.specs.inner.Known.{Gives, Stops}
use Rattle.zk_log_history.specs.inner.Refused.{Unread}
use Rattle.zk_log_history.specs.declared.knowledge.Knowledge.{Knowledge}
use Rattle.zk_log_history.specs.declared.untold.Untold.{Untold}
use Rattle.zk_log_history.specs.declared.untold.UntoldEntry.{UntoldEntry}
use Rattle.zk_log_history.specs.declared.untold.Untold.TheVariants as untold
use Rattle.zk_log_history.proofs.Entries.{listed_as}
use Rattle.zk_log_history.proofs.KnownIsTrue.{ok_of}
use Rattle.zk_log_history.proofs.Refused.{drop_next}

-- ---- paths

pub at_root : (p q : NodePath) → p ≡ [] → is_at p q ≡ false
at_root [] q none = refl
at_root (name ∷ p) q none = cc

pub at_some : (p q : NodePath) → (p ≡ [] → ⊥) → is_at p q ≡ path_eq p q
at_some [] q some = absurd (some refl)
at_some (name ∷ p) q some = refl

pub at_told : (p q : NodePath) (root same : Bool) → root ≡ false → IsTrue root ↔ (p ≡ []) → same ≡ path_eq p q → same ≡ is_at p q
at_told [] q root same none iff is = absurd (false≢true (sym none ∙ iff.1 refl))
at_told (name ∷ p) q root same none iff is = is

-- ---- outcomes

pub if_ok : {X E : Type 0} (P : X → Type 0) (r : Result X E) (x : X) → r ≡ Ok x → IfOk r P → P x
if_ok P r x is p = subst (λ y. IfOk y P) is p

pub on_ok : {X E : Type 0} (P : Type 0) (r : Result X E) (x : X) → r ≡ Ok x → OnOk r P → P
on_ok P r x is p = subst (λ y. OnOk y P) is p

pub if_err : {X E : Type 0} (P : E → Type 0) (r : Result X E) (e : E) → r ≡ Err e → IfErr r P → P e
if_err P r e is p = subst (λ y. IfErr y P) is p

-- ---- steps

pub gives_as : {A : Type 0} (r : Result (Knowledge A) Untold) (told other : Result Known Untold) → told ≡ other → Gives r told
    → Gives r other
gives_as r told other same gives = subst (Gives r) same gives

pub stops_as : {S : Type 0} (told other : Result S Untold) (why : Untold) → told ≡ other → Stops told why → Stops other why
stops_as told other why same stops = subst (λ r. Stops r why) same stops

pub gives_err : {A : Type 0} (r : Result (Knowledge A) Untold) (why : Untold) (told : Result Known Untold)
    → IsErrAnd r (λ one. one ≡ why) → Stops told why → Gives r told
gives_err (Ok known) why told is stops = absurd is
gives_err (Err one) why told is stops = subst (λ y. Stops told y) (sym is) stops

-- what is not read stops
pub unread_stops : (fault : Option Untold) (told : Result Known Untold) (why : Untold) → Unread fault why → Stops (if_read fault told) why
unread_stops fault told (untold.Path x) is = ap (λ f. if_read f told) is
unread_stops fault told (untold.Part x) is = ap (λ f. if_read f told) is
unread_stops fault told untold.Order is = absurd is
unread_stops fault told untold.Missing is = absurd is
unread_stops fault told untold.Illegal is = absurd is
unread_stops fault told untold.Memory is = tt

pub read_as : (fault : Option Untold) (told : Result Known Untold) → fault ≡ None → told ≡ if_read fault told
read_as fault told none = sym (ap (λ f. if_read f told) none)

-- a single change
pub one_told : (p : NodePath) (e : Logged) (c : Change) (now : Known) → change_told p e c now ≡ changes_told p e (c ∷ []) now
one_told p e c now = go (change_told p e c now) where
  go : (r : Result Known Untold) → r ≡ so_on r (changes_told p e [])
  go (Ok known) = refl
  go (Err why) = refl

pub one_gives : {A : Type 0} (p : NodePath) (e : Logged) (c : Change) (now : Known) (r : Result (Knowledge A) Untold)
    → Gives r (change_told p e c now) → Gives r (changes_told p e (c ∷ []) now)
one_gives p e c now r gives = gives_as r (change_told p e c now) (changes_told p e (c ∷ []) now) (one_told p e c now) gives

-- the changes that are listed are those of the entry
pub read_changes : {A : Type 0} (p : NodePath) (e : Logged) (fault : Option Untold) (cs ds : List Change) (now : Known)
    (r : Result (Knowledge A) Untold) → fault ≡ None → cs ≡ ds → Gives r (changes_told p e cs now)
    → Gives r (if_read fault (changes_told p e ds now))
read_changes p e fault cs ds now r none same gives =
    gives_as r (changes_told p e cs now) (if_read fault (changes_told p e ds now))
    (ap (λ xs. changes_told p e xs now) same ∙ read_as fault (changes_told p e ds now) none) gives

-- ---- one after another

pub so_stops : {S : Type 0} (r : Result S Untold) (more : S → Result S Untold) (why : Untold) → Stops r why → Stops (so_on r more) why
so_stops r more (untold.Path x) is = ap (λ y. so_on y more) is
so_stops r more (untold.Part x) is = ap (λ y. so_on y more) is
so_stops r more untold.Order is = ap (λ y. so_on y more) is
so_stops r more untold.Missing is = ap (λ y. so_on y more) is
so_stops r more untold.Illegal is = ap (λ y. so_on y more) is
so_stops r more untold.Memory is = tt

pub so_stops_by : {S : Type 0} (r : Result S UntoldEntry) (more : S → Result S UntoldEntry) (fault : UntoldEntry) (why : Untold)
    → StopsBy r fault why → StopsBy (so_on r more) fault why
so_stops_by r more fault (untold.Path x) is = ap (λ y. so_on y more) is
so_stops_by r more fault (untold.Part x) is = ap (λ y. so_on y more) is
so_stops_by r more fault untold.Order is = ap (λ y. so_on y more) is
so_stops_by r more fault untold.Missing is = ap (λ y. so_on y more) is
so_stops_by r more fault untold.Illegal is = ap (λ y. so_on y more) is
so_stops_by r more fault untold.Memory is = tt

-- one more is told
pub told_more : {X Y S E : Type 0} (view : X → Y) (step : Y → S → Result S E) (xs : List X) (i : ℕ) (x : X) (now after : S)
    (whole : Result S E) → i < length xs → x ≡ get_or xs i x → step (view x) now ≡ Ok after
    → all_told step (map view (drop i xs)) now ≡ whole → all_told step (map view (drop (i + 1) xs)) after ≡ whole
told_more view step xs i x now after whole within is then so_far =
    sym (ap (λ r. so_on r (all_told step (map view (drop (i + 1) xs)))) then)
    ∙ sym (ap (λ ys. all_told step (map view ys) now) (drop_next xs i x within is)) ∙ so_far

-- or it stops there
pub told_stops : {X Y S : Type 0} (view : X → Y) (step : Y → S → Result S Untold) (xs : List X) (i : ℕ) (x : X) (now : S)
    (whole : Result S Untold) (why : Untold) → i < length xs → x ≡ get_or xs i x → Stops (step (view x) now) why
    → all_told step (map view (drop i xs)) now ≡ whole → Stops whole why
told_stops view step xs i x now whole why within is stops so_far =
    stops_as (so_on (step (view x) now) (all_told step (map view (drop (i + 1) xs)))) whole why
    (sym (ap (λ ys. all_told step (map view ys) now) (drop_next xs i x within is)) ∙ so_far)
    (so_stops (step (view x) now) (all_told step (map view (drop (i + 1) xs))) why stops)

pub told_stops_by : {X Y S : Type 0} (view : X → Y) (step : Y → S → Result S UntoldEntry) (xs : List X) (i : ℕ) (x : X) (now : S)
    (whole : Result S UntoldEntry) (fault : UntoldEntry) → i < length xs → x ≡ get_or xs i x
    → StopsBy (step (view x) now) fault fault.why
    → all_told step (map view (drop i xs)) now ≡ whole → StopsBy whole fault fault.why
told_stops_by view step xs i x now whole fault within is stops so_far =
    subst (λ r. StopsBy r fault fault.why) (sym (ap (λ ys. all_told step (map view ys) now) (drop_next xs i x within is)) ∙ so_far)
    (so_stops_by (step (view x) now) (all_told step (map view (drop (i + 1) xs))) fault fault.why stops)

-- ---- entries

pub gives_ok : {A : Type 0} (r : Result (Knowledge A) Untold) (told : Result Known Untold) (known : Knowledge A) → r ≡ Ok known
    → Gives r told → told ≡ Ok (known_of known)
gives_ok r told known is gives = subst (λ y. Gives y told) is gives

pub ended : (p : NodePath) (e : Logged) (paths : List (Option Text)) (now mid after : Known) (s : ℤ) → s ≡ e.session
    → all_told (gone_told p) paths now ≡ Ok mid → after ≡ left_by s mid → end_told p e paths now ≡ Ok after
ended p e paths now mid after s same gone left =
    ap (λ r. so_on r (λ told. ok_of (left_by e.session told))) gone
    ∙ ap ok_of (sym (left ∙ ap (λ (n : ℤ). left_by n mid) same))

pub multi_told : {A : Type 0} (p : NodePath) (e : Logged) (now : Known) (one : Txn A)
    (parts : Listed (Then ℤ (Option (List ℕ))) A) (items : List (Then ℤ (Option (List ℕ)))) (r : Result (Knowledge A) Untold)
    → one ≡ txn.Multi parts → items ≡ or_empty (option_map (λ v. v.items) parts.elements)
    → Gives r (parts_told p e (map part_of items) now) → Gives r (entry_told p e (kind_of one) (body_of one) now)
multi_told p e now one parts items r is all gives =
    gives_as r (parts_told p e (map part_of items) now) (entry_told p e (kind_of one) (body_of one) now)
    (ap (λ ps. parts_told p e ps now) (ap (map part_of) all ∙ listed_as (λ v. v.items) part_of parts.elements)
    ∙ ap (λ t. entry_told p e (kind_of t) (body_of t) now) (sym is))
    gives

pub closed_told : {A : Type 0} (p : NodePath) (e : Logged) (now : Known) (one : Txn A) (paths : Listed (Option (List ℕ)) A)
    (items : List (Option (List ℕ))) (r : Result (Knowledge A) Untold) → one ≡ txn.CloseSession paths
    → items ≡ or_empty (option_map (λ v. v.items) paths.elements)
    → Gives r (end_told p e items now) → Gives r (entry_told p e (kind_of one) (body_of one) now)
closed_told p e now one paths items r is all gives =
    gives_as r (end_told p e items now) (entry_told p e (kind_of one) (body_of one) now)
    (ap (λ ps. end_told p e ps now) (all ∙ sym (map-id _) ∙ listed_as (λ v. v.items) (λ t. t) paths.elements)
    ∙ ap (λ t. entry_told p e (kind_of t) (body_of t) now) (sym is))
    gives

pub rest_told : {A : Type 0} (p : NodePath) (e : Logged) (now : Known) (one : Txn A) (r : Result (Knowledge A) Untold)
    → ((parts : Listed (Then ℤ (Option (List ℕ))) A) → one ≡ txn.Multi parts → ⊥)
    → ((paths : Listed (Option (List ℕ)) A) → one ≡ txn.CloseSession paths → ⊥) → (one ≡ txn.CloseSessionAlone → ⊥)
    → Gives r (operation_told p e (kind_of one) (body_of one) now) → Gives r (entry_told p e (kind_of one) (body_of one) now)
rest_told p e now (txn.Multi parts) r multi close alone gives = absurd (multi parts refl)
rest_told p e now (txn.CloseSession paths) r multi close alone gives = absurd (close paths refl)
rest_told p e now txn.CloseSessionAlone r multi close alone gives = absurd (alone refl)
rest_told p e now _ r multi close alone gives = gives
