-- What actions ask for, carried out one by one: what is done so far and what is left are all.
use Rattle.std.proofs.Common.{◌≡◌, ◌++◌, append_assoc, append-nil, ℕ, Bool, true, false, List, [], ◌∷◌, Vec, arith, length, refl, sym, ap}
use Rattle.std.proofs.Common.{◌∙◌}
use Rattle.std.specs.Prelude.{Option, Result, Ok, Err, OnOk, OnErr, if◌then◌else◌, fold, is_some}
use Rattle.zk_agent.specs.Telling.{Told, action_view, told_by}
use Rattle.zk_agent.specs.declared.action.Action.{Action}
use Rattle.zk_agent.specs.declared.action.Action.TheVariants as action
use Rattle.zk_driver.specs.Driving.{ChannelView, Extends, carried, is_passed}
use Rattle.std.specs.List.{filter}
use Rattle.std.proofs.lemmas.List.{map-append}
use Rattle.std.proofs.lemmas.List.Elements.{filter-append}

pub always : {X E : Type 0} (P : Type 0) (result : Result X E) → P → OnOk result P
always P (Ok x) p = p
always P (Err e) p = tt

pub always_err : {X E : Type 0} (P : Type 0) (result : Result X E) → P → OnErr result P
always_err P (Ok x) p = tt
always_err P (Err e) p = p

pub on_ok : {X E : Type 0} (P Q : Type 0) (result : Result X E) → (P → Q) → OnOk result P → OnOk result Q
on_ok P Q (Ok x) to p = to p
on_ok P Q (Err e) to p = tt

-- an action that asks for nothing about the connection
pub left_alone : {A : Type 0} (it : Action A) → ((place within : ℕ) → it ≡ action.Dial place within → ⊥) → (it ≡ action.HangUp → ⊥)
    → ((bytes : Vec ℕ A) → it ≡ action.Send bytes → ⊥)
    → (channel : ChannelView) → carried channel (action_view it) ≡ channel
left_alone (action.Dial place within) dial hang_up send channel = absurd (dial place within refl)
left_alone action.HangUp dial hang_up send channel = absurd (hang_up refl)
left_alone (action.Send bytes) dial hang_up send channel = absurd (send bytes refl)
left_alone _ dial hang_up send channel = refl

pub passed_on : {A : Type 0} (it : Action A) → ((place within : ℕ) → it ≡ action.Dial place within → ⊥) → (it ≡ action.HangUp → ⊥)
    → ((bytes : Vec ℕ A) → it ≡ action.Send bytes → ⊥)
    → action_view it ∷ [] ≡ filter is_passed (action_view it ∷ [])
passed_on (action.Dial place within) dial hang_up send = absurd (dial place within refl)
passed_on action.HangUp dial hang_up send = absurd (hang_up refl)
passed_on (action.Send bytes) dial hang_up send = absurd (send bytes refl)
passed_on _ dial hang_up send = refl

-- one more of a list that is used up: what is kept of it
pub kept_more : {X : Type 0} (test : X → Bool) (before now all : List X) (x : X) (rest xs : List X)
    → xs ≡ x ∷ rest → now ≡ before ++ filter test (x ∷ [])
    → before ++ filter test xs ≡ all → now ++ filter test rest ≡ all
kept_more test before now all x rest xs is told so_far =
    ap (λ l. l ++ filter test rest) told ∙ append_assoc before (filter test (x ∷ [])) (filter test rest)
    ∙ ap (λ l. before ++ l) (sym (filter-append test (x ∷ []) rest)) ∙ ap (λ l. before ++ filter test l) (sym is) ∙ so_far

-- and what it makes of something
pub made_more : {X Y : Type 0} (make : Y → X → Y) (before now all : Y) (x : X) (rest xs : List X)
    → xs ≡ x ∷ rest → now ≡ make before x → fold make before xs ≡ all → fold make now rest ≡ all
made_more make before now all x rest xs is made so_far = ap (λ y. fold make y rest) made ∙ ap (fold make before) (sym is) ∙ so_far

-- more, and more after that
pub extends_on : (old between new : List Told) → Extends old between → Extends between new → Extends old new
extends_on old between new first rest =
    (first.0 ++ rest.0, rest.1 ∙ ap (λ l. l ++ rest.0) first.1 ∙ append_assoc old first.0 rest.0)

-- of nothing anything is more
pub extends_none : (old new : List Told) → old ≡ [] → Extends old new
extends_none old new none = (new, ap (λ l. l ++ new) (sym none))

-- one more at the end, or none
pub extends_by : {A : Type 0} (is_more : Bool) (old new : List (Action A)) (it : Action A) → new ≡ (if is_more then old ++ it ∷ [] else old)
    → Extends (told_by old) (told_by new)
extends_by true old new it is = (action_view it ∷ [], ap told_by is ∙ map-append action_view old (it ∷ []))
extends_by false old new it is = ([], ap told_by is ∙ sym (append-nil (told_by old)))

-- a stream that is there after more is the one that was there
pub stays_on : {S : Type 0} (a b c : Option S) → (is_some b ≡ true → b ≡ a) → (is_some c ≡ true → c ≡ b) → is_some c ≡ true → c ≡ a
stays_on a b c first rest there = rest there ∙ first (sym (ap is_some (rest there)) ∙ there)

-- what has no length is nothing
pub none_of : {X : Type 0} (xs : List X) → length xs ≡ 0 → xs ≡ []
none_of [] none = refl
none_of (x ∷ xs) none = absurd (omega (arith, none))
