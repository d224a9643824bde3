-- Contenders by their tickets: what becomes of each.
use Rattle.std.specs.Prelude.{ℕ, ℤ, ◌≡◌, ◌⊎◌, ◌+◌, ◌++◌, ◌∷◌, [], Bool, true, false, ◌||◌, nat_eq, nat_lt, min}
use Rattle.std.specs.Prelude.{fold, IfSome, is_some, List, Option, Some, None, option_map, if◌then◌else◌}
use Rattle.std.specs.List.{list_any}
use Rattle.std.specs.Map.{update}
use Rattle.indexmap.specs.IndexMap.{get}
use Rattle.zk_nodes.specs.Path.{Text}
use Rattle.zk_conversation.specs.Calls.{Call}
use Rattle.zk_turns.specs.Turns.{Outcome}
use Rattle.zk_turns.specs.View.{View}
use Rattle.zk_contend.specs.declared.collection.Contenders.{Contenders}
use Rattle.zk_contend.specs.declared.contender.LockContender.{LockContender}
use Rattle.zk_contend.specs.declared.status.LockStatus.{LockStatus}
use Rattle.zk_contend.specs.Contenders.{has_left, is_about, own_of, IsAsked, IsHeard}
use Rattle.zk_contend.specs.Dues.{IsAsleep, IsAtRest}
use Rattle.zk_contend.specs.Standings.{news_of, told_after, IsOtherwise, ShowsContender, TellsHeld}

-- ---- whom a ticket names

-- the contender of a ticket, if there is one
abbrev pub one_of : {A : Type 0} → Contenders A → (ticket : ℕ) → Option (LockContender A)
one_of contenders ticket = get nat_eq contenders.all ticket

-- the ticket of the contender that asked the call of a ticket, if that was not heard of
abbrev pub asker_of : {A : Type 0} → Contenders A → (call : ℕ) → Option ℕ
asker_of contenders call = get nat_eq contenders.calls.askers call

abbrev pub is_in : (ticket : ℕ) → List ℕ → Bool
is_in ticket tickets = list_any (nat_eq ticket) tickets

-- Contenders that are looked at by the next call that is due.
abbrev pub is_awake : {A : Type 0} → Contenders A → (ticket : ℕ) → Bool
is_awake contenders ticket = is_in ticket contenders.stirred.awake.items

-- Contenders that are looked at by the next news.
abbrev pub is_untold : {A : Type 0} → Contenders A → (ticket : ℕ) → Bool
is_untold contenders ticket = is_in ticket contenders.stirred.untold.items

-- ---- what becomes of each

-- At the ticket this becomes of one, if there is one. Elsewhere nothing does.
abbrev pub IsChanged : {X : Type 0} → (is_it : Bool) → (becomes : (was is : X) → Type 0) → (old new : Option X) → Type 0
IsChanged false becomes old new = new ≡ old
IsChanged true becomes None new = new ≡ None
IsChanged {X} true becomes (Some was) new = (is : X) × (new ≡ Some is) × becomes was is

-- One contender becomes this; each other stays as it was.
abbrev pub Changes : {A : Type 0} → (ticket : ℕ) → (becomes : (was is : LockContender A) → Type 0) → (old new : Contenders A) → Type 0
Changes ticket becomes old new = (other : ℕ) → IsChanged (nat_eq ticket other) becomes (one_of old other) (one_of new other)

-- Each becomes this.
abbrev pub ChangesEach : {A : Type 0} → (change : LockContender A → LockContender A) → (old new : Contenders A) → Type 0
ChangesEach change old new = (ticket : ℕ) → one_of new ticket ≡ option_map change (one_of old ticket)

-- Each stays as it was.
abbrev pub AreSame : {A : Type 0} → (old new : Contenders A) → Type 0
AreSame old new = (ticket : ℕ) → one_of new ticket ≡ one_of old ticket

-- No call is asked or heard of.
pub record KeepsCalls {A : Type 0} (old new : Contenders A) : Type 0 where
  pub calls : (call : ℕ) → asker_of new call ≡ asker_of old call
  pub next : new.calls.next ≡ old.calls.next

-- No call is to be heard of any more.
pub record ForgetsCalls {A : Type 0} (old new : Contenders A) : Type 0 where
  pub calls : (call : ℕ) → asker_of new call ≡ None
  pub next : new.calls.next ≡ old.calls.next

-- Each that is looked at still is, and so is the contender of this ticket.
pub record Stirs {A : Type 0} (ticket : ℕ) (old new : Contenders A) : Type 0 where
  pub awake : (other : ℕ) → is_awake new other ≡ (is_awake old other || nat_eq other ticket)
  pub untold : (other : ℕ) → is_untold new other ≡ (is_untold old other || nat_eq other ticket)

-- The same if it is so, and else who is looked at stays.
abbrev pub StirsIf : {A : Type 0} → (is_so : Bool) → (ticket : ℕ) → (old new : Contenders A) → Type 0
StirsIf true ticket old new = Stirs ticket old new
StirsIf false ticket old new = new.stirred ≡ old.stirred

-- Each contender is looked at.
pub record StirsAll {A : Type 0} (new : Contenders A) : Type 0 where
  pub awake : (ticket : ℕ) → is_some (one_of new ticket) ≡ true → is_awake new ticket ≡ true
  pub untold : (ticket : ℕ) → is_some (one_of new ticket) ≡ true → is_untold new ticket ≡ true

-- ---- one

-- The token, if the session holds by a contender that is there.
abbrev pub ShowsOne : {A : Type 0} → View → Option (LockContender A) → (token : Option ℤ) → Type 0
ShowsOne view None token = token ≡ None
ShowsOne view (Some contender) (Some token) = ShowsContender view contender token
ShowsOne view (Some contender) None = (token : ℤ) → ¬ (ShowsContender view contender token)

-- How a contender stands that is there.
abbrev pub StandsOne : {A : Type 0} → View → Option (LockContender A) → (stands : Option LockStatus) → Type 0
StandsOne view None stands = stands ≡ None
StandsOne view (Some contender) None = ⊥
StandsOne view (Some contender) (Some stands) = TellsHeld view contender stands × IsOtherwise view contender stands

-- the path of its place, if it is there and that is known
abbrev pub own_at : {A : Type 0} → Option (LockContender A) → Option Text
own_at None = None
own_at (Some contender) = own_of contender.place

-- ---- joining

-- One joins if no other has the ticket.
abbrev pub Joins : {A : Type 0} → (ticket : ℕ) → LockContender A → (is_new : Bool) → (old new : Contenders A) → Type 0
Joins ticket contender true old new = (other : ℕ) → one_of new other ≡ update nat_eq (one_of old) ticket (Some contender) other
Joins ticket contender false old new = AreSame old new

-- ---- answers

-- The call of this ticket is heard of: by the contender that asked it, if it is there, and by no other.
abbrev pub HearsBy : {A : Type 0} → View → (now : ℕ) → Outcome → (asker : Option ℕ) → (old new : Contenders A) → Type 0
HearsBy view now outcome None old new = AreSame old new
HearsBy view now outcome (Some ticket) old new = Changes ticket (IsHeard view now outcome) old new × Stirs ticket old new

pub record Hears {A : Type 0} (view : View) (now : ℕ) (call : ℕ) (outcome : Outcome) (old new : Contenders A) : Type 0 where
  pub heard : HearsBy view now outcome (asker_of old call) old new
  pub calls : (other : ℕ) → asker_of new other ≡ update nat_eq (asker_of old) call None other
  pub next : new.calls.next ≡ old.calls.next

-- ---- reports

-- Each that is looked at still is, and so is each that the report is about.
pub record StirsAbout {A : Type 0} (path : Text) (old new : Contenders A) : Type 0 where
  pub awake : (ticket : ℕ) → is_awake old ticket ≡ true → is_awake new ticket ≡ true
  pub untold : (ticket : ℕ) → is_untold old ticket ≡ true → is_untold new ticket ≡ true
  pub awake_now : (ticket : ℕ) → IfSome (one_of old ticket) (λ one. is_about path one ≡ true → is_awake new ticket ≡ true)
  pub untold_now : (ticket : ℕ) → IfSome (one_of old ticket) (λ one. is_about path one ≡ true → is_untold new ticket ≡ true)

-- ---- calls

-- It is looked at by the next call too, or it sleeps.
abbrev pub StaysAwake : {A : Type 0} → View → (old new : Contenders A) → Type 0
StaysAwake view old new = (ticket : ℕ) → is_awake old ticket ≡ true
    → (is_awake new ticket ≡ true) ⊎ IfSome (one_of new ticket) (IsAsleep view)

-- One contender asks its call, by a ticket that no other call has or had.
pub record Asks {A : Type 0} (view : View) (now : ℕ) (number : ℕ) (call : Call) (old new : Contenders A) : Type 0 where
  pub ticket : ℕ
  pub there : is_some (one_of old ticket) ≡ true
  pub asked : Changes ticket (λ was is. IsAsked view now was call is) old new
  pub calls : (other : ℕ) → asker_of new other ≡ update nat_eq (asker_of old) number (Some ticket) other
  pub is_next : number ≡ old.calls.next
  pub next : new.calls.next ≡ old.calls.next + 1

-- Of each contender that is looked at none is due.
abbrev pub AreAtRest : {A : Type 0} → View → (now : ℕ) → Contenders A → Type 0
AreAtRest view now contenders = (ticket : ℕ) → is_awake contenders ticket ≡ true → IfSome (one_of contenders ticket) (IsAtRest view now)

-- ---- news

-- the contender, unless it has left
abbrev pub unless_left : {A : Type 0} → LockContender A → Option (LockContender A)
unless_left contender = if has_left contender then None else Some contender

-- The contenders, and what was told of them.
pub record Hall (A : Type 0) : Type 0 where
  pub one : (ticket : ℕ) → Option (LockContender A)
  pub news : List (ℕ × LockStatus)

abbrev pub hall_of : {A : Type 0} → Contenders A → List (ℕ × LockStatus) → Hall A
hall_of contenders news = record { one = one_of contenders; news = news }

abbrev pub news_at : (ticket : ℕ) → Option LockStatus → List (ℕ × LockStatus)
news_at ticket None = []
news_at ticket (Some stands) = (ticket, stands) ∷ []

-- What there is to tell of one contender is told, as it tells it. It is there no more once that it is given up is told and no call of it
-- is under way.
pub record TellsOf {A : Type 0} (view : View) (ticket : ℕ) (was : LockContender A) (old new : Hall A) : Type 0 where
  pub stands : LockStatus
  pub held : TellsHeld view was stands
  pub otherwise : IsOtherwise view was stands
  pub news : new.news ≡ old.news ++ news_at ticket (news_of was.told stands)
  pub told : (other : ℕ) → new.one other
      ≡ update nat_eq old.one ticket (unless_left (record was { told = told_after was.told (news_of was.told stands) })) other

abbrev pub TellsIf : {A : Type 0} → View → (ticket : ℕ) → Option (LockContender A) → (old new : Hall A) → Type 0
TellsIf view ticket None old new = ((other : ℕ) → new.one other ≡ old.one other) × (new.news ≡ old.news)
TellsIf view ticket (Some was) old new = TellsOf view ticket was old new

abbrev pub TellsAt : {A : Type 0} → View → (old : Hall A) → (ticket : ℕ) → (new : Hall A) → Type 0
TellsAt view old ticket new = TellsIf view ticket (old.one ticket) old new

-- ---- moments

-- when the pause after a refusal is over
abbrev pub until_of : {A : Type 0} → Option (LockContender A) → Option ℕ
until_of None = None
until_of (Some contender) = option_map (λ refused. refused.until) contender.refused

abbrev pub sooner : (first other : Option ℕ) → Option ℕ
sooner None other = other
sooner (Some first) None = Some first
sooner (Some first) (Some other) = Some (min first other)

-- The first moment at which a pause of one that is looked at is over.
abbrev pub first_until : {A : Type 0} → Contenders A → Option ℕ
first_until contenders =
    fold (λ first ticket. sooner first (until_of (one_of contenders ticket))) None contenders.stirred.awake.items

-- Where none is due now, none is before the deadline.
abbrev pub NothingBefore : (A : Type 0) → Type 0
NothingBefore A = (view : View) (contenders : Contenders A) (now moment : ℕ) → AreAtRest view now contenders
    → ((first : ℕ) → first_until contenders ≡ Some first → nat_lt moment first ≡ true) → AreAtRest view moment contenders
