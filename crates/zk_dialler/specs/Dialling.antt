-- When an attempt to connect is made, and when it is given up.
use Rattle.std.specs.Prelude.{◌≡◌, ◌≤◌, ◌+◌, ◌-◌, ◌/◌, ◌^◌, min, max, nat_le, ℕ, Bool, true, false, Option, Some, None, length, slice_index}
use Rattle.std.specs.Prelude.{if◌then◌else◌}
use Rattle.zk_dialler.specs.declared.dialler.Dialler.{Dialler}
use Rattle.zk_dialler.specs.declared.dialler.Phase.{Phase}
use Rattle.zk_dialler.specs.declared.dialler.Phase.TheVariants.{Waiting, Dialling, Open}
use Rattle.zk_dialler.specs.declared.dialler.DialDue.{DialDue}
use Rattle.zk_dialler.specs.declared.dialler.DialDue.TheVariants.{Dial, GiveUp}
use Rattle.zk_dialler.specs.declared.backoff.Backoff.{Backoff}
use Rattle.zk_dialler.specs.Backoffs.{refused_at, Attempts}
use Rattle.zk_dialler.specs.Orders.{is_empty_list, turn_at}

-- the moment at which something is to be done; without addresses there is none
abbrev pub first_moment : {A : Type 0} → Dialler A → Option ℕ
first_moment dialler = elim dialler.phase [
  | Waiting ↦ if is_empty_list dialler.ring.order.items then None else Some dialler.backoff.moment
  | Dialling began until ↦ Some until
  | Open ↦ None
]

abbrev pub has_come : (now : ℕ) → Option ℕ → Bool
has_come now None = false
has_come now (Some moment) = nat_le moment now

-- whether something is to be done at a moment
abbrev pub is_due : {A : Type 0} → (now : ℕ) → Dialler A → Bool
is_due now dialler = has_come now (first_moment dialler)

-- how long an attempt may take
abbrev pub attempt_ms : (timeout : ℕ) → ℕ
attempt_ms timeout = max (timeout / 3) 1000

-- whether there is a connection
abbrev pub is_open : Phase → Bool
is_open Open = true
is_open _ = false

-- whether there is none, and none is asked for
abbrev pub is_waiting : Phase → Bool
is_waiting Waiting = true
is_waiting _ = false

-- An address is dialled where there is no connection, and none is asked for, and not before its moment. It is the one whose turn it is.
pub record Dials {A : Type 0} (timeout now : ℕ) (old new : Dialler A) (place its : ℕ) : Type 0 where
  pub waiting : old.phase ≡ Waiting
  pub moment : old.backoff.moment ≤ now
  pub lasts : its ≡ attempt_ms timeout
  pub turn : place ≡ slice_index old.ring.order.items (turn_at old.ring.next (length old.ring.order.items))
  pub next : new.ring.next ≡ turn_at old.ring.next (length old.ring.order.items) + 1
  pub order : new.ring.order ≡ old.ring.order
  pub backoff : new.backoff ≡ old.backoff
  pub phase : new.phase ≡ Dialling now (min (now + its) (2 ^ 64 - 1))

-- An attempt ends, and the next one has its moment.
pub record AttemptEnds {A : Type 0} (timeout now began : ℕ) (then_is : Phase) (old new : Dialler A) : Type 0 where
  pub attempts : Attempts timeout began now old.backoff new.backoff
  pub ring : new.ring ≡ old.ring
  pub phase : new.phase ≡ then_is

-- The server refuses an attempt.
pub record IsRefused {A : Type 0} (timeout now began : ℕ) (old new : Dialler A) : Type 0 where
  pub counted : Backoff
  pub attempts : Attempts timeout began now old.backoff counted
  pub backoff : new.backoff ≡ refused_at (length old.ring.order.items) now counted
  pub ring : new.ring ≡ old.ring
  pub phase : new.phase ≡ Waiting

-- An attempt is given up at its end, and not before.
pub record GivesUp {A : Type 0} (timeout now : ℕ) (old new : Dialler A) : Type 0 where
  pub began : ℕ
  pub until : ℕ
  pub dialling : old.phase ≡ Dialling began until
  pub passed : until ≤ now
  pub ends : AttemptEnds timeout now began Waiting old new

-- What is done at a moment.
abbrev pub DialsWell : {A : Type 0} → (timeout now : ℕ) → (old new : Dialler A) → Option DialDue → Type 0
DialsWell timeout now old new None = new ≡ old
DialsWell timeout now old new (Some (Dial place its)) = Dials timeout now old new place its
DialsWell timeout now old new (Some GiveUp) = GivesUp timeout now old new

-- A connection is there. It is the one that was asked for, or nothing has changed.
abbrev pub Opens : {A : Type 0} → (timeout now : ℕ) → (old new : Dialler A) → (is_ours : Bool) → Type 0
Opens timeout now old new is_ours = elim old.phase [
  | Waiting ↦ is_ours ≡ false × new ≡ old
  | Dialling began until ↦ is_ours ≡ true × AttemptEnds timeout now began Open old new
  | Open ↦ is_ours ≡ false × new ≡ old
]

-- There is no connection any more, and none is asked for.
abbrev pub Ends : {A : Type 0} → (timeout now : ℕ) → (old new : Dialler A) → Type 0
Ends timeout now old new = elim old.phase [
  | Waiting ↦ new ≡ old
  | Dialling began until ↦ IsRefused timeout now began old new
  | Open ↦ new ≡ record old { phase = Waiting }
]
