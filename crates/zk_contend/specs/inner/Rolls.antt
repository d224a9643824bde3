-- What contracts of private functions say of contenders that are found by their tickets.
use Rattle.std.specs.Prelude.{ℕ, ◌≡◌, nat_eq, List, Option, Some, None}
use Rattle.std.specs.Map.{update}
use Rattle.zk_conversation.specs.Calls.{Call}
use Rattle.zk_turns.specs.View.{View}
use Rattle.zk_contend.specs.declared.contender.LockContender.{LockContender}
use Rattle.zk_contend.specs.declared.place.Ask.{Ask}
use Rattle.zk_contend.specs.declared.status.LockStatus.{LockStatus}
use Rattle.zk_contend.specs.Collections.{unless_left, Hall}
use Rattle.zk_contend.specs.Dues.{call_asked}
use Rattle.zk_contend.specs.Standings.{news_of, told_after, IsOtherwise, TellsHeld}

-- The call asks this, and counts as asked.
abbrev pub AsksThis : {A : Type 0} → Ask → Option Call → (was is : LockContender A) → Type 0
AsksThis ask call was is = (call ≡ Some (call_asked was ask)) × (is ≡ record was { asked = Some ask })

-- what is told of one
abbrev pub with_told : {A : Type 0} → LockContender A → (told : LockStatus) → LockContender A
with_told was told = record was { told = told }

-- What there is to tell of the contender of a ticket, if it is there.
abbrev pub TellsOne : {A : Type 0} → View → (ticket : ℕ) → Option (LockContender A) → (result : Option LockStatus)
    → (old new : ℕ → Option (LockContender A)) → Type 0
TellsOne view ticket None result old new = (result ≡ None) × ((other : ℕ) → new other ≡ old other)
TellsOne view ticket (Some was) result old new =
    (stands : LockStatus) × TellsHeld view was stands × IsOtherwise view was stands × (result ≡ news_of was.told stands)
    × ((other : ℕ) → new other ≡ update nat_eq old ticket (Some (with_told was (told_after was.told (news_of was.told stands)))) other)

-- the contender, if it is there and has not left
abbrev pub still : {A : Type 0} → Option (LockContender A) → Option (LockContender A)
still None = None
still (Some contender) = unless_left contender

-- what is found by tickets, and what was told
abbrev pub hall : {A : Type 0} → (ℕ → Option (LockContender A)) → List (ℕ × LockStatus) → Hall A
hall one news = record { one = one; news = news }
