-- What was told last is how a contender stands, as to whether it holds.
use Rattle.std.proofs.Common.{ℤ, ◌≡◌, Bool, true, false, Some, None, if◌then◌else◌, refl, sym, subst}
use Rattle.std.specs.Ordering.{int_eq}
use Rattle.std.proofs.lemmas.Bool.Decides.{Decides-int_eq}
use Rattle.zk_turns.specs.View.{View}
use Rattle.zk_contend.specs.declared.contender.LockContender.{LockContender}
use Rattle.zk_contend.specs.declared.refused.Obstacle.{Obstacle}
use Rattle.zk_contend.specs.declared.status.LockStatus.{LockStatus}
use Rattle.zk_contend.specs.declared.status.LockStatus.TheVariants.{Contends, Waits, Holds, Refused, GivenUp}
use Rattle.zk_contend.specs.Standings.{TellsHeld, news_of, told_after, is_same_refusal, without_refusal}

-- the same or the new
either_told : {A : Type 0} (view : View) (contender : LockContender A) (told stands : LockStatus) (same : Bool)
    → (same ≡ true → TellsHeld view contender told) → TellsHeld view contender stands
    → TellsHeld view contender (told_after told (if same then None else Some stands))
either_told view contender told stands true before after = before refl
either_told view contender told stands false before after = after

pub told_held : {A : Type 0} (view : View) (contender : LockContender A) (told stands : LockStatus)
    → TellsHeld view contender stands → TellsHeld view contender (told_after told (news_of told stands))
told_held view contender (Holds token) Contends h = h
told_held view contender Contends Contends h = h
told_held view contender Waits Contends h = h
told_held view contender (Refused why) Contends h = h
told_held view contender GivenUp Contends h = h
told_held view contender Waits Waits h = h
told_held view contender Contends Waits h = h
told_held view contender (Holds token) Waits h = h
told_held view contender (Refused why) Waits h = h
told_held view contender GivenUp Waits h = h
told_held view contender GivenUp GivenUp h = h
told_held view contender Contends GivenUp h = h
told_held view contender (Holds token) GivenUp h = h
told_held view contender (Refused why) GivenUp h = h
told_held view contender Waits GivenUp h = h
told_held view contender (Refused why) (Refused other) h =
    either_told view contender (Refused why) (Refused other) (is_same_refusal why other) (λ same. h) h
told_held view contender Contends (Refused other) h = h
told_held view contender (Holds token) (Refused other) h = h
told_held view contender Waits (Refused other) h = h
told_held view contender GivenUp (Refused other) h = h
told_held view contender (Holds token) (Holds other) h =
    either_told view contender (Holds token) (Holds other) (int_eq token other)
    (λ same. subst (λ (t : ℤ). TellsHeld view contender (Holds t)) (sym ((Decides-int_eq token other).0 same)) h) h
told_held view contender Contends (Holds other) h = h
told_held view contender Waits (Holds other) h = h
told_held view contender (Refused why) (Holds other) h = h
told_held view contender GivenUp (Holds other) h = h

-- a refusal is told, once one that was told is forgotten
pub told_again : (told : LockStatus) (why : Obstacle) → news_of (without_refusal told) (Refused why) ≡ Some (Refused why)
told_again Contends why = refl
told_again Waits why = refl
told_again (Holds token) why = refl
told_again (Refused other) why = refl
told_again GivenUp why = refl
