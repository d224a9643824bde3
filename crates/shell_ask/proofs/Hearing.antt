-- What is heard of a driver, one thing after the other: it is the answer, the limit, or another thing after which the asking goes on.
use Rattle.std.proofs.Common.{◌≡◌, ℕ, Bool, Option, Some, None, refl, subst}
use Rattle.zk_client.specs.Views.{outcome_view}
use Rattle.zk_client.specs.declared.output.Outcome.{Outcome}
use Rattle.zk_agent.specs.Telling.{action_view}
use Rattle.zk_agent.specs.declared.action.Action.{Action}
use Rattle.zk_agent.specs.declared.action.Action.TheVariants as action
use Rattle.zk_driver.specs.Driving.{course_of, Course, Goes}
use Rattle.zk_driver.specs.declared.engine.Engine.{Engine}
use Rattle.zk_driver.proofs.Going.{after}
use Rattle.shell_ask.specs.Asking.{Answered, Coming, Hears, Late, Tells, answers, ends, goes_on, is_accepted, passes}

-- the action that is passed on is told
tells_it : {A S : Type 0} (old : Course A) (engine : Engine A S) (passed : Option (Action A)) (one : Action A)
    → Goes old (course_of engine passed)
    → passed ≡ Some one → Tells old (action_view one) (course_of engine None)
tells_it {A} old engine passed one goes is =
    (course_of engine (Some one), subst (λ (p : Option (Action A)). Goes old (course_of engine p)) is goes, refl, refl)

-- its answer
pub answered : {A S : Type 0} (ticket until : ℕ) (old : Course A) (engine : Engine A S) (passed : Option (Action A)) (outcome : Outcome A)
    → Goes old (course_of engine passed) → passed ≡ Some (action.Answer ticket outcome)
    → Hears ticket until (course_of engine None) old (Answered (outcome_view outcome))
answered ticket until old engine passed outcome goes is =
    answers old (outcome_view outcome) (tells_it old engine passed (action.Answer ticket outcome) goes is)

-- that its limit has come
pub late : {A S : Type 0} (ticket until : ℕ) (old : Course A) (engine : Engine A S) (passed : Option (Action A)) (was_sent : Bool)
    → Goes old (course_of engine passed) → passed ≡ Some (action.TimedOut ticket was_sent)
    → Hears ticket until (course_of engine None) old (Late was_sent (is_accepted (course_of engine None)))
late ticket until old engine passed was_sent goes is =
    ends old was_sent (tells_it old engine passed (action.TimedOut ticket was_sent) goes is)

-- moves that come before
sooner : {A : Type 0} (ticket until : ℕ) (old between new : Course A) (coming : Coming)
    → Goes old between → Hears ticket until new between coming → Hears ticket until new old coming
sooner ticket until old between new coming goes (answers at outcome tells) =
    answers old outcome (tells.0, after old between tells.0 goes tells.1, tells.2, tells.3)
sooner ticket until old between new coming goes (ends at was_sent tells) =
    ends old was_sent (tells.0, after old between tells.0 goes tells.1, tells.2, tells.3)
sooner ticket until old between new coming goes (passes at more come) = passes old (after old between new goes more) come
sooner ticket until old between new coming goes (goes_on at further told its tells hears) =
    goes_on old further told its (tells.0, after old between tells.0 goes tells.1, tells.2, tells.3) hears

-- another thing
pub later : {A S : Type 0} (ticket until : ℕ) (old : Course A) (engine : Engine A S) (passed : Option (Action A))
    (new : Course A) (coming : Coming)
    → Goes old (course_of engine passed) → Hears ticket until new (course_of engine None) coming → Hears ticket until new old coming
later ticket until old engine None new coming goes hears = sooner ticket until old (course_of engine None) new coming goes hears
later ticket until old engine (Some one) new coming goes hears =
    goes_on old (course_of engine None) (action_view one) coming (tells_it old engine (Some one) one goes refl) hears
