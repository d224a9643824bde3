-- How far the next ticket of nodes is, use by use: no further from 2^63 than there were told to be taken on. So the tickets that were told
-- are below those of the calls that contenders ask.
use Rattle.std.proofs.Common.{◌≡◌, ◌++◌, ◌∷◌, ◌+◌, ◌<◌, ◌≤◌, ℕ, zero, suc, ℤ, pos, negsuc, true, false, List, [], Option, Some, None, max}
use Rattle.std.proofs.Common.{arith, refl, sym, ap, subst, ◌∙◌}
use Rattle.std.specs.Prelude.{◌^◌, ⊤, Result, Ok, Err, unsigned_abs}
use Rattle.std.specs.List.{flat_map, AllByRecursion}
use Rattle.std.specs.declared.alloc.Global.{Global}
use Rattle.zk_frames.specs.declared.limits.FrameLimits.{FrameLimits}
use Rattle.zk_turns.specs.Turns.{Start, new_start}
use Rattle.zk_turns.specs.View.{view_at}
use Rattle.zk_client.specs.SavedSessions.{PutAway, bytes_read}
use Rattle.zk_client.specs.declared.saved_fault.SavedFault.{SavedFault}
use Rattle.zk_trees.specs.Tending.{are_at_rest, Footing, TakesOn, TreeTold}
use Rattle.zk_trees.specs.declared.tree.Trees.{Trees}
use Rattle.zk_agent.specs.Telling.{told_by, trees_in, Told, TellsTree}
use Rattle.zk_agent.specs.Trees.{Alters, GoesOn}
use Rattle.zk_agent.specs.declared.action.Action.{Action}
use Rattle.zk_agent.specs.declared.agent.Agent.{Agent}
use Rattle.zk_agent.specs.declared.input.AgentInput.{AgentInput}
use Rattle.zk_agent.specs.declared.input.AgentInput.TheVariants as input
use Rattle.ffi_device.specs.Chains.{first_own, IsOwn, Part, TookAll}
use Rattle.ffi_device.specs.Happenings.{Happening, happening}
use Rattle.ffi_device.specs.Happenings as happens
use Rattle.ffi_device.specs.Refused.{RefusesTimeout}
use Rattle.ffi_device.specs.Sessions.{put_start}
use Rattle.ffi_device.specs.Steps.{BeginsWith, Stepped, Stopped, within}
use Rattle.ffi_device.specs.declared.device.Device.{Device}
use Rattle.ffi_device.specs.declared.flat.Flat.{Flat}
use Rattle.ffi_c.specs.Held.{ForgetsStale, Makes, Tells, TellsAll}
use Rattle.ffi_c.specs.Lives.{Use, Opens, Resumes, Steps, Reads, ReadsAll, Forgets, Looks, Frees, Does as Uses_so}
use Rattle.ffi_c.specs.Lives.{Used, held_after, IsLife, RefusesHappening}
use Rattle.ffi_c.specs.Pasts.{all_taken, taken_by, AreKeptBelow, AsksBelow, BelowByCount, IsBelow, IsKeptBelow, KeepsBelow, TellsBelow}
use Rattle.ffi_c.proofs.Followed.{told_both, told_but}
use Rattle.ffi_c.proofs.Lives.{empty_holds_none, in_held}
use Rattle.ffi_c.proofs.Taken.{plants, raises_both, raises_none, stays, tends, uproots, AreUnder, Leads, Raises}

module _ (limit : ℕ) where
  -- A tree that is asked for has a ticket below the limit.
  abbrev PlantsUnder : Happening → Type 0
  PlantsUnder (happens.FollowsTree ticket root most) = ticket < limit
  PlantsUnder _ = ⊤

  -- ---- an agent's step

  module _ {A : Type 0} where
    alters : (given : AgentInput A) (was is : Trees A) (old new : Footing A) → Alters given was is old new → PlantsUnder (happening given)
        → Leads limit old new
    alters (input.FollowTree ticket root most) was is old new p under = plants limit ticket under root most was is old new p
    alters (input.UnfollowTree ticket) was is old new u under = uproots limit ticket was is old new u
    alters input.Opened was is old new same under = stays limit old new same.1
    alters input.Failed was is old new same under = stays limit old new same.1
    alters input.Cut was is old new same under = stays limit old new same.1
    alters input.Moment was is old new same under = stays limit old new same.1
    alters (input.Bytes bytes) was is old new same under = stays limit old new same.1
    alters (input.Addresses kept added is_listed) was is old new same under = stays limit old new same.1
    alters (input.Call ticket call until) was is old new same under = stays limit old new same.1
    alters (input.Credential credential) was is old new same under = stays limit old new same.1
    alters (input.Follow ticket side path) was is old new same under = stays limit old new same.1
    alters (input.Unfollow ticket) was is old new same under = stays limit old new same.1

    goes_on : (now : ℕ) (given : AgentInput A) (old new : Agent A) (said : List (Action A)) → GoesOn now given old new said
        → PlantsUnder (happening given) → Raises limit old.trees.next (trees_in (told_by said)) new.trees.next
    goes_on now given old new said g under =
        let first = old.trees.next in
        let tended = g.grows.tended in
        let altered = g.grows.altered in
        let tends_so = tends limit (are_at_rest now old.trees) now old.trees g.grows.between _ tended g.grows.tends in
        let alters_so = alters given g.grows.between g.trees _ altered g.grows.alters under in
        subst (λ n. Raises limit first (trees_in (told_by said)) n) (sym (g.next ∙ g.grows.next))
        (subst (λ t. Raises limit first t altered.next) (sym g.told)
        (raises_both limit first tended.next altered.next tended.told altered.told
        (subst (λ t. Raises limit first t tended.next) (sym tends_so.told) tends_so.raises)
        (subst (λ t. Raises limit tended.next t altered.next) (sym alters_so.told) alters_so.raises)))

  -- ---- a device's step

  abbrev trees_told : List (Action Global) → List TreeTold
  trees_told said = trees_in (told_by said)

  abbrev pub Raised : (from : Agent Global) → (said : List (Action Global)) → (to : Agent Global) → Type 0
  Raised from said to = Raises limit from.trees.next (trees_told said) to.trees.next

  raised_both : (from between to : Agent Global) (said more : List (Action Global)) → Raised from said between → Raised between more to
      → Raised from (said ++ more) to
  raised_both from between to said more one two =
      subst (λ t. Raises limit from.trees.next t to.trees.next) (sym (told_both limit said more))
      (raises_both limit from.trees.next between.trees.next to.trees.next (trees_told said) (trees_told more) one two)

  own_under : (what : Happening) → IsOwn what → PlantsUnder what
  own_under (happens.FollowsTree ticket root most) own = absurd own
  own_under _ own = tt

  own_all : (now : ℕ) (own : List Part) (from to : Agent Global) → TookAll now from own to
      → AllByRecursion (λ part. IsOwn (happening part.given)) own → Raised from (flat_map (λ part. part.said) own) to
  own_all now [] from to is are = subst (λ (a : Agent Global). Raised from [] a) is (raises_none limit from.trees.next)
  own_all now (part ∷ own) from to took are =
      raised_both from took.0 to part.said (flat_map (λ p. p.said) own)
      (goes_on (max from.latest now) part.given from took.0 part.said took.1.trees (own_under (happening part.given) are.0))
      (own_all now own took.0 to took.2 are.1)

  -- of a contender the agent is asked for nothing
  given_under : (what : Happening) → PlantsUnder what → PlantsUnder (happens.given_of what)
  given_under (happens.Contends its directory naming guid bytes acl may_be_there) under = tt
  given_under (happens.GivesUp its) under = tt
  given_under _ under = under

  pub step_raises : (now : ℕ) (what : Happening) (old session : Device) → Stepped now what old session → PlantsUnder what
      → Raised old.agent session.said.items session.agent
  step_raises now what old session does under =
      let said = does.took.said in
      let owned = flat_map (λ (p : Part). p.said) does.took.own in
      let agent = does.took.took.0 in
      subst (λ t. Raises limit old.agent.trees.next t session.agent.trees.next)
      (sym (told_but limit (said ++ owned) session.said.items does.took.told))
      (raised_both old.agent agent session.agent said owned
      (goes_on (max old.agent.latest now) does.given old.agent agent said does.took.took.1.trees
      (subst PlantsUnder (sym does.is) (given_under what under)))
      (own_all now does.took.own agent session.agent does.took.took.2 does.took.are_own))

-- ---- what a program keeps, and what is told then

plants_under : (what : Happening) → KeepsBelow what → PlantsUnder first_own what
plants_under (happens.FollowsTree ticket root most) keeps = keeps
plants_under _ keeps = tt

asks_below : (what : Happening) → KeepsBelow what → AsksBelow what
asks_below (happens.FollowsTree ticket root most) keeps = tt
asks_below _ keeps = keeps

told_below : (told : List Told) → AreUnder first_own (trees_in told) → AllByRecursion TellsBelow told
told_below [] under = tt
told_below (TellsTree (TakesOn tree ticket side path) ∷ told) under = (under.0, told_below told under.1)
told_below (TellsTree _ ∷ told) under = (tt, told_below told under.1)
told_below (_ ∷ told) under = (tt, told_below told under)

-- ---- a whole life

-- The next ticket of a session that goes on is no further from the first than this.
abbrev IsWithin : (count : ℕ) → Option Device → Type 0
IsWithin count held = (session : Device) → held ≡ Some session → session.is_over ≡ false → session.agent.trees.next ≤ 2 ^ 63 + count

module _ (count : ℕ) where
  made : (Refuses : ℤ → Type 0) (start : Start) (code : ℤ) (after : Option Device) → Makes Refuses start code after → IsWithin count after
  made Refuses start (pos zero) after makes session is on =
      let next = (in_held (BeginsWith (view_at start [])) session after makes is).next in omega (arith, next)
  made Refuses start (pos (suc n)) after makes session is on = empty_holds_none session after makes.1 is
  made Refuses start (negsuc n) after makes session is on = empty_holds_none session after makes.1 is

  resumed : (limits : FrameLimits) (timeout : ℤ) (saved : List ℕ) (code : ℤ) (before after : Option Device)
      (read : Result PutAway SavedFault) → bytes_read saved ≡ read → Uses_so before (Resumes limits timeout saved code) after
      → IsWithin count after
  resumed limits timeout saved code before after (Ok put) reads does =
      made (RefusesTimeout timeout) (within limits (put_start timeout put)) code after (does.0 put reads)
  resumed limits timeout saved code before after (Err fault) reads does = λ session is on.
      empty_holds_none session after (does.1 fault reads) is

  same_agent : (old session : Device) → session.agent ≡ old.agent → old.agent.trees.next ≤ 2 ^ 63 + count
      → session.agent.trees.next ≤ 2 ^ 63 + count
  same_agent old session same below = subst (λ (a : Agent Global). a.trees.next ≤ 2 ^ 63 + count) (sym same) below

  stepped : (moment : ℕ) (what : Happening) (old session : Device) → old.agent.trees.next ≤ 2 ^ 63 + count → KeepsBelow what
      → Stepped moment what old session
      → session.agent.trees.next ≤ 2 ^ 63 + taken_by (Steps moment what (pos zero)) (Some session) count
  stepped moment what old session was keeps does =
      let raised = (step_raises first_own moment what old session does (plants_under what keeps)).count in omega (arith, was, raised)

  steps : (moment : ℕ) (what : Happening) (code : ℤ) (before after : Option Device) → IsWithin count before
      → Uses_so before (Steps moment what code) after → IsKeptBelow (Steps moment what code)
      → IsWithin (taken_by (Steps moment what code) after count) after
  steps moment what code None after was does keeps = λ session is on. empty_holds_none session after does.empty is
  steps moment what (pos zero) (Some old) after was does keeps = λ session is on.
      let here = in_held (Stepped moment what old) session after does is in
      subst (λ h. session.agent.trees.next ≤ 2 ^ 63 + taken_by (Steps moment what (pos zero)) h count) (sym is)
      (stepped moment what old session (was old refl here.took.went_on) keeps here)
  steps moment what (negsuc zero) (Some old) after was does keeps = λ session is on.
      let here = in_held (Stopped old) session after does is in
      absurd (let e : true ≡ false = sym here.over ∙ on in cc)
  steps moment what (pos (suc n)) (Some old) after was does keeps = λ session is on.
      let same = (in_held (λ session. RefusesHappening what (pos (suc n)) × (session ≡ old)) session after does is).1 in
      same_agent old session (ap (λ (d : Device). d.agent) same) (was old refl (ap (λ (d : Device). d.is_over) (sym same) ∙ on))
  steps moment what (negsuc (suc n)) (Some old) after was does keeps = λ session is on.
      let same = (in_held (λ session. RefusesHappening what (negsuc (suc n)) × (session ≡ old)) session after does is).1 in
      same_agent old session (ap (λ (d : Device). d.agent) same) (was old refl (ap (λ (d : Device). d.is_over) (sym same) ∙ on))

  reads : (room told : Flat) (code : ℤ) (before after : Option Device) → IsWithin count before
      → Uses_so before (Reads room told code) after → IsWithin count after
  reads room told code None after was does session is on = empty_holds_none session after does.empty is
  reads room told code (Some old) after was does session is on =
      let tells = in_held (λ s. Tells old room code told s) session after does is in
      same_agent old session tells.agent (was old refl (sym tells.over ∙ on))

  reads_all : (room written : List ℕ) (its : ℕ) (code : ℤ) (before after : Option Device) → IsWithin count before
      → Uses_so before (ReadsAll room written its code) after → IsWithin count after
  reads_all room written its code None after was does session is on = empty_holds_none session after does.empty is
  reads_all room written its (pos zero) (Some old) after was does session is on =
      let tells = in_held (TellsAll old room written its (pos zero)) session after does is in
      same_agent old session tells.agent (was old refl (sym tells.over ∙ on))
  reads_all room written its (pos (suc n)) (Some old) after was does session is on =
      was session (ap Some (sym (in_held (TellsAll old room written its (pos (suc n))) session after does is).3)) on
  reads_all room written its (negsuc n) (Some old) after was does session is on =
      was session (ap Some (sym (in_held (TellsAll old room written its (negsuc n)) session after does is).3)) on

  forgets : (code : ℤ) (before after : Option Device) → IsWithin count before → Uses_so before (Forgets code) after → IsWithin count after
  forgets code None after was does session is on = empty_holds_none session after does.empty is
  forgets code (Some old) after was does session is on =
      let gone = (in_held (ForgetsStale old code) session after does is).forgot in
      subst (λ (t : Trees Global). t.next ≤ 2 ^ 63 + count) (sym gone.trees) (was old refl (sym gone.over ∙ on))

  one : (used : Use) (before after : Option Device) → IsWithin count before → Uses_so before used after → IsKeptBelow used
      → IsWithin (taken_by used after count) after
  one (Opens limits timeout code) before after was does keeps =
      made (RefusesTimeout timeout) (within limits (new_start (unsigned_abs timeout))) code after does
  one (Resumes limits timeout saved code) before after was does keeps =
      resumed limits timeout saved code before after (bytes_read saved) refl does
  one (Steps moment what code) before after was does keeps = steps moment what code before after was does keeps
  one (Reads room told code) before after was does keeps = reads room told code before after was does
  one (ReadsAll room written its code) before after was does keeps = reads_all room written its code before after was does
  one (Forgets code) before after was does keeps = forgets code before after was does
  one Looks before after was does keeps = λ session is on. was session (sym does ∙ is) on
  one Frees before after was does keeps = λ session is on. empty_holds_none session after does is

  -- what is told in a step that a program takes
  step_below : (moment : ℕ) (what : Happening) (before : Option Device) (session : Device) → IsWithin count before
      → Uses_so before (Steps moment what (pos zero)) (Some session) → KeepsBelow what
      → taken_by (Steps moment what (pos zero)) (Some session) count ≤ 2 ^ 62 → IsBelow (Steps moment what (pos zero)) (Some session)
  step_below moment what None session was does keeps few = empty_holds_none session (Some session) does.empty refl
  step_below moment what (Some old) session was does keeps few =
      let raised = step_raises first_own moment what old session does.1 (plants_under what keeps) in
      let near = stepped moment what old session (was old refl does.1.took.went_on) keeps does.1 in
      (asks_below what keeps, told_below (told_by session.said.items) (raised.under (omega (arith, near, few))))

  below : (used : Use) (before after : Option Device) → IsWithin count before → Uses_so before used after → IsKeptBelow used
      → taken_by used after count ≤ 2 ^ 62 → IsBelow used after
  below (Steps moment what (pos zero)) before (Some session) was does keeps few = step_below moment what before session was does keeps few
  below (Steps moment what (pos zero)) before None was does keeps few = tt
  below (Steps moment what (pos (suc n))) before after was does keeps few = tt
  below (Steps moment what (negsuc n)) before after was does keeps few = tt
  below _ before after was does keeps few = tt

  no_less : (used : Use) (after : Option Device) → count ≤ taken_by used after count
  no_less (Steps moment what (pos zero)) (Some session) = omega arith
  no_less (Steps moment what (pos zero)) None = omega arith
  no_less (Steps moment what (pos (suc n))) after = omega arith
  no_less (Steps moment what (negsuc n)) after = omega arith
  no_less _ after = omega arith

within_in : (uses : List Used) → IsLife uses → AreKeptBelow uses → IsWithin (all_taken uses) (held_after uses)
within_in [] lived keeps session is on = absurd (let e : None ≡ Some session = is in cc)
within_in (used ∷ earlier) lived keeps session is on =
    one (all_taken earlier) used.use_of (held_after earlier) used.held (within_in earlier lived.1 keeps.1) lived.0 keeps.0 session is on

pub below_by_count : BelowByCount
below_by_count [] lived keeps few = tt
below_by_count (used ∷ earlier) lived keeps few =
    let before = all_taken earlier in
    let fewer = no_less before used.use_of used.held in (
      below before used.use_of (held_after earlier) used.held (within_in earlier lived.1 keeps.1) lived.0 keeps.0 few,
      below_by_count earlier lived.1 keeps.1 (omega (arith, fewer, few)),
    )
