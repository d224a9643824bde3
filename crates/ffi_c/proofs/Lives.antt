-- The whole life of a session's handle, use by use: each leaves a session that is sound, by what its agent's calls ensure.
use Rattle.std.proofs.Common.{◌≡◌, ℕ, zero, suc, ℤ, pos, negsuc, List, [], ◌∷◌, Option, Some, None, refl, sym, ap, subst, ◌∙◌}
use Rattle.std.proofs.Common.{true≢false}
use Rattle.std.proofs.lemmas.List.Elements.{All-nil}
use Rattle.std.specs.Prelude.{Bool, true, false, Result, Ok, Err, IfSome, All, unsigned_abs}
use Rattle.zk_frames.specs.declared.limits.FrameLimits.{FrameLimits}
use Rattle.zk_turns.specs.Turns.{Start, new_start}
use Rattle.zk_turns.specs.View.{View, view_at}
use Rattle.zk_turns.specs.Rule.{Stands}
use Rattle.zk_client.specs.Clients.{view_of}
use Rattle.zk_client.specs.SavedSessions.{PutAway, bytes_read}
use Rattle.zk_client.specs.declared.saved_fault.SavedFault.{SavedFault}
use Rattle.std.specs.declared.alloc.Global.{Global}
use Rattle.zk_agent.specs.declared.action.Action.{Action}
use Rattle.zk_agent.specs.declared.agent.Agent.{Agent}
use Rattle.zk_agent.specs.declared.input.AgentInput.{AgentInput}
use Rattle.zk_agent.specs.Agents.{IsLed}
use Rattle.zk_agent.specs.Calls.{IsInTime, IsServed}
use Rattle.zk_calls.specs.declared.line.Line.{Line}
use Rattle.zk_follow.specs.Following as following
use Rattle.ffi_device.specs.Refused.{RefusesTimeout}
use Rattle.ffi_device.specs.Sessions.{put_start}
use Rattle.ffi_device.specs.declared.flat.Flat.{Flat}
use Rattle.ffi_device.specs.Happenings.{Happening}
use Rattle.ffi_device.specs.Chains.{Part, TookAll}
use Rattle.ffi_device.specs.Taking.{AgentTook, AreFollowed}
use Rattle.ffi_device.specs.Steps as step
use Rattle.ffi_device.specs.Steps.{BeginsWith, Stepped, within}
use Rattle.ffi_device.specs.declared.device.Device.{Device}
use Rattle.ffi_c.specs.Held.{ForgetsStale, Holds, Makes, Tells, TellsAll}
use Rattle.ffi_c.specs.Lives.{Use, Opens, Resumes, Steps, Reads, ReadsAll, Forgets, Looks, Frees, Does}
use Rattle.ffi_c.specs.Lives.{Used, held_after, IsLife, IsSound, RefusesHappening, SoundForLife}

-- the session of a handle, if it has one that goes on, is sound
abbrev Sound : Option Device → Type 0
Sound held = (session : Device) → held ≡ Some session → session.is_over ≡ false → IsSound session

pub fresh : (start : Start) → Stands start [] (view_at start [])
fresh start = record { standing = refl; saved = refl; lists = refl; cache = refl; going = λ goes_on. refl; said = tt; asked = tt }

pub empty_holds_none : {P : Type 0} (session : Device) (held : Option Device) → held ≡ None → held ≡ Some session → P
empty_holds_none session held empty is = absurd (let e : None ≡ Some session = sym empty ∙ is in cc)

pub in_held : (P : Device → Type 0) (session : Device) (held : Option Device) → Holds held P → held ≡ Some session → P session
in_held P session held holds is = subst (λ h. IfSome h P) is holds.1

-- the same of an agent by itself
record IsSoundAgent (agent : Agent Global) : Type 0 where
  led : IsLed (view_of agent.asker.follower.client)
  followed : AreFollowed agent
  served : All (IsServed (view_of agent.asker.follower.client)) agent.asker.line.entries.items
  limits : All (IsInTime agent.latest) agent.asker.line.entries.items

of_session : (session : Device) → IsSound session → IsSoundAgent session.agent
of_session session sound = record { led = sound.led; followed = sound.followed; served = sound.served; limits = sound.limits }

begun : (start : Start) (session : Device) → BeginsWith (view_at start []) session → IsSound session
begun start session begins = record {
  led = (start, [], subst (Stands start []) (sym begins.client) (fresh start));
  followed = let client = view_of session.agent.asker.follower.client in
      subst (following.AreFollowed session.agent.latest client) (sym begins.subjects)
      (All-nil (following.IsFollowed session.agent.latest client 0));
  served = let P = IsServed (view_of session.agent.asker.follower.client) in subst (All P) (sym begins.calls) (All-nil P);
  limits = let P = IsInTime session.agent.latest in subst (All P) (sym begins.calls) (All-nil P);
}

made : (Refuses : ℤ → Type 0) (start : Start) (code : ℤ) (after : Option Device) → Makes Refuses start code after → Sound after
made Refuses start (pos zero) after makes session is on =
    begun start session (in_held (BeginsWith (view_at start [])) session after makes is)
made Refuses start (pos (suc n)) after makes session is on = empty_holds_none session after makes.1 is
made Refuses start (negsuc n) after makes session is on = empty_holds_none session after makes.1 is

resumed : (limits : FrameLimits) (timeout : ℤ) (saved : List ℕ) (code : ℤ) (before after : Option Device)
    (read : Result PutAway SavedFault)
    → bytes_read saved ≡ read
    → Does before (Resumes limits timeout saved code) after → Sound after
resumed limits timeout saved code before after (Ok put) reads does session is on =
    made (RefusesTimeout timeout) (within limits (put_start timeout put)) code after (does.0 put reads) session is on
resumed limits timeout saved code before after (Err fault) reads does session is on = empty_holds_none session after (does.1 fault reads) is

-- what an agent took leaves it sound, and so does all that it takes after that
part_sound : (now : ℕ) (given : AgentInput Global) (from to : Agent Global) (said : List (Action Global))
    → IsLed (view_of from.asker.follower.client) → AgentTook now given from to said → IsSoundAgent to
part_sound now given from to said led took = record {
  led = took.comes.led led;
  followed = took.followed;
  served = took.served;
  limits = took.limits;
}

all_sound_on : (now : ℕ) (parts : List Part) (from to : Agent Global) → IsSoundAgent from → TookAll now from parts to → IsSoundAgent to
all_sound_on now [] from to sound same = subst IsSoundAgent same sound
all_sound_on now (part ∷ parts) from to sound took =
    all_sound_on now parts took.0 to (part_sound now part.given from took.0 part.said sound.led took.1) took.2

stepped : (now : ℕ) (what : Happening) (old session : Device) → Sound (Some old) → Stepped now what old session → IsSound session
stepped now what old session sound does =
    let took = does.took in
    let was = sound old refl took.went_on in
    let parts : List Part = record { given = does.given; said = took.said } ∷ took.own in
    let is = all_sound_on now parts old.agent session.agent (of_session old was) took.took in
    record { led = is.led; followed = is.followed; served = is.served; limits = is.limits }

over_goes_on : {P : Type 0} (is_over : Bool) → is_over ≡ true → is_over ≡ false → P
over_goes_on is_over over on = absurd (true≢false (sym over ∙ on))

steps : (now : ℕ) (what : Happening) (code : ℤ) (before after : Option Device)
    → Sound before → Does before (Steps now what code) after → Sound after
steps now what code None after sound does session is on = empty_holds_none session after does.empty is
steps now what (pos zero) (Some old) after sound does session is on =
    stepped now what old session sound (in_held (step.Steps (RefusesHappening what) now what old (pos zero)) session after does is)
steps now what (negsuc zero) (Some old) after sound does session is on =
    over_goes_on session.is_over (in_held (step.Steps (RefusesHappening what) now what old (negsuc zero)) session after does is).over on
steps now what (pos (suc n)) (Some old) after sound does session is on =
    sound session (ap Some (sym (in_held (step.Steps (RefusesHappening what) now what old (pos (suc n))) session after does is).1)) on
steps now what (negsuc (suc n)) (Some old) after sound does session is on =
    sound session (ap Some (sym (in_held (step.Steps (RefusesHappening what) now what old (negsuc (suc n))) session after does is).1)) on

-- what is sound is so by its agent alone
same_agent : (old session : Device) → session.agent ≡ old.agent → IsSound old → IsSound session
same_agent old session same sound = record {
  led = subst (λ (a : Agent _). IsLed (view_of a.asker.follower.client)) (sym same) sound.led;
  followed = subst AreFollowed (sym same) sound.followed;
  served = subst (λ (a : Agent _). All (IsServed (view_of a.asker.follower.client)) a.asker.line.entries.items) (sym same) sound.served;
  limits = subst (λ (a : Agent _). All (IsInTime a.latest) a.asker.line.entries.items) (sym same) sound.limits;
}

reads : (room told : Flat) (code : ℤ) (before after : Option Device)
    → Sound before → Does before (Reads room told code) after → Sound after
reads room told code None after sound does session is on = empty_holds_none session after does.empty is
reads room told code (Some old) after sound does session is on =
    let tells = in_held (λ s. Tells old room code told s) session after does is in
    same_agent old session tells.agent (sound old refl (sym tells.over ∙ on))

reads_all : (room written : List ℕ) (count : ℕ) (code : ℤ) (before after : Option Device)
    → Sound before → Does before (ReadsAll room written count code) after → Sound after
reads_all room written count code None after sound does session is on = empty_holds_none session after does.empty is
reads_all room written count (pos zero) (Some old) after sound does session is on =
    let tells = in_held (TellsAll old room written count (pos zero)) session after does is in
    same_agent old session tells.agent (sound old refl (sym tells.over ∙ on))
reads_all room written count (pos (suc n)) (Some old) after sound does session is on =
    sound session (ap Some (sym (in_held (TellsAll old room written count (pos (suc n))) session after does is).3)) on
reads_all room written count (negsuc n) (Some old) after sound does session is on =
    sound session (ap Some (sym (in_held (TellsAll old room written count (negsuc n)) session after does is).3)) on

forgets : (code : ℤ) (before after : Option Device) → Sound before → Does before (Forgets code) after → Sound after
forgets code None after sound does session is on = empty_holds_none session after does.empty is
forgets code (Some old) after sound does session is on =
    let gone = (in_held (ForgetsStale old code) session after does is).forgot in
    let was = sound old refl (sym gone.over ∙ on) in
    record {
      led = gone.led was.led;
      followed = gone.followed was.followed;
      served = subst (λ (line : Line _). All (IsServed (view_of session.agent.asker.follower.client)) line.entries.items) (sym gone.calls)
          (subst (λ (view : View). All (IsServed view) old.agent.asker.line.entries.items) (sym gone.view) was.served);
      limits = subst (λ (line : Line _). All (IsInTime session.agent.latest) line.entries.items) (sym gone.calls)
          (subst (λ (now : ℕ). All (IsInTime now) old.agent.asker.line.entries.items) (sym gone.latest) was.limits);
    }

one : (used_by : Use) (before after : Option Device) → Sound before → Does before used_by after → Sound after
one (Opens limits timeout code) before after sound does =
    made (RefusesTimeout timeout) (within limits (new_start (unsigned_abs timeout))) code after does
one (Resumes limits timeout saved code) before after sound does =
    resumed limits timeout saved code before after (bytes_read saved) refl does
one (Steps now what code) before after sound does = steps now what code before after sound does
one (Reads room told code) before after sound does = reads room told code before after sound does
one (ReadsAll room written count code) before after sound does = reads_all room written count code before after sound does
one (Forgets code) before after sound does = forgets code before after sound does
one Looks before after sound does = λ session is on. sound session (sym does ∙ is) on
one Frees before after sound does = λ session is on. empty_holds_none session after does is

all_sound : (uses : List Used) → IsLife uses → Sound (held_after uses)
all_sound [] lived session is on = absurd (let e : None ≡ Some session = is in cc)
all_sound (used ∷ earlier) lived session is on =
    one used.use_of (held_after earlier) used.held (all_sound earlier lived.1) lived.0 session is on

pub sound_for_life : SoundForLife
sound_for_life uses session lived is on = all_sound uses lived session is on
