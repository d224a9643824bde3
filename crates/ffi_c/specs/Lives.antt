-- The whole life of a session's handle: the functions that were called on it, with the numbers that they answered, and how its session
-- stands.
use Rattle.std.specs.Prelude.{◌≡◌, ◌<◌, ◌-◌, ◌^◌, ⊤, ℕ, ℤ, false, List, [], ◌∷◌, ◌++◌, Option, Some, None, Ok, Err, All, unsigned_abs}
use Rattle.std.specs.List.{AllByRecursion}
use Rattle.zk_frames.specs.declared.limits.FrameLimits.{FrameLimits}
use Rattle.zk_conversation.specs.Calls as call
use Rattle.zk_turns.specs.Turns.{new_start}
use Rattle.zk_client.specs.Clients.{view_of}
use Rattle.zk_client.specs.SavedSessions.{PutAway, bytes_read}
use Rattle.zk_client.specs.declared.saved_fault.SavedFault.{SavedFault}
use Rattle.zk_agent.specs.Agents.{IsLed}
use Rattle.zk_agent.specs.Calls.{IsInTime, IsServed}
use Rattle.zk_conclusions.specs.Revisions.{IsUnchanged}
use Rattle.ffi_device.specs.Refused.{RefusesContender, RefusesCreate, RefusesMemory, RefusesNothing, RefusesPath, RefusesTimeout}
use Rattle.ffi_device.specs.Sessions.{put_start}
use Rattle.ffi_device.specs.declared.flat.Flat.{Flat}
use Rattle.ffi_device.specs.Credentials.{RefusesCredential}
use Rattle.ffi_device.specs.Happenings as happens
use Rattle.ffi_device.specs.Happenings.{Happening}
use Rattle.ffi_device.specs.Steps as step
use Rattle.ffi_device.specs.Steps.{within}
use Rattle.ffi_device.specs.Taking.{AreFollowed}
use Rattle.ffi_device.specs.declared.device.Device.{Device}
use Rattle.ffi_c.specs.Held.{Holds, IsClosed, Makes, Tells, TellsAll, ForgetsStale}

-- A function that was called on a handle, with what was handed in, and the number that it answered. `Steps` is that of each input, call,
-- subject, tree and contender, `Reads` that of dw_session_next, `ReadsAll` that of dw_session_outputs, `Forgets` that of
-- dw_session_forget; `Looks` is that of those that leave the handle as it is, and of dw_session_raw with a number that no operation has
-- which a caller may spell; `Frees` is also that of dw_session_open_with_limits with limits that no session may have.
pub data Use : Type 0 where
  Opens : FrameLimits → (timeout code : ℤ) → Use
  Resumes : FrameLimits → (timeout : ℤ) → (saved : List ℕ) → (code : ℤ) → Use
  Steps : (now : ℕ) → Happening → (code : ℤ) → Use
  Reads : (room told : Flat) → (code : ℤ) → Use
  ReadsAll : (room written : List ℕ) → (count : ℕ) → (code : ℤ) → Use
  Forgets : (code : ℤ) → Use
  Looks Frees : Use

-- what is refused before a step: of a call its path or its mode, and of bytes, also those that a caller spells, that there is no memory
-- for them
abbrev pub RefusesCall : call.Call → ℤ → Type 0
RefusesCall (call.Exists path watch) = RefusesPath path
RefusesCall (call.GetData path watch) = RefusesPath path
RefusesCall (call.GetChildren path watch) = RefusesPath path
RefusesCall (call.SetData path bytes version) = RefusesPath path
RefusesCall (call.Create path bytes mode) = RefusesCreate path mode
RefusesCall (call.Delete path version) = RefusesPath path
RefusesCall call.Close = RefusesNothing
RefusesCall (call.Raw operation bytes) = RefusesMemory

abbrev pub RefusesHappening : Happening → ℤ → Type 0
RefusesHappening (happens.Bytes bytes) = RefusesMemory
RefusesHappening (happens.Calls ticket asked until) = RefusesCall asked
RefusesHappening (happens.Introduces frame) = λ code. (scheme secret : List ℕ) × RefusesCredential scheme secret code
RefusesHappening (happens.Follows ticket side path) = RefusesPath path
RefusesHappening (happens.FollowsTree ticket root most) = RefusesPath root
RefusesHappening (happens.Contends ticket directory naming guid bytes acl may_be_there) = RefusesContender directory naming guid acl
RefusesHappening _ = RefusesNothing

-- A closed handle stays closed, which is told; of one that holds a session this is so.
abbrev pub Drives : (Does : Device → ℤ → Device → Type 0) → (before : Option Device) → (code : ℤ)
    → (after : Option Device) → Type 0
Drives Does None code after = IsClosed code after
Drives Does (Some session) code after = Holds after (Does session code)

-- what each function promises of its handle
abbrev pub Does : (before : Option Device) → Use → (after : Option Device) → Type 0
Does before (Opens limits timeout code) after = Makes (RefusesTimeout timeout) (within limits (new_start (unsigned_abs timeout))) code after
Does before (Resumes limits timeout saved code) after =
    ((put : PutAway) → bytes_read saved ≡ Ok put → Makes (RefusesTimeout timeout) (within limits (put_start timeout put)) code after)
    × ((fault : SavedFault) → bytes_read saved ≡ Err fault → after ≡ None)
Does before (Steps now what code) after = Drives (step.Steps (RefusesHappening what) now what) before code after
Does before (Reads room told code) after = Drives (λ session code. Tells session room code told) before code after
Does before (ReadsAll room written count code) after = Drives (λ session. TellsAll session room written count) before code after
Does before (Forgets code) after = Drives ForgetsStale before code after
Does before Looks after = after ≡ before
Does before Frees after = after ≡ None

-- a use, and what the handle holds after it
pub record Used : Type 0 where
  pub use_of : Use
  pub held : Option Device

-- The life of a handle, the newest use first. It was all zeros before the first.
abbrev pub held_after : List Used → Option Device
held_after [] = None
held_after (used ∷ earlier) = used.held

abbrev pub IsLife : List Used → Type 0
IsLife [] = ⊤
IsLife (used ∷ earlier) = Does (held_after earlier) used.use_of used.held × IsLife earlier

-- How a session stands: its client where turns by the rule have led; each subject good, or being read, or why not; each call on its way, or
-- why not, and none past its limit.
pub record IsSound (session : Device) : Type 0 where
  pub led : IsLed (view_of session.agent.asker.follower.client)
  pub followed : AreFollowed session.agent
  pub served : All (IsServed (view_of session.agent.asker.follower.client)) session.agent.asker.line.entries.items
  pub limits : All (IsInTime session.agent.latest) session.agent.asker.line.entries.items

-- THE law of a session's handle: whoever made it by these functions alone, whatever they answered, and has a session in it within whose
-- steps memory never ran out, has one that is sound.
abbrev pub SoundForLife : Type 0
SoundForLife = (uses : List Used) (session : Device) → IsLife uses → held_after uses ≡ Some session
    → session.is_over ≡ false → IsSound session

-- ---- the revision

-- A function that makes no session again, and frees none.
abbrev pub GoesOn : Use → Type 0
GoesOn (Opens limits timeout code) = ⊥
GoesOn (Resumes limits timeout saved code) = ⊥
GoesOn Frees = ⊥
GoesOn used = ⊤

abbrev pub AllGoOn : List Used → Type 0
AllGoOn uses = AllByRecursion (λ used. GoesOn used.use_of) uses

-- THE law of a revision: whoever was told the same number twice, below the last one, of a session that was not made again in between, has
-- what is kept and good, the state and the session as they were, whatever functions were called between.
abbrev pub SameForLife : Type 0
SameForLife = (more earlier : List Used) (before after : Device) → IsLife (more ++ earlier) → AllGoOn more
    → held_after earlier ≡ Some before → held_after (more ++ earlier) ≡ Some after
    → before.revision.number < 2 ^ 64 - 1 → after.revision.number ≡ before.revision.number
    → IsUnchanged (view_of before.agent.asker.follower.client) (view_of after.agent.asker.follower.client)
