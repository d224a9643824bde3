-- The contenders of a device: what they hear of what its agent says, and the calls that they ask.
use Rattle.std.specs.Prelude.{◌≡◌, ◌≤◌, ◌&&◌, ◌+◌, ◌++◌, ℕ, Bool, true, false, not, nat_lt, string_bytes, List, [], drop, length, take}
use Rattle.std.specs.Prelude.{Option, Some, None, IfSome, is_some, option_map, if◌then◌else◌}
use Rattle.std.specs.List.{FoldsTo}
use Rattle.std.specs.declared.alloc.Global.{Global}
use Rattle.zk_nodes.specs.Path.{Text}
use Rattle.zk_session.specs.declared.states.State.TheVariants.{Closed}
use Rattle.zk_conversation.specs.Calls.{Call}
use Rattle.zk_turns.specs.View.{View}
use Rattle.zk_client.specs.Clients.{view_of}
use Rattle.zk_client.specs.Views.{outcome_view}
use Rattle.zk_contend.specs.Acls.{IsAcl}
use Rattle.zk_contend.specs.Collections.{first_until, hall_of, one_of, AreAtRest, AreSame, Asks, Changes, ChangesEach, ForgetsCalls, Hears}
use Rattle.zk_contend.specs.Collections.{Joins, KeepsCalls, StaysAwake, StirsAbout, StirsAll, StirsIf, TellsAt}
use Rattle.zk_contend.specs.Contenders.{closed, given_up, noted, renewed, IsFresh}
use Rattle.zk_contend.specs.Dues.{acl_of}
use Rattle.zk_contend.specs.Places.{is_ready}
use Rattle.zk_contend.specs.declared.collection.Contenders.{Contenders}
use Rattle.zk_contend.specs.declared.contender.LockContender.{LockContender}
use Rattle.zk_contend.specs.declared.naming.Naming.{Naming}
use Rattle.zk_contend.specs.declared.naming.Naming.TheVariants.{Kazoo, KazooReader, CuratorLock, CuratorLatch, CuratorWriter, CuratorReader}
use Rattle.zk_contend.specs.declared.naming.Naming.TheVariants.{Lease}
use Rattle.zk_dialler.specs.Dialling.{has_come}
use Rattle.zk_agent.specs.Agents.{NothingAt}
use Rattle.zk_agent.specs.declared.action.Action.{Action}
use Rattle.zk_agent.specs.declared.action.Action.TheVariants as action
use Rattle.zk_agent.specs.declared.agent.Agent.{Agent}
use Rattle.ffi_device.specs.Chains.{first_own, Part}
use Rattle.ffi_device.specs.Happenings.{Happening, Calls, Contends, GivesUp, happening}
use Rattle.ffi_device.specs.Taking.{AgentTook}
use Rattle.ffi_device.specs.declared.device.Device.{Device}

abbrev pub view_in : Agent Global → View
view_in agent = view_of agent.asker.follower.client

-- ---- who joins, and who is given up

-- the number of a naming; that of leases is as much above 6 as there are leases
abbrev pub naming_number : Naming → ℕ
naming_number Kazoo = 0
naming_number KazooReader = 1
naming_number CuratorLock = 2
naming_number CuratorLatch = 3
naming_number CuratorWriter = 4
naming_number CuratorReader = 5
naming_number (Lease most) = 6 + most

-- A contender at its beginning, of a naming by its number. What it makes has this ACL, if there is one.
pub record IsContender (directory : Text) (number : ℕ) (guid : Text) (bytes acl : Option (List ℕ)) (may_be_there : Bool)
    (contender : LockContender Global) : Type 0 where
  pub naming : Naming
  pub number_is : naming_number naming ≡ number
  pub fresh : IsFresh directory naming guid may_be_there contender
  pub bytes_are : option_map (λ v. v.items) contender.data ≡ bytes
  pub acl_is : acl_of contender ≡ acl
  pub is_acl : IfSome acl IsAcl

-- It joins, unless another one has the ticket.
pub record JoinsOne (ticket : ℕ) (directory : Text) (number : ℕ) (guid : Text) (bytes acl : Option (List ℕ)) (may_be_there : Bool)
    (before joined : Contenders Global) : Type 0 where
  pub contender : LockContender Global
  pub is : IsContender directory number guid bytes acl may_be_there contender
  pub joins : Joins ticket contender (not (is_some (one_of before ticket))) before joined
  pub stirs : StirsIf (not (is_some (one_of before ticket))) ticket before joined
  pub calls : KeepsCalls before joined

-- It is given up, if there is one.
pub record LeavesOne (ticket : ℕ) (before left : Contenders Global) : Type 0 where
  pub gives : Changes ticket (λ was is. is ≡ given_up was) before left
  pub stirs : StirsIf (is_some (one_of before ticket)) ticket before left
  pub calls : KeepsCalls before left

-- What becomes of the contenders by what a caller hands in.
abbrev pub JoinsBy : Happening → (before joined : Contenders Global) → Type 0
JoinsBy (Contends ticket directory number guid bytes acl may_be_there) before joined =
    JoinsOne ticket directory number guid bytes acl may_be_there before joined
JoinsBy (GivesUp ticket) before joined = LeavesOne ticket before joined
JoinsBy what before joined = joined ≡ before

-- ---- what they hear

-- What is told to the program, as they note it.
abbrev pub Notes : Action Global → (old new : Contenders Global) → Type 0
Notes (action.Report path side event) old new =
    ChangesEach (noted (string_bytes path) event) old new × StirsAbout (string_bytes path) old new × KeepsCalls old new
Notes (action.State Closed) old new = ChangesEach closed old new × StirsAll new × ForgetsCalls old new
Notes (action.State state) old new = AreSame old new × StirsAll new × KeepsCalls old new
Notes action.Renewed old new = ChangesEach renewed old new × StirsAll new × ForgetsCalls old new
Notes other old new = new ≡ old

-- whether this answers a call of theirs
abbrev pub is_own_answer : {A : Type 0} → Action A → Bool
is_own_answer (action.Answer ticket outcome) = not (nat_lt ticket first_own)
is_own_answer other = false

-- An answer is heard by the contender that asked.
abbrev pub HearsAnswer : View → (now : ℕ) → Action Global → (old new : Contenders Global) → Type 0
HearsAnswer view now (action.Answer ticket outcome) old new = Hears view now ticket (outcome_view outcome) old new
HearsAnswer view now other old new = new ≡ old

abbrev pub HearsWhere : (is_own : Bool) → View → (now : ℕ) → Action Global → (old new : Contenders Global) → Type 0
HearsWhere true view now one old new = HearsAnswer view now one old new
HearsWhere false view now one old new = Notes one old new

-- They hear what was said, in its order: answers to calls of theirs, and what is told to the program.
abbrev pub HearsAll : View → (now : ℕ) → (old : Contenders Global) → List (Action Global) → (new : Contenders Global) → Type 0
HearsAll view now old said new =
    FoldsTo (λ (from : Contenders Global) (one : Action Global) to. HearsWhere (is_own_answer one) view now one from to) old said new

-- ---- what they ask

-- A contender asks the call that is due of it, the agent takes it, and all hear what is said then.
pub record AskedOne (now : ℕ) (from : Agent Global × Contenders Global) (part : Part) (to : Agent Global × Contenders Global)
    : Type 0 where
  pub ticket : ℕ
  pub call : Call
  pub is : happening part.given ≡ Calls ticket call None
  pub own : first_own ≤ ticket
  pub between : Contenders Global
  pub asks : Asks (view_in from.0) now ticket call from.1 between
  pub took : AgentTook now part.given from.0 to.0 part.said
  pub hears : HearsAll (view_in to.0) now between part.said to.1

abbrev pub AskedAll : (now : ℕ) → (before : Agent Global × Contenders Global) → List Part → (after : Agent Global × Contenders Global)
    → Type 0
AskedAll now before own after =
    FoldsTo (λ (from : Agent Global × Contenders Global) (part : Part) to. AskedOne now from part to) before own after

-- No call is due of any that is looked at.
pub record Rests (view : View) (now : ℕ) (before after : Contenders Global) : Type 0 where
  pub at_rest : AreAtRest view now before
  pub same : AreSame before after
  pub calls : KeepsCalls before after
  pub stays : StaysAwake view before after

-- ---- a step

-- After the agent's step they hear what it said, ask what is due of them, one call after the other, until none is, and tell how they stand.
pub record Contended (now : ℕ) (joined : Contenders Global) (agent : Agent Global) (said : List (Action Global)) (own : List Part)
    (after : Device) : Type 0 where
  pub heard : Contenders Global
  pub hears : HearsAll (view_in agent) now joined said heard
  pub looked : Contenders Global
  pub asked : AskedAll now (agent, heard) own (after.agent, looked)
  pub rested : Contenders Global
  pub rests : Rests (view_in after.agent) now looked rested
  pub tells : FoldsTo (TellsAt (view_in after.agent)) (hall_of rested []) rested.stirred.untold.items
      (hall_of after.contenders after.news.items)
  pub calls : KeepsCalls rested after.contenders

-- On a device on which nobody has contended yet there is nothing to hear, to ask or to tell.
pub record IsQuiet (joined : Contenders Global) (after : Device) : Type 0 where
  pub nobody : after.contenders ≡ joined
  pub silent : after.news.items ≡ []

abbrev pub GoesOnWhere : (is_contending : Bool) → (now : ℕ) → (joined : Contenders Global) → (agent : Agent Global)
    → (said : List (Action Global)) → (own : List Part) → (after : Device) → Type 0
GoesOnWhere true now joined agent said own after = Contended now joined agent said own after
GoesOnWhere false now joined agent said own after = IsQuiet joined after

-- ---- moments

-- when the first pause of a contender is over, if one may ask then
abbrev pub until_in : Device → Option ℕ
until_in device = if device.is_contending && is_ready (view_in device.agent) then first_until device.contenders else None

-- Nothing is due at a moment, of the agent and of contenders.
abbrev pub NothingDue : Device → (moment : ℕ) → Type 0
NothingDue device moment = NothingAt device.agent moment × (has_come moment (until_in device) ≡ false)

-- ---- places

-- As much of the path of a place as there is room for is copied, if it is known.
abbrev pub CopiesPlace : (place : Option Text) → (room written : List ℕ) → (count : Option ℕ) → Type 0
CopiesPlace (Some path) room written (Some count) =
    (written ≡ take (length room) path ++ drop (length path) room) × (count ≡ length path)
CopiesPlace None room written None = written ≡ room
CopiesPlace place room written count = ⊥
