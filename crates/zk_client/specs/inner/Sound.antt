-- What contracts of private functions say: nobody has to believe it.
use Rattle.std.specs.Prelude.{◌≡◌, ◌≤◌, ◌<◌, Option, Some, List, ◌∷◌, length}
use Rattle.zk_nodes.specs.declared.side.Side.{Side}
use Rattle.zk_session.specs.declared.states.State.{State}
use Rattle.zk_session.specs.declared.states.State.TheVariants.{Connecting, Connected as Is_connected}
use Rattle.zk_conversation.specs.Results.{response_password}
use Rattle.zk_session.specs.SessionView.{SessionView}
use Rattle.zk_conversation.specs.declared.phase.Phase.TheVariants.{Talking}
use Rattle.zk_conversation.specs.Pending.{Talk, Pending, Part_waits, Call_waits}
use Rattle.zk_conversation.specs.Arriving.{Arrived, Connected, Replied, Watches_set}
use Rattle.zk_watches.specs.Lists.{Lists, count_of}
use Rattle.zk_client.specs.declared.machine.Core.{Core}
use Rattle.zk_limits.specs.declared.limits.TheConstants.{LONGEST_PASSWORD, MOST_PATHS}
use Rattle.zk_frames.specs.Held.{Held}
use Rattle.zk_turns.specs.Taken.{longest}
use Rattle.zk_client.specs.Sound.{HasRoom, IsSound, IsReading}

-- what is true of a machine
abbrev pub CoreIsSound : {A : Type 0} → Core A → Type 0
CoreIsSound core = IsSound core.session core.conversation core.registry

-- the limit is that of the machine, as it stands
abbrev pub IsReadingFor : {A : Type 0} → Core A → Held → Type 0
IsReadingFor core held = IsReading (longest core.limits core.session.state) held

-- What arrived took its request out of what was pending.
abbrev pub IsLeft : Arrived → List Pending → List Pending → Type 0
IsLeft (Replied ticket question zxid result) pending rest =
    (xid : _) × (pending ≡ record { xid = xid; waiting = Call_waits ticket question } ∷ rest)
IsLeft (Watches_set last zxid err) pending rest = (xid : _) × (pending ≡ record { xid = xid; waiting = Part_waits last } ∷ rest)
IsLeft _ pending rest = pending ≡ rest

-- there is room for one more path on the side
abbrev pub HasRoomFor : Option Side → Lists → Type 0
HasRoomFor side lists = (other : Side) → side ≡ Some other → count_of lists other < MOST_PATHS

-- where what arrives finds the session: only while it is Connecting it is the first message
abbrev pub ComesTo : Arrived → State → List Pending → Type 0
ComesTo (Connected response) state pending =
    (state ≡ Connecting) × (length pending ≡ 0) × (length (response_password response) ≤ LONGEST_PASSWORD)
ComesTo _ state pending = state ≡ Is_connected

-- A payload was read, and what arrived has its effect yet.
pub record HasArrived (arrived : Arrived) (kept : SessionView) (talk : Talk) (lists : Lists) : Type 0 where
  pub before : List Pending
  pub left : IsLeft arrived before talk.pending
  pub room : HasRoom lists before
  pub phase : talk.phase ≡ Talking
  pub comes : ComesTo arrived kept.state talk.pending
  pub short : length kept.saved.session.password ≤ LONGEST_PASSWORD

abbrev pub CoreHasArrived : {A : Type 0} → Arrived → Core A → Type 0
CoreHasArrived arrived core = HasArrived arrived core.session core.conversation core.registry
