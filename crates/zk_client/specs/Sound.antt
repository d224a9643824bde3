-- What is true of a client that has not halted.
use Rattle.std.specs.Prelude.{◌≡◌, ◌≢◌, ◌+◌, ◌≤◌, ℕ, List, length, None}
use Rattle.zk_nodes.specs.declared.side.Side.TheVariants.{Data, Child}
use Rattle.zk_session.specs.SessionView.{SessionView}
use Rattle.zk_conversation.specs.declared.phase.Phase.TheVariants.{Talking}
use Rattle.zk_conversation.specs.Pending.{Talk, Pending, watches_pending}
use Rattle.zk_frames.specs.Frame.{IsUnfinished}
use Rattle.zk_frames.specs.Held.{Held}
use Rattle.zk_watches.specs.Lists.{Lists, count_of}
use Rattle.zk_turns.specs.Taken.{phase_of}
use Rattle.zk_limits.specs.declared.limits.TheConstants.{LONGEST_PASSWORD, MOST_PATHS}

-- the paths of each side and the pending reads that are to leave a watch there are within the most
pub record HasRoom (lists : Lists) (pending : List Pending) : Type 0 where
  pub on_data : count_of lists Data + watches_pending Data pending ≤ MOST_PATHS
  pub on_child : count_of lists Child + watches_pending Child pending ≤ MOST_PATHS

-- The connection is where the state says. Where nobody talks nothing is pending. The password is short enough to be sent back, and there
-- is room for the watches of what is pending.
pub record IsSound (kept : SessionView) (talk : Talk) (lists : Lists) : Type 0 where
  pub phase : talk.phase ≡ phase_of kept.state
  pub quiet : talk.phase ≢ Talking → length talk.pending ≡ 0
  pub short : length kept.saved.session.password ≤ LONGEST_PASSWORD
  pub room : HasRoom lists talk.pending

-- The reader has not failed, and holds less than a whole frame of such a limit.
pub record IsReading (most : ℕ) (held : Held) : Type 0 where
  pub clean : held.fault ≡ None
  pub less : IsUnfinished most held.bytes
