-- What a client shows of itself, in nine fields, and what each field is by all that happened.
use Rattle.zk_session.specs.SessionView.{Saved, Moments}
use Rattle.std.specs.Prelude.{ℕ, Bool, List, Option}
use Rattle.zk_nodes.specs.Path.{Text}
use Rattle.zk_session.specs.declared.states.State.{State}
use Rattle.zk_frames.specs.declared.limits.FrameLimits.{FrameLimits}
use Rattle.zk_turns.specs.Turns.{Start}
use Rattle.zk_turns.specs.Past.{Past, state_of, has_halted, session_of, last_of, now_of, heard_of, sent_of, pending_of, held_of, xid_of}
use Rattle.zk_turns.specs.Past.{lists_of, kept_data, kept_names}
use Rattle.zk_cache.specs.Kept.{Answer, Names}
use Rattle.zk_cache.specs.declared.held.Kept.{Kept}
use Rattle.zk_watches.specs.Lists.{Lists}
use Rattle.zk_conversation.specs.Pending.{Pending}

-- the state, and whether the client has halted
pub record Standing : Type 0 where
  pub halted : Bool
  pub state : State

-- what is kept for each path, on both sides
pub record Cache : Type 0 where
  pub nodes : Text → Option (Kept Answer)
  pub children : Text → Option (Kept Names)

pub record View : Type 0 where
  pub standing : Standing
  pub saved : Saved
  pub moments : Moments
  pub pending : List Pending
  pub held : List ℕ
  pub xid : ℕ
  pub lists : Lists
  pub cache : Cache
  pub limits : FrameLimits

-- what the definitions give
abbrev pub view_at : Start → Past → View
view_at start past = record {
  standing = record { halted = has_halted past; state = state_of past };
  saved = record { asked = start.timeout; session = session_of start past; last = last_of start past };
  moments = record { now = now_of past; heard = heard_of past; sent = sent_of past };
  pending = pending_of past;
  held = held_of past;
  xid = xid_of past;
  lists = lists_of past;
  cache = record { nodes = λ path. kept_data path past; children = λ path. kept_names path past };
  limits = start.limits;
}
