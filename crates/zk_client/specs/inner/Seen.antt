-- What contracts of private functions say: nobody has to believe it.
use Rattle.std.specs.Prelude.{ℕ, Bool, List, Option, Some, None}
use Rattle.zk_session.specs.SessionView.{SessionView, Saved, Welcome}
use Rattle.zk_conversation.specs.Pending.{Pending, Talk}
use Rattle.zk_frames.specs.declared.limits.FrameLimits.{FrameLimits}
use Rattle.zk_watches.specs.Lists.{Lists}
use Rattle.zk_cache.specs.Cache.{Answers, data_kept, names_kept}
use Rattle.zk_turns.specs.View.{View, Cache}
use Rattle.zk_client.specs.declared.machine.Core.{Core}

-- what is kept for each path, on both sides
abbrev pub cache_of : Answers → Cache
cache_of answers = record { nodes = λ path. data_kept answers path; children = λ path. names_kept answers path }

-- the view, by the limits, the layers and the bytes that are held
abbrev pub shown : FrameLimits → (held : List ℕ) (halted : Bool) → SessionView → Talk → Lists → Answers → View
shown limits held halted kept talk lists answers = record {
  standing = record { halted = halted; state = kept.state };
  saved = kept.saved;
  moments = kept.moments;
  pending = talk.pending;
  held = held;
  xid = talk.xid;
  lists = lists;
  cache = cache_of answers;
  limits = limits;
}

abbrev pub view_with : {A : Type 0} → (held : List ℕ) → Core A → View
view_with held core = shown core.limits held core.halted core.session core.conversation core.registry core.cache

-- the view, while this was pending
abbrev pub while_pending : List Pending → View → View
while_pending pending view = record view { pending = pending }

-- the session as it was when the step began, except for its state and last seen zxid: it is put by where a step has another
-- one accepted
abbrev pub saved_by : Option SessionView → SessionView → Saved
saved_by (Some earlier) kept = earlier.saved
saved_by None kept = kept.saved

pub record Origin : Type 0 where
  pub asked : ℕ
  pub session : Welcome

abbrev pub origin_of : Saved → Origin
origin_of saved = record { asked = saved.asked; session = saved.session }

abbrev pub origin : {A : Type 0} → Core A → Origin
origin core = origin_of (saved_by core.earlier core.session)
