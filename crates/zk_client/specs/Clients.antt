-- What a client shows.
use Rattle.std.specs.Prelude.{◌≡◌, ℤ, unsigned_abs}
use Rattle.zk_session.specs.SessionView.{Saved as Kept_saved}
use Rattle.zk_session.specs.declared.fields.Saved.{Saved}
use Rattle.zk_frames.specs.Limits.{standard_limits}
use Rattle.zk_turns.specs.Turns.{Start, new_start}
use Rattle.zk_cache.specs.Cache.{Answers}
use Rattle.zk_turns.specs.View.{View}
use Rattle.zk_client.specs.declared.client.Client.{Client}
use Rattle.std.specs.FinMap as finite

-- THE view of a client, in nine fields
abbrev pub view_of : {A : Type 0} → Client A → View
view_of client =
    let answers : Answers = client.core.cache in
    record {
      standing = record { halted = client.core.halted; state = client.core.session.state };
      saved = client.core.session.saved;
      moments = client.core.session.moments;
      pending = client.core.conversation.pending;
      held = client.reader.bytes;
      xid = client.core.conversation.xid;
      lists = client.core.registry;
      cache = record {
        nodes = λ path. finite.get answers.data_answers path;
        children = λ path. finite.get answers.child_answers path;
      };
      limits = client.core.limits;
    }

-- a saved session to begin with
abbrev pub saved_start : (timeout : ℤ) → Saved → Start
saved_start timeout saved =
    record {
      timeout = unsigned_abs timeout;
      session = saved.session;
      password = saved.password.now;
      last = saved.last_zxid;
      limits = standard_limits;
    }

-- What a client begins with that goes on after this one: no session, as a new client, the last seen zxid and the limits.
abbrev pub renewed_start : (timeout : ℤ) → View → Start
renewed_start timeout before = record (new_start (unsigned_abs timeout)) { last = before.saved.last; limits = before.limits }

-- what is told of a saved session
pub record Tells (kept : Kept_saved) (saved : Saved) : Type 0 where
  pub session : saved.session ≡ kept.session.session
  pub password : saved.password.now ≡ kept.session.password
  pub last : saved.last_zxid ≡ kept.last
