-- A session whose changes are taken back.
use Rattle.std.specs.Prelude.{ℤ}
use Rattle.zk_session.specs.declared.states.State.{State}
use Rattle.zk_session.specs.SessionView.{SessionView}

-- the session, with this state and this last seen zxid
abbrev pub put_back : State → ℤ → SessionView → SessionView
put_back state last kept = record {
  state = state;
  saved = record { asked = kept.saved.asked; session = kept.saved.session; last = last };
  moments = kept.moments;
}
