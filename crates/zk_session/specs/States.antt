-- What the state of a session says of it.
use Rattle.std.specs.Prelude.{Bool, true, false}
use Rattle.zk_session.specs.declared.states.State.{State}
use Rattle.zk_session.specs.declared.states.State.TheVariants.{Connecting, Connected, Expired, Closed}

-- the state in which a server has accepted the session, and calls are sent
abbrev pub is_talking : State → Bool
is_talking Connected = true
is_talking _ = false

-- the states in which there is a connection
abbrev pub is_open : State → Bool
is_open Connecting = true
is_open Connected = true
is_open _ = false

-- the states that nothing ends
abbrev pub is_final : State → Bool
is_final Expired = true
is_final Closed = true
is_final _ = false
