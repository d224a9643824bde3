-- What a moment makes a client do.
use Rattle.std.specs.Prelude.{◌≡◌, ◌⊎◌, ◌≤◌, ◌<◌, ◌*◌, ◌-◌, ℕ, max, [], ◌∷◌}
use Rattle.zk_session.specs.declared.states.State.TheVariants.{Connecting, Connected}
use Rattle.zk_frames.specs.Frame.{frame}
use Rattle.zk_conversation.specs.Calls.{ping_payload}
use Rattle.zk_turns.specs.Turns.{Turn, Now, Send, Drop, Silent}
use Rattle.zk_turns.specs.View.{View}
use Rattle.zk_turns.specs.Rule.{Rule, IsOpen, losses}

-- how long nothing has been heard at a moment, and how long nothing has been sent; a moment before the latest one is that one
abbrev pub unheard_for : View → ℕ → ℕ
unheard_for view moment = max moment view.moments.now - view.moments.heard

abbrev pub unsent_for : View → ℕ → ℕ
unsent_for view moment = max moment view.moments.now - view.moments.sent

-- a turn by the rule in which a moment is told
pub record IsToldOf (moment : ℕ) (view : View) (turn : Turn) (after : View) : Type 0 where
  pub rule : Rule view turn after
  pub told : turn.input ≡ Now moment

-- The timeout that a client goes by: the one that it asks for while it connects, and then the one that was granted.
abbrev pub GoesBy : View → ℕ → Type 0
GoesBy view timeout =
    ((view.standing.state ≡ Connecting) × (timeout ≡ view.saved.asked))
    ⊎ ((view.standing.state ≡ Connected) × (timeout ≡ view.saved.session.timeout))

-- A third of the timeout has passed with nothing sent, and less than two thirds with nothing heard: a ping is sent, and nothing else.
abbrev pub PingIsSent : Type 0
PingIsSent = (moment : ℕ) (view after : View) (turn : Turn) → IsToldOf moment view turn after → view.standing.state ≡ Connected
    → view.saved.session.timeout ≤ 3 * unsent_for view moment → 3 * unheard_for view moment < 2 * view.saved.session.timeout
    → turn.outputs ≡ Send (frame ping_payload) ∷ []

-- Two thirds of it have passed with nothing heard: the connection is given up, and what was pending is answered.
abbrev pub ConnectionIsGivenUp : Type 0
ConnectionIsGivenUp = (moment timeout : ℕ) (view after : View) (turn : Turn) → IsToldOf moment view turn after → GoesBy view timeout
    → 2 * timeout ≤ 3 * unheard_for view moment
    → turn.outputs ≡ Drop Silent ∷ losses view

-- Neither has passed: nothing is said.
abbrev pub NothingIsSent : Type 0
NothingIsSent = (moment : ℕ) (view after : View) (turn : Turn) → IsToldOf moment view turn after → view.standing.state ≡ Connected
    → 3 * unsent_for view moment < view.saved.session.timeout → 3 * unheard_for view moment < 2 * view.saved.session.timeout
    → turn.outputs ≡ []

-- While a client connects it sends no ping.
abbrev pub NothingWhileConnecting : Type 0
NothingWhileConnecting = (moment : ℕ) (view after : View) (turn : Turn) → IsToldOf moment view turn after → view.standing.state ≡ Connecting
    → 3 * unheard_for view moment < 2 * view.saved.asked
    → turn.outputs ≡ []

-- Without a connection a moment makes a client say nothing.
abbrev pub NothingElsewhere : Type 0
NothingElsewhere = (moment : ℕ) (view after : View) (turn : Turn) → IsToldOf moment view turn after → ¬ IsOpen view.standing.state
    → turn.outputs ≡ []
