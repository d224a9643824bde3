-- What a moment makes a client say: by its state, and by the tests of silence and of a ping in their order.
use Rattle.std.proofs.Common.{◌≡◌, ◌≤◌, ◌<◌, ℕ, Bool, true, false, cond, ◌&&◌, List, [], ◌∷◌, refl, ap, ◌∙◌, inl, inr, arith}
use Rattle.std.specs.Prelude.{nat_le, max, ◌*◌, ◌-◌}
use Rattle.std.proofs.lemmas.Bool.Decides.{nat_tests}
use Rattle.std.proofs.lemmas.List.{append-nil}
use Rattle.zk_session.specs.declared.states.State.{State}
use Rattle.zk_session.specs.declared.states.State.TheVariants.{Idle, Connecting, Connected, Expired, Closed}
use Rattle.zk_frames.specs.Frame.{frame}
use Rattle.zk_conversation.specs.Calls.{ping_payload}
use Rattle.zk_turns.specs.Turns.{Turn, Output, Send, Drop, Silent, Ticks, signals_of}
use Rattle.zk_turns.specs.Past.{is_open, is_talking, Happening, Pinged, Dropped, Ticked}
use Rattle.zk_turns.specs.View.{View}
use Rattle.zk_turns.specs.Taken.{if_open, caused}
use Rattle.zk_turns.specs.Rule.{IsOpen, losses, next, says_all, says_signals}
use Rattle.zk_turns.proofs.Stepped.{one_signal_says}
use Rattle.theory_rules.specs.Ticking.{IsToldOf, GoesBy, unheard_for, unsent_for, PingIsSent, ConnectionIsGivenUp, NothingIsSent}
use Rattle.theory_rules.specs.Ticking.{NothingWhileConnecting, NothingElsewhere}

-- by the state, what falls due
abbrev timeout_in : State → View → ℕ
timeout_in state view = elim state [ Connecting ↦ view.saved.asked | _ ↦ view.saved.session.timeout ]

abbrev by_tests : Bool → Bool → List Happening
by_tests silent unsent = cond silent (Dropped Silent ∷ []) (cond unsent (Pinged ∷ []) [])

abbrev falls_due : State → View → ℕ → List Happening
falls_due state view now =
    if_open state (by_tests (nat_le (2 * timeout_in state view) (3 * (now - view.moments.heard)))
    (is_talking state && nat_le (timeout_in state view) (3 * (now - view.moments.sent))))

module _ (moment : ℕ) (view after : View) (turn : Turn) (told : IsToldOf moment view turn after) where
  abbrev said : List Happening → List Output
  said happenings = says_all (next view (Ticked moment)) happenings

  tick_says : turn.outputs ≡ said (falls_due view.standing.state view (max moment view.moments.now))
  tick_says =
      told.rule.outputs ∙ ap (λ input. says_signals view (signals_of input)) told.told ∙ one_signal_says view (Ticks moment)
      ∙ ap (λ b. says_all view (cond b [] (caused view (Ticks moment)))) told.rule.goes_on

  says_in : (state : State) → view.standing.state ≡ state → turn.outputs ≡ said (falls_due state view (max moment view.moments.now))
  says_in state e = tick_says ∙ ap (λ s. said (falls_due s view (max moment view.moments.now))) e

  tested : (silent unsent a b : Bool) → silent ≡ a → unsent ≡ b → said (by_tests silent unsent) ≡ said (by_tests a b)
  tested silent unsent a b e f = ap (λ s. said (by_tests s unsent)) e ∙ ap (λ u. said (by_tests a u)) f

  dropped : (silent unsent : Bool) → silent ≡ true → said (by_tests silent unsent) ≡ Drop Silent ∷ losses view
  dropped silent unsent e = ap (λ s. said (by_tests s unsent)) e ∙ append-nil (Drop Silent ∷ losses view)

  ping_here : view.standing.state ≡ Connected → view.saved.session.timeout ≤ 3 * unsent_for view moment
      → 3 * unheard_for view moment < 2 * view.saved.session.timeout → turn.outputs ≡ Send (frame ping_payload) ∷ []
  ping_here e a b =
      let s : nat_le (2 * view.saved.session.timeout) (3 * unheard_for view moment) ≡ false = grind (arith, nat_tests) in
      let u : nat_le view.saved.session.timeout (3 * unsent_for view moment) ≡ true = grind (arith, nat_tests) in
      says_in Connected e ∙ tested _ _ false true s u

  none_here : view.standing.state ≡ Connected → 3 * unsent_for view moment < view.saved.session.timeout
      → 3 * unheard_for view moment < 2 * view.saved.session.timeout → turn.outputs ≡ []
  none_here e a b =
      let s : nat_le (2 * view.saved.session.timeout) (3 * unheard_for view moment) ≡ false = grind (arith, nat_tests) in
      let u : nat_le view.saved.session.timeout (3 * unsent_for view moment) ≡ false = grind (arith, nat_tests) in
      says_in Connected e ∙ tested _ _ false false s u

  connecting_here : view.standing.state ≡ Connecting → 3 * unheard_for view moment < 2 * view.saved.asked → turn.outputs ≡ []
  connecting_here e b =
      let s : nat_le (2 * view.saved.asked) (3 * unheard_for view moment) ≡ false = grind (arith, nat_tests) in
      says_in Connecting e ∙ tested _ _ false false s refl

  silence_here : (timeout : ℕ) → GoesBy view timeout → 2 * timeout ≤ 3 * unheard_for view moment → turn.outputs ≡ Drop Silent ∷ losses view
  silence_here timeout (inl g) a =
      let t = g.1 in
      let s : nat_le (2 * view.saved.asked) (3 * unheard_for view moment) ≡ true = grind (arith, nat_tests) in
      says_in Connecting g.0 ∙ dropped _ false s
  silence_here timeout (inr g) a =
      let t = g.1 in
      let s : nat_le (2 * view.saved.session.timeout) (3 * unheard_for view moment) ≡ true = grind (arith, nat_tests) in
      says_in Connected g.0 ∙ dropped _ (nat_le view.saved.session.timeout (3 * unsent_for view moment)) s

  nowhere_here : (state : State) → view.standing.state ≡ state → ¬ IsOpen view.standing.state → turn.outputs ≡ []
  nowhere_here Connecting e n = absurd (n (ap is_open e))
  nowhere_here Connected e n = absurd (n (ap is_open e))
  nowhere_here Idle e n = says_in Idle e
  nowhere_here Expired e n = says_in Expired e
  nowhere_here Closed e n = says_in Closed e

pub ping_sent : PingIsSent
ping_sent moment view after turn told e a b = ping_here moment view after turn told e a b

pub given_up : ConnectionIsGivenUp
given_up moment timeout view after turn told g a = silence_here moment view after turn told timeout g a

pub nothing_sent : NothingIsSent
nothing_sent moment view after turn told e a b = none_here moment view after turn told e a b

pub nothing_connecting : NothingWhileConnecting
nothing_connecting moment view after turn told e b = connecting_here moment view after turn told e b

pub nothing_elsewhere : NothingElsewhere
nothing_elsewhere moment view after turn told n = nowhere_here moment view after turn told view.standing.state refl n
