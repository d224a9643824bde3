-- How a session is ended, and that each client of which something is printed was led: move by move, as each turn leads the client from
-- where it stood.
use Rattle.std.proofs.Common.{Bool, ◌≡◌, ◌≢◌, ◌++◌, ℕ, List, [], ◌∷◌, Option, Some, inl, inr, refl, sym, subst}
use Rattle.std.specs.Prelude.{Result, Ok, Err, OnOk, IfErr, ◌⊎◌}
use Rattle.std.specs.Io.KnownBytes.{Appends}
use Rattle.std.proofs.KnownBytes.{Appends-nil, Appends-trans}
use Rattle.std.specs.List.{FoldsTo}
use Rattle.zk_link.specs.FarEnds.{FarEnd}
use Rattle.zk_nodes.specs.Path.{Text}
use Rattle.zk_nodes.specs.declared.side.Side.{Side}
use Rattle.zk_session.specs.declared.states.State.TheVariants.{Connected}
use Rattle.zk_conversation.specs.declared.call.Call.TheVariants as call
use Rattle.zk_turns.specs.Turns.{Start, new_start}
use Rattle.zk_turns.specs.View.{view_at}
use Rattle.zk_client.specs.Clients.{view_of}
use Rattle.zk_agent.specs.Agents.{IsLed}
use Rattle.zk_agent.specs.declared.input.AgentInput.{AgentInput}
use Rattle.zk_agent.specs.declared.input.AgentInput.TheVariants as happens
use Rattle.zk_driver.specs.Driving.{Course, Hands}
use Rattle.shell_watch.specs.declared.plan.Style.{Style}
use Rattle.shell_watch.specs.Watching.{view_in, AllStood, PlantsAll, Prepares, end_of, Closes}
use Rattle.shell_watch.specs.Watching.{Does, EndsFrom, FollowsAll, HasCome, IsBegun, IsOver, IsPrinted, IsWatched, Move, Prints, PrintsFrom}
use Rattle.shell_watch.specs.Watching.{Stand, Takes}
use Rattle.shell_watch.specs.inner.Watching.{Writes, WritesEnd, WritesOn}
use Rattle.shell_watch.proofs.Printing.{after, none, on_after, one, writes_none}

-- ---- the end of a session

-- where there is none
pub ends_none : {A : Type 0} {far : FarEnd} (here : Stand A far) (a : Option (List ℕ))
    → (view_in here).standing.state ≢ Connected → WritesEnd here here a a
ends_none here a parted = ([], none here, record { asks = λ yes. absurd (parted yes); rests = λ no. refl }, Appends-nil a)

-- where it is asked for
ends_so : {A : Type 0} {far : FarEnd} (until : ℕ) (old asked new : Stand A far) (a b : Option (List ℕ))
    → (view_in old).standing.state ≡ Connected → Does old (Closes until) asked → Writes asked new a b
    → WritesEnd old new a b
ends_so until old asked new a b connected does rest = (
  rest.0,
  after old asked new [] rest.0 (one (Closes until) old asked does) rest.1,
  record { asks = λ yes. tt; rests = λ no. absurd (no connected) },
  rest.2,
)

pub ok_ends : {A X E : Type 0} {far : FarEnd} (result : Result X E) (until : ℕ) (old asked new : Stand A far) (a b : Option (List ℕ))
    → (view_in old).standing.state ≡ Connected → Does old (Closes until) asked
    → OnOk result (Writes asked new a b) → OnOk result (WritesEnd old new a b)
ok_ends (Ok x) until old asked new a b connected does rest = ends_so until old asked new a b connected does rest
ok_ends (Err e) until old asked new a b connected does rest = tt

-- nothing was
pub err_none : {A X E : Type 0} {far : FarEnd} (P : E → Type 0) (result : Result X E) (here : Stand A far) (a : Option (List ℕ))
    → IfErr result (λ why. P why → WritesOn here a a)
err_none P (Ok x) here a = tt
err_none P (Err e) here a = λ well. (here, writes_none here a)

-- what was written by then
pub err_asked : {A X E : Type 0} {far : FarEnd} (P : E → Type 0) (result : Result X E) (until : ℕ)
    (old asked : Stand A far) (a b : Option (List ℕ))
    → Does old (Closes until) asked
    → IfErr result (λ why. P why → WritesOn asked a b) → IfErr result (λ why. P why → WritesOn old a b)
err_asked P (Ok x) until old asked a b does rest = tt
err_asked P (Err e) until old asked a b does rest =
    λ well. on_after old asked a a b ([], one (Closes until) old asked does, Appends-nil a) (rest well)

-- ---- a watch whose time is over

pub ok_over : {A X E : Type 0} {far : FarEnd} (result : Result X E) (for_ms : Option ℕ) (begins : ℕ) (ready over last : Stand A far)
    (a b c : Option (List ℕ))
    → Writes ready over a b → HasCome (end_of begins for_ms) over
    → OnOk result (WritesEnd over last b c) → OnOk result ((text : List ℕ) × IsOver for_ms ready last text × Appends a c text)
ok_over (Ok x) for_ms begins ready over last a b c first comes rest = (
  first.0 ++ rest.0,
  record {
    begins = begins;
    over = over;
    told = first.0;
    rest = rest.0;
    prints = first.1;
    comes = comes;
    closes = rest.1;
    ends = rest.2;
    are = refl;
  },
  Appends-trans a b c first.0 rest.0 first.2 rest.3,
)
ok_over (Err e) for_ms begins ready over last a b c first comes rest = tt

pub ends_from : {A : Type 0} {far : FarEnd} (aims : List (Side × Text)) (roots : List Text) (for_ms : Option ℕ)
    (first ready last : Stand A far) (text : List ℕ) (is_accepted : Bool) → Prepares aims roots first ready
    → IsOver for_ms ready last text → last.is_accepted ≡ is_accepted → EndsFrom aims roots for_ms first text is_accepted
ends_from aims roots for_ms first ready last text is_accepted follows over accepted =
    record { ready = ready; last = last; follows = follows; over = over; accepted = accepted }

pub over_prints : {A : Type 0} {far : FarEnd} (aims : List (Side × Text)) (roots : List Text) (for_ms : Option ℕ)
    (first ready last : Stand A far) (text : List ℕ)
    → Prepares aims roots first ready → IsOver for_ms ready last text
    → PrintsFrom aims roots first text
over_prints {A} aims roots for_ms first ready last text follows is = record {
  ready = ready;
  last = last;
  follows = follows;
  prints = subst (λ (t : List ℕ). Prints ready t last) (sym is.are) (after ready is.over last is.told is.rest is.prints is.closes);
}

pub prints_from : {A : Type 0} {far : FarEnd} (aims : List (Side × Text)) (roots : List Text) (first ready : Stand A far)
    (a b : Option (List ℕ)) → Prepares aims roots first ready → WritesOn ready a b
    → (text : List ℕ) × ((text ≡ []) ⊎ PrintsFrom aims roots first text) × Appends a b text
prints_from aims roots first ready a b follows writes =
    (writes.1.0, inr (record { ready = ready; last = writes.0; follows = follows; prints = writes.1.1 }), writes.1.2)

-- ---- led

hands_led : {A : Type 0} (input : AgentInput A) (old new : Course A) → Hands input old new → IsLed (view_of old.agent.asker.follower.client)
    → IsLed (view_of new.agent.asker.follower.client)
hands_led {A} input old new hands led =
    subst (λ (c : Course A). IsLed (view_of c.agent.asker.follower.client)) (sym hands.writes.1) (hands.takes.comes.led led)

does_led : {A : Type 0} {far : FarEnd} (move : Move A) (old new : Stand A far)
    → Does old move new → IsLed (view_in old) → IsLed (view_in new)
does_led (Takes turn text) old new turns led = turns.goes.led led
does_led (Closes until) old new does led = hands_led (happens.Call 0 call.Close (Some until)) old.course new.course does.0 led

all_stood : {A : Type 0} {far : FarEnd} (moves : List (Move A)) (old new : Stand A far)
    (does : FoldsTo Does old moves new) → IsLed (view_in old)
    → AllStood moves old new does
all_stood [] old new does led = tt
all_stood (move ∷ moves) old new does led =
    let next = does_led move old does.0 does.1 led in
    (next, all_stood moves does.0 new does.2 next)

led_on : {A : Type 0} {far : FarEnd} (moves : List (Move A)) (old new : Stand A far)
    → FoldsTo Does old moves new → IsLed (view_in old) → IsLed (view_in new)
led_on {A} {far} [] old new same led = subst (λ (s : Stand A far). IsLed (view_in s)) same led
led_on (move ∷ moves) old new does led = led_on moves does.0 new does.2 (does_led move old does.0 does.1 led)

subjects_led : {A : Type 0} {far : FarEnd} (aims : List (Side × Text)) (first ready : Stand A far)
    → FollowsAll aims first ready → IsLed (view_in first) → IsLed (view_in ready)
subjects_led {A} {far} [] first ready same led = subst (λ (s : Stand A far). IsLed (view_in s)) same led
subjects_led (aim ∷ aims) first ready all led =
    subjects_led aims all.0 ready all.2 (hands_led (happens.Follow _ aim.0 aim.1) first.course all.0.course all.1.hands led)

trees_led : {A : Type 0} {far : FarEnd} (roots : List Text) (first ready : Stand A far)
    → PlantsAll roots first ready → IsLed (view_in first) → IsLed (view_in ready)
trees_led {A} {far} [] first ready same led = subst (λ (s : Stand A far). IsLed (view_in s)) same led
trees_led (root ∷ roots) first ready all led =
    trees_led roots all.0 ready all.2 (hands_led (happens.FollowTree _ root _) first.course all.0.course all.1.hands led)

prepared_led : {A : Type 0} {far : FarEnd} (aims : List (Side × Text)) (roots : List Text) (first ready : Stand A far)
    → Prepares aims roots first ready → IsLed (view_in first) → IsLed (view_in ready)
prepared_led aims roots first ready prepares led =
    trees_led roots prepares.between ready prepares.plants (subjects_led aims first prepares.between prepares.follows led)

-- a new client
fresh : (start : Start) → IsLed (view_at start [])
fresh start = (start, [], record { standing = refl; saved = refl; lists = refl; cache = refl; going = λ _. refl; said = tt; asked = tt })

begun_led : {A : Type 0} {far : FarEnd} (style : Style) (most : ℕ) (first : Stand A far)
    → IsBegun style most first → IsLed (view_in first)
begun_led style most first begun = subst IsLed (sym begun.client) (fresh (new_start begun.timeout))

-- ---- the whole

module _ {A : Type 0} {far : FarEnd} (style : Style) (aims : List (Side × Text)) (roots : List Text) (most : ℕ)
    (first : Stand A far) (text : List ℕ) where
  pub printed : IsBegun style most first → (text ≡ []) ⊎ PrintsFrom aims roots first text
      → IsPrinted A far style aims roots most text
  printed begun (inl none) = inl none
  printed begun (inr from) =
      let led = prepared_led aims roots first from.ready from.follows (begun_led style most first begun) in
      inr (first, begun, from, all_stood from.prints.moves from.ready from.last from.prints.does led)

  pub watched : (for_ms : Option ℕ) (is_accepted : Bool)
      → IsBegun style most first → EndsFrom aims roots for_ms first text is_accepted
      → IsWatched A far style aims roots most for_ms text is_accepted
  watched for_ms is_accepted begun from =
      let led = prepared_led aims roots first from.ready from.follows (begun_led style most first begun) in
      let over = from.over in (
        first,
        begun,
        from,
        all_stood over.prints.moves from.ready over.over over.prints.does led,
        all_stood over.closes.moves over.over from.last over.closes.does
            (led_on over.prints.moves from.ready over.over over.prints.does led),
      )
