-- Moves of a driver, one after the other: what each of them keeps, lists of them keep.
use Rattle.std.proofs.Common.{◌≡◌, ◌++◌, ◌∙◌, List, [], ◌∷◌, ap, append-nil, append_assoc, refl, sym, subst}
use Rattle.std.specs.Prelude.{Result, Ok, Err, OnOk}
use Rattle.std.specs.List.{flat_map, FoldsTo}
use Rattle.zk_client.specs.Clients.{view_of}
use Rattle.zk_agent.specs.Agents.{IsLed}
use Rattle.zk_agent.specs.declared.input.AgentInput.{AgentInput}
use Rattle.zk_driver.specs.Driving.{ChannelView, Course, AreFollowed, Does, Goes, Hands, IsShutAgent, Meets, Move, Written, Looked}
use Rattle.zk_driver.specs.inner.Driving.{Notes}
use Rattle.zk_driver.specs.Driving.{Noted}
use Rattle.zk_driver.specs.Noting.{notes_by, notes_in, GoesBy, Note}
use Rattle.zk_driver.specs.declared.look.Look.{Look}

-- ---- what lasts

followed_by : {A : Type 0} (move : Move A) (old new : Course A) → Does old move new → AreFollowed old.agent → AreFollowed new.agent
followed_by {A} Written old new does followed = subst (λ (c : Course A). AreFollowed c.agent) (sym does.1) followed
followed_by {A} (Looked look) old new does followed = subst (λ (c : Course A). AreFollowed c.agent) (sym does.1) followed
followed_by (Noted now input) old new does followed = does.2.followed

led_by : {A : Type 0} (move : Move A) (old new : Course A) → Does old move new → IsLed (view_of old.agent.asker.follower.client)
    → IsLed (view_of new.agent.asker.follower.client)
led_by {A} Written old new does led = subst (λ (c : Course A). IsLed (view_of c.agent.asker.follower.client)) (sym does.1) led
led_by {A} (Looked look) old new does led = subst (λ (c : Course A). IsLed (view_of c.agent.asker.follower.client)) (sym does.1) led
led_by (Noted now input) old new does led = does.2.comes.led led

shut_by : {A : Type 0} (move : Move A) (old new : Course A) → Does old move new → IsShutAgent old.agent → IsShutAgent new.agent
shut_by {A} Written old new does shut = subst (λ (c : Course A). IsShutAgent c.agent) (sym does.1) shut
shut_by {A} (Looked look) old new does shut = subst (λ (c : Course A). IsShutAgent c.agent) (sym does.1) shut
shut_by (Noted now input) old new does shut = does.2.comes.shut shut

followed_through : {A : Type 0} (moves : List (Move A)) (old new : Course A)
    → FoldsTo Does old moves new → AreFollowed old.agent → AreFollowed new.agent
followed_through {A} [] old new same followed = subst (λ (c : Course A). AreFollowed c.agent) same followed
followed_through (move ∷ moves) old new does followed =
    followed_through moves does.0 new does.2 (followed_by move old does.0 does.1 followed)

led_through : {A : Type 0} (moves : List (Move A)) (old new : Course A)
    → FoldsTo Does old moves new → IsLed (view_of old.agent.asker.follower.client) → IsLed (view_of new.agent.asker.follower.client)
led_through {A} [] old new same led = subst (λ (c : Course A). IsLed (view_of c.agent.asker.follower.client)) same led
led_through (move ∷ moves) old new does led = led_through moves does.0 new does.2 (led_by move old does.0 does.1 led)

shut_through : {A : Type 0} (moves : List (Move A)) (old new : Course A)
    → FoldsTo Does old moves new → IsShutAgent old.agent → IsShutAgent new.agent
shut_through {A} [] old new same shut = subst (λ (c : Course A). IsShutAgent c.agent) same shut
shut_through (move ∷ moves) old new does shut = shut_through moves does.0 new does.2 (shut_by move old does.0 does.1 shut)

-- ---- moves

does_on : {A : Type 0} (moves more : List (Move A)) (old between new : Course A)
    → FoldsTo Does old moves between → FoldsTo Does between more new → FoldsTo Does old (moves ++ more) new
does_on {A} [] more old between new same rest = subst (λ (c : Course A). FoldsTo Does c more new) (sym same) rest
does_on (move ∷ moves) more old between new does rest = (does.0, does.1, does_on moves more does.0 between new does.2 rest)

come : {A : Type 0} (moves : List (Move A)) (old new : Course A) → FoldsTo Does old moves new → Goes old new
come moves old new does = record {
  moves = moves;
  does = does;
  followed = followed_through moves old new does;
  led = led_through moves old new does;
  shut = shut_through moves old new does;
}

-- nothing happened
pub same : {A : Type 0} (old new : Course A) → old ≡ new → Goes old new
same old new is = come [] old new is

-- what comes first, and what comes after it
pub after : {A : Type 0} (old between new : Course A) → Goes old between → Goes between new → Goes old new
after old between new first rest =
    come (first.moves ++ rest.moves) old new (does_on first.moves rest.moves old between new first.does rest.does)

pub ok_after : {A X E : Type 0} (result : Result X E) (old between new : Course A) → Goes old between → OnOk result (Goes between new)
    → OnOk result (Goes old new)
ok_after (Ok x) old between new first rest = after old between new first rest
ok_after (Err e) old between new first rest = tt

-- ---- what was told of connections

pub goes : {A : Type 0} (notes : List Note) (old new : Course A) → GoesBy notes old new → Goes old new
goes notes old new by = record { moves = by.moves; does = by.does; followed = by.followed; led = by.led; shut = by.shut }

pub ok_goes : {A X E : Type 0} (result : Result X E) (notes : List Note) (old new : Course A) → OnOk result (GoesBy notes old new)
    → OnOk result (Goes old new)
ok_goes (Ok x) notes old new by = goes notes old new by
ok_goes (Err e) notes old new by = tt

come_by : {A : Type 0} (notes : List Note) (moves : List (Move A)) (old new : Course A)
    → FoldsTo Does old moves new → flat_map notes_by moves ≡ notes → GoesBy notes old new
come_by notes moves old new does are =
    record {
      moves = moves;
      does = does;
      are = are;
      followed = followed_through moves old new does;
      led = led_through moves old new does;
      shut = shut_through moves old new does;
    }

notes_on : {A : Type 0} (moves more : List (Move A)) → flat_map notes_by (moves ++ more) ≡ flat_map notes_by moves ++ flat_map notes_by more
notes_on [] more = refl
notes_on (move ∷ moves) more = ap (λ ns. notes_by move ++ ns) (notes_on moves more)
    ∙ sym (append_assoc (notes_by move) (flat_map notes_by moves) (flat_map notes_by more))

-- nothing
pub same_by : {A : Type 0} (old new : Course A) → old ≡ new → GoesBy [] old new
same_by old new is = come_by [] [] old new is refl

pub written_by : {A : Type 0} (old new : Course A) → Does old Written new → GoesBy [] old new
written_by old new writes = come_by [] (Written ∷ []) old new (new, writes, refl) refl

pub looked_by : {A : Type 0} (look : Look) (old new : Course A) → Does old (Looked look) new → GoesBy [] old new
looked_by look old new looks = come_by [] (Looked look ∷ []) old new (new, looks, refl) refl

-- what comes first, and what comes after it
pub by_after : {A : Type 0} (notes more : List Note) (old between new : Course A)
    → GoesBy notes old between → GoesBy more between new → GoesBy (notes ++ more) old new
by_after notes more old between new first rest =
    come_by (notes ++ more) (first.moves ++ rest.moves) old new (does_on first.moves rest.moves old between new first.does rest.does)
    (notes_on first.moves rest.moves ∙ ap (λ ns. ns ++ flat_map notes_by rest.moves) first.are ∙ ap (λ ns. notes ++ ns) rest.are)

pub by_then : {A : Type 0} (notes : List Note) (old between new : Course A)
    → GoesBy notes old between → GoesBy [] between new → GoesBy notes old new
by_then notes old between new first rest = subst (λ ns. GoesBy ns old new) (append-nil notes) (by_after notes [] old between new first rest)

pub ok_by_after : {A X E : Type 0} (result : Result X E) (old between new : Course A)
    → GoesBy [] old between → OnOk result (GoesBy [] between new) → OnOk result (GoesBy [] old new)
ok_by_after (Ok x) old between new first rest = by_after [] [] old between new first rest
ok_by_after (Err e) old between new first rest = tt

pub ok_by_then : {A X E : Type 0} (result : Result X E) (notes : List Note) (old between new : Course A)
    → GoesBy notes old between → OnOk result (GoesBy [] between new)
    → OnOk result (GoesBy notes old new)
ok_by_then (Ok x) notes old between new first rest = by_then notes old between new first rest
ok_by_then (Err e) notes old between new first rest = tt

pub by_same_notes : {A : Type 0} (notes other : List Note) (old new : Course A)
    → other ≡ notes → GoesBy notes old new → GoesBy other old new
by_same_notes notes other old new is by = subst (λ ns. GoesBy ns old new) (sym is) by

-- the connection is written to
pub written : {A : Type 0} (old new : Course A) → Does old Written new → Goes old new
written old new writes = come (Written ∷ []) old new (new, writes, refl)

-- something happened, and the agent was handed it
pub noted_so : {A : Type 0} (input : AgentInput A) (old new : Course A) (between : ChannelView)
    → Meets old.channel input between → Hands input (record old { channel = between }) new → GoesBy (notes_in input) old new
noted_so input old new between meets hands =
    come_by (notes_in input) (Noted hands.now input ∷ Written ∷ []) old new
    (hands.between, (between, meets, hands.takes), (new, hands.writes, refl)) (append-nil (notes_in input))

pub noted : {A X E : Type 0} (result : Result X E) (input : AgentInput A) (old new : Course A) (between : ChannelView)
    → Meets old.channel input between
    → OnOk result (Hands input (record old { channel = between }) new) → OnOk result (GoesBy (notes_in input) old new)
noted (Ok x) input old new between meets hands = noted_so input old new between meets hands
noted (Err e) input old new between meets hands = tt

-- and it was the first thing
pub first_so : {A : Type 0} (input : AgentInput A) (old new : Course A) (between : ChannelView)
    → Meets old.channel input between → Hands input (record old { channel = between }) new → Notes input old new
first_so input old new between meets hands =
    record {
      now = hands.now;
      between = hands.between;
      noted = (between, meets, hands.takes);
      rest = written hands.between new hands.writes;
    }

pub first : {A X E : Type 0} (result : Result X E) (input : AgentInput A) (old new : Course A) (between : ChannelView)
    → Meets old.channel input between
    → OnOk result (Hands input (record old { channel = between }) new) → OnOk result (Notes input old new)
first (Ok x) input old new between meets hands = first_so input old new between meets hands
first (Err e) input old new between meets hands = tt

pub first_then : {A X E : Type 0} (result : Result X E) (input : AgentInput A) (old between new : Course A)
    → Notes input old between → OnOk result (GoesBy [] between new) → OnOk result (Notes input old new)
first_then (Ok x) input old between new notes rest =
    record {
      now = notes.now;
      between = notes.between;
      noted = notes.noted;
      rest = after notes.between between new notes.rest (goes [] between new rest);
    }
first_then (Err e) input old between new notes rest = tt
