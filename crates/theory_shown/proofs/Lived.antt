-- What a client that a script drives prints is the history's: deed by deed the client stays served, with what is under way counted, so each
-- look-up shows what the history has.
use Rattle.std.proofs.Common.{◌≡◌, ◌++◌, ◌∙◌, ℕ, Bool, true, false, List, [], ◌∷◌, ap, refl, sym}
use Rattle.std.proofs.Common.{subst}
use Rattle.std.specs.Prelude.{◌&&◌, ◌||◌, if◌then◌else◌, not}
use Rattle.std.specs.List.{list_any, FoldsTo}
use Rattle.zk_nodes.specs.History.{History, IsHistory}
use Rattle.zk_nodes.specs.declared.side.Side.TheVariants.{Child, Data}
use Rattle.zk_turns.specs.Turns as turns
use Rattle.zk_turns.specs.Turns.{Answer, Drop, Enters, Forgets, Input, Output, Report, Send, Turn, ends_connection}
use Rattle.zk_turns.specs.View.{Standing, View}
use Rattle.zk_turns.specs.Past.{is_open as is_going}
use Rattle.zk_turns.specs.Rule.{forgotten, Rule}
use Rattle.theory_serving.specs.GoingOn.{GoesOn}
use Rattle.theory_serving.specs.Shown.{connected, sent_in, EndsNothing, Shown}
use Rattle.theory_serving.specs.Wires.{is_up}
use Rattle.theory_serving.proofs.Views.{first_session, forget_session}
use Rattle.zk_bench.proofs.Processed.{goes_further}
use Rattle.script_live.specs.Exchanged.{Exchanges, Known}
use Rattle.theory_drivers.specs.Acts.{given_in, taken_in}
use Rattle.theory_drivers.proofs.Acted.{acts_keep, apart_kept}
use Rattle.theory_drivers.proofs.Heard.{input_keeps, IsHanded}
use Rattle.theory_drivers.proofs.Served.{known_gave, known_took}
use Rattle.theory_drivers.proofs.Turned.{cut_down, cut_kept, goes_nowhere, kept_down, let_go, opened_ends, opened_kept, stays_up, IsWithin}
use Rattle.theory_drivers.proofs.Turned.{Kept}
use Rattle.script_replay.specs.ClientLines.{CallLine, ClientValue, CutLine, ForgetLine, LastLine, NowLine, PeekLine, SavedLine}
use Rattle.script_replay.proofs.CourseLemmas.{forgets}
use Rattle.script_live.specs.Frames.{frames}
use Rattle.script_live.specs.Trails.{kept}
use Rattle.script_live.specs.Flowing.{bytes_of, Begins, Carries, Deed, Ends, Fails, Flow, Hears, HearsSo, IsMidway, Looks, Reads}
use Rattle.script_live.specs.Printed.{Prints}
use Rattle.theory_shown.specs.Lived.{AllCohere, Befalls, ByClient, ByKnown, DeedsMeet, LifeCoheres, LifeMeets, Meanwhile}
use Rattle.theory_shown.proofs.Going.{acts_on, kept_coheres, same_on}

-- ---- what is between a client and servers

record Bound (flow : Flow) (shown : Shown) : Type 0 where
  here : Kept flow.view flow.is_open flow.unsent flow.held shown
  tied : is_up flow.view ≡ true → flow.is_open ≡ true

-- a client whose connection is not there has none
down_of : (flow : Flow) (shown : Shown) → Bound flow shown → flow.is_open ≡ false → is_up flow.view ≡ false
down_of flow shown bound shut = by (is_up flow.view) refl
  where
    by : (b : Bool) → is_up flow.view ≡ b → b ≡ false
    by true up = let e : true ≡ false = sym (bound.tied up) ∙ shut in cc
    by false is = refl

frames_sent : (outputs : List Output) → frames outputs ≡ sent_in outputs
frames_sent [] = refl
frames_sent (Send bytes ∷ outputs) = ap (λ l. bytes ++ l) (frames_sent outputs)
frames_sent (Answer ticket outcome ∷ outputs) = frames_sent outputs
frames_sent (Report path side event ∷ outputs) = frames_sent outputs
frames_sent (Enters state ∷ outputs) = frames_sent outputs
frames_sent (Drop fault ∷ outputs) = frames_sent outputs

none_ends : (outputs : List Output) → EndsNothing outputs → list_any ends_connection outputs ≡ false
none_ends [] ends = refl
none_ends (output ∷ outputs) ends = ap (λ b. b || list_any ends_connection outputs) ends.0 ∙ none_ends outputs ends.1

stays_there : (outputs : List Output) (is_there : Bool) → EndsNothing outputs → is_there ≡ true → kept outputs is_there ≡ true
stays_there outputs is_there ends there = ap (λ b. if b then false else is_there) (none_ends outputs ends) ∙ there

there_before : (ends is_there : Bool) → (if ends then false else is_there) ≡ true → is_there ≡ true
there_before true is_there there = let e : false ≡ true = there in cc
there_before false is_there there = there

-- ---- bytes are written and read

-- some of what is unsent, and a piece, which is held after it
passed : (view : View) (there : Bool) (unsent rest piece : List ℕ) (old new : Known) (before after : Shown)
    → Meanwhile ByClient true unsent rest piece old new before after → there ≡ true → Kept view there unsent [] before
    → Kept view there rest piece after
passed view there unsent rest piece old new before after meets is k =
    subst (λ b. Kept view b rest piece after) (sym is)
    (subst (λ held. Kept view true rest held after) (sym meets.2.read)
    (acts_keep view meets.0 unsent rest [] before after meets.1 meets.2.wrote
    (subst (λ b. Kept view b unsent [] before) is k)))

-- a connection that is not there any more
left_kept : (view : View) (there : Bool) (unsent held rest : List ℕ) (before after : Shown)
    → GoesOn before.history after.history → Kept view there unsent held before → Kept view false rest held after
left_kept view there unsent held rest before after goes k =
    apart_kept view rest rest held before after goes (let_go view there unsent held rest before before k refl)

-- ---- one deed

module _ (old new : Flow) (before after : Shown) (bound : Bound old before) where
  reads_bound : Carries old Reads new
      → Meanwhile ByClient old.is_open old.unsent new.unsent new.held old.known new.known before after → Bound new after
  reads_bound carries meets = record {
    here = subst (λ v. Kept v new.is_open new.unsent new.held after) (sym carries.3) (by old.is_open refl meets);
    tied = λ up. carries.4 ∙ bound.tied (ap is_up (sym carries.3) ∙ up);
  }
    where
      none : Kept old.view old.is_open old.unsent [] before
      none = subst (λ held. Kept old.view old.is_open old.unsent held before) carries.1 bound.here

      by : (b : Bool) → old.is_open ≡ b → Meanwhile ByClient b old.unsent new.unsent new.held old.known new.known before after
          → Kept old.view new.is_open new.unsent new.held after
      by true there meets =
          subst (λ b. Kept old.view b new.unsent new.held after) (sym (carries.4 ∙ there))
          (passed old.view true old.unsent new.unsent new.held old.known new.known before after meets refl
          (subst (λ b. Kept old.view b old.unsent [] before) there none))
      by false shut meets =
          subst (λ b. Kept old.view b new.unsent new.held after) (sym (carries.4 ∙ shut))
          (subst (λ held. Kept old.view false new.unsent held after) (sym (carries.2 shut))
          (left_kept old.view old.is_open old.unsent [] new.unsent before after meets none))

  -- what the client says by a turn is written, and the connection may be over
  said_bound : (outputs : List Output) (there : Bool) (unsent : List ℕ) (known : Known) (shown : Shown)
      → Kept new.view there (unsent ++ sent_in outputs) [] shown
      → new.is_open ≡ kept outputs there → new.held ≡ []
      → Meanwhile ByClient new.is_open (unsent ++ frames outputs) new.unsent [] known new.known shown after
      → Kept new.view new.is_open new.unsent new.held after
  said_bound outputs there unsent known shown k lasts none meets =
      subst (λ held. Kept new.view new.is_open new.unsent held after) (sym none) (by new.is_open refl meets)
    where
      by : (b : Bool) → new.is_open ≡ b → Meanwhile ByClient b (unsent ++ frames outputs) new.unsent [] known new.known shown after
          → Kept new.view new.is_open new.unsent [] after
      by true open_now meets =
          let was : there ≡ true = there_before (list_any ends_connection outputs) there (sym lasts ∙ open_now) in
          subst (λ b. Kept new.view b new.unsent [] after) (was ∙ sym open_now)
          (passed new.view there (unsent ++ sent_in outputs) new.unsent [] known new.known shown after
          (subst (λ l. Meanwhile ByClient true (unsent ++ l) new.unsent [] known new.known shown after) (frames_sent outputs) meets) was k)
      by false shut meets =
          subst (λ b. Kept new.view b new.unsent [] after) (sym shut)
          (left_kept new.view there (unsent ++ sent_in outputs) [] new.unsent shown after meets k)

  hears_bound : (turn : Turn) → HearsSo old turn new → IsMidway turn.input
      → Meanwhile ByClient new.is_open (old.unsent ++ frames turn.outputs) new.unsent [] old.known new.known before after
      → Bound new after
  hears_bound turn hears midway meets = record {
    here = said_bound turn.outputs old.is_open old.unsent old.known before
        (input_keeps old.view new.view old.is_open old.unsent old.held [] before turn.input turn.outputs bound.here hears.0
        (within turn.input midway) (handed turn.input hears.2))
        hears.1 hears.3 meets;
    tied = λ up.
        let stays =
        stays_up old.view new.view bound.here.met bound.here.was turn.input turn.outputs hears.0 (within turn.input midway) up in
        hears.1 ∙ stays_there turn.outputs old.is_open stays.ends (bound.tied stays.up);
  }
    where
      within : (input : Input) → IsMidway input → IsWithin input
      within turns.Opened midway = absurd midway
      within (turns.Bytes bytes) midway = tt
      within turns.Cut midway = tt
      within (turns.Now moment) midway = tt
      within (turns.Call ticket asked) midway = tt

      handed : (input : Input) → bytes_of input ≡ old.held → IsHanded input old.held []
      handed turns.Opened is = is
      handed (turns.Bytes bytes) is = (is, refl)
      handed turns.Cut is = is
      handed (turns.Now moment) is = is
      handed (turns.Call ticket asked) is = is

  begins_bound : (turn : Turn) (carries : Carries old (Begins turn) new)
      → Befalls ByClient old (Begins turn) new carries before after → Bound new after
  begins_bound turn carries meets = record {
    here = said_bound turn.outputs true [] carries.0.0.known (connected meets.0 before) began
        (carries.0.2.1 ∙ ap (kept turn.outputs) carries.0.1.1) carries.0.2.3 meets.2;
    tied = λ up.
        carries.0.2.1 ∙ stays_there turn.outputs carries.0.0.is_open
        (opened_ends old.view new.view bound.here.met bound.here.was turn.outputs rule up) carries.0.1.1;
  }
    where
      rule : Rule old.view (record { input = turns.Opened; outputs = turn.outputs }) new.view
      rule =
          subst (λ (input : Input). Rule old.view (record { input = input; outputs = turn.outputs }) new.view) carries.1
          (subst (λ v. Rule v turn new.view) carries.0.1.0 carries.0.2.0)

      began : Kept new.view true (sent_in turn.outputs) [] (connected meets.0 before)
      began =
          opened_kept old.view new.view old.is_open old.unsent old.held (connected meets.0 before)
          (kept_down old.view old.is_open old.is_open old.unsent old.held old.unsent old.held before (connected meets.0 before) bound.here
          (down_of old before bound carries.2) refl)
          meets.0 before turn.outputs refl meets.1 rule

  ends_bound : (turn : Turn) → Carries old (Ends turn) new → GoesOn before.history after.history → Bound new after
  ends_bound turn carries goes = record {
    here =
        subst (λ b. Kept new.view b new.unsent new.held after) (sym carries.2)
        (left_kept new.view old.is_open new.unsent new.held new.unsent before after goes
        (cut_kept old.view new.view old.is_open old.unsent old.held before bound.here turn.outputs new.unsent new.held rule));
    tied = λ up. absurd (cut_down old.view new.view bound.here.met bound.here.was turn.outputs rule up);
  }
    where
      rule : Rule old.view (record { input = turns.Cut; outputs = turn.outputs }) new.view
      rule = subst (λ (input : Input). Rule old.view (record { input = input; outputs = turn.outputs }) new.view) carries.1 carries.0

  -- nothing else is another one
  same_bound : new ≡ old → after ≡ before → Bound new after
  same_bound is then_is = subst (λ (f : Flow). Bound f after) (sym is) (subst (λ (s : Shown). Bound old s) (sym then_is) bound)

  -- what a look-up leaves
  seen_bound : new ≡ record old { view = new.view } → new.view ≡ old.view → after ≡ before → Bound new after
  seen_bound rest is then_is = same_bound (rest ∙ ap (λ v. record old { view = v }) is) then_is

  forgets_bound : new ≡ record old { view = new.view } → new.view ≡ record old.view { cache = forgotten old.view.cache }
      → after ≡ before → Bound new after
  forgets_bound rest is then_is =
      subst (λ (f : Flow). Bound f after) (sym (rest ∙ ap (λ v. record old { view = v }) is))
      (subst (λ (s : Shown). Bound (record old { view = record old.view { cache = forgotten old.view.cache } }) s) (sym then_is) (record {
        here = record {
          met = bound.here.met;
          was = forget_session old.view bound.here.met bound.here.was (record old.view { cache = forgotten old.view.cache })
              (λ start items stands. forgets start items old.view stands);
          history = bound.here.history;
          here = bound.here.here;
          gone = bound.here.gone;
        };
        tied = bound.tied;
      }))

  looks_bound : (value : ClientValue) (text : List ℕ) → Carries old (Looks value text) new → after ≡ before → Bound new after
  looks_bound CutLine text carries is = absurd carries.1
  looks_bound (NowLine moment) text carries is = absurd carries.1
  looks_bound (CallLine asked) text carries is = absurd carries.1
  looks_bound (PeekLine Data path) text carries is = seen_bound carries.2 carries.0.0 is
  looks_bound (PeekLine Child path) text carries is = seen_bound carries.2 carries.0.0 is
  looks_bound LastLine text carries is = seen_bound carries.2 carries.0.0 is
  looks_bound SavedLine text carries is = seen_bound carries.2 carries.0.0 is
  looks_bound ForgetLine text carries is = forgets_bound carries.2 carries.0.0 is

deed_bound : (deed : Deed) (old new : Flow) (carries : Carries old deed new) (before after : Shown)
    → Befalls ByClient old deed new carries before after → Bound old before → Bound new after
deed_bound Reads old new carries before after meets bound = reads_bound old new before after bound carries meets
deed_bound (Hears turn) old new carries before after meets bound =
    hears_bound old new before after bound turn carries.0 carries.1 meets
deed_bound (Begins turn) old new carries before after meets bound = begins_bound old new before after bound turn carries meets
deed_bound (Ends turn) old new carries before after meets bound = ends_bound old new before after bound turn carries meets
deed_bound Fails old new carries before after meets bound = same_bound old new before after bound carries.0 meets
deed_bound (Looks value text) old new carries before after meets bound = looks_bound old new before after bound value text carries meets

meanwhile_on : (there : Bool) (unsent still piece : List ℕ) (old new : Known) (before after : Shown)
    → Meanwhile ByClient there unsent still piece old new before after → GoesOn before.history after.history
meanwhile_on true unsent still piece old new before after meets = acts_on meets.0 before after meets.1
meanwhile_on false unsent still piece old new before after meets = meets

deed_on : (deed : Deed) (old new : Flow) (carries : Carries old deed new) (before after : Shown)
    → Befalls ByClient old deed new carries before after → GoesOn before.history after.history
deed_on Reads old new carries before after meets =
    meanwhile_on old.is_open old.unsent new.unsent new.held old.known new.known before after meets
deed_on (Hears turn) old new carries before after meets =
    meanwhile_on new.is_open (old.unsent ++ frames turn.outputs) new.unsent [] old.known new.known before after meets
deed_on (Begins turn) old new carries before after meets =
    meanwhile_on new.is_open (frames turn.outputs) new.unsent [] carries.0.0.known new.known (connected meets.0 before) after meets.2
deed_on (Ends turn) old new carries before after meets = meets
deed_on Fails old new carries before after meets = same_on before after meets
deed_on (Looks value text) old new carries before after meets = same_on before after meets

-- ---- deeds

deeds_on : (deeds : List Deed) (old new : Flow) (carries : FoldsTo Carries old deeds new) (before after : Shown)
    → DeedsMeet (Befalls ByClient) deeds old new carries before after → GoesOn before.history after.history
deeds_on [] old new carries before after meets = same_on before after meets
deeds_on (deed ∷ deeds) old new carries before after meets =
    goes_further before.history meets.0.history after.history (deed_on deed old carries.0 carries.1 before meets.0 meets.1)
    (deeds_on deeds carries.0 new carries.2 meets.0 after meets.2)

all_cohere : (deeds : List Deed) (old new : Flow) (carries : FoldsTo Carries old deeds new) (before after : Shown) (history : History)
    → DeedsMeet (Befalls ByClient) deeds old new carries before after → Bound old before
    → GoesOn after.history history → IsHistory history → AllCohere history deeds old new carries
all_cohere [] old new carries before after history meets bound goes is = tt
all_cohere (deed ∷ deeds) old new carries before after history meets bound goes is =
    let later = goes_further meets.0.history after.history history (deeds_on deeds carries.0 new carries.2 meets.0 after meets.2) goes in
    let then_bound = deed_bound deed old carries.0 carries.1 before meets.0 meets.1 bound in (
      kept_coheres carries.0.view carries.0.is_open carries.0.unsent carries.0.held meets.0 history then_bound.here later is,
      all_cohere deeds carries.0 new carries.2 meets.0 after history meets.2 then_bound goes is,
    )

begun_bound : (first last : Flow) (text : List ℕ) (prints : Prints first last [] text) (after : Shown)
    (meets : LifeMeets ByClient first last text prints after) → Bound first meets.before
begun_bound first last text prints after meets = record {
  here = record {
    met = meets.before;
    was = first_session meets.start first.view meets.before meets.resumable meets.timed meets.stands;
    history = refl;
    here = λ up there. let e : true ≡ false = sym up ∙ down in cc;
    gone = λ up there. let e : true ≡ false = sym up ∙ down in cc;
  };
  tied = λ up. let e : true ≡ false = sym up ∙ down in cc;
}
  where
    down : is_up first.view ≡ false
    down = ap (λ (t : Standing). is_going t.state && not t.halted) meets.stands.standing

pub life_coheres : LifeCoheres ByClient
life_coheres first last text prints after meets =
    all_cohere prints.deeds first last prints.carries meets.before after after.history meets.meets
    (begun_bound first last text prints after meets) (goes_nowhere after.history) meets.history

-- ---- what goes on otherwise

-- Where each deed is beside another world too, so are deeds.
module _ {World Other : Type 0} (seen : World → Other)
    (Falls : (old : Flow) → (deed : Deed) → (new : Flow) → Carries old deed new → (before after : World) → Type 0)
    (Too : (old : Flow) → (deed : Deed) → (new : Flow) → Carries old deed new → (before after : Other) → Type 0)
    (each : (deed : Deed) (old new : Flow) (carries : Carries old deed new) (before after : World)
    → Falls old deed new carries before after → Too old deed new carries (seen before) (seen after)) where
  pub deeds_too : (deeds : List Deed) (old new : Flow) (carries : FoldsTo Carries old deeds new) (before after : World)
      → DeedsMeet Falls deeds old new carries before after → DeedsMeet Too deeds old new carries (seen before) (seen after)
  deeds_too [] old new carries before after same = ap seen same
  deeds_too (deed ∷ deeds) old new carries before after meets = (
    seen meets.0,
    each deed old carries.0 carries.1 before meets.0 meets.1,
    deeds_too deeds carries.0 new carries.2 meets.0 after meets.2,
  )

-- ---- by what streams know

meanwhile_client : (there : Bool) (unsent still piece : List ℕ) (old new : Known) (before after : Shown)
    → (there ≡ true → Exchanges unsent still old new piece) → Meanwhile ByKnown there unsent still piece old new before after
    → Meanwhile ByClient there unsent still piece old new before after
meanwhile_client true unsent still piece old new before after exchanges meets =
    let sends = (exchanges refl).sends in
    let took = known_took meets.2.before (taken_in meets.0) sends.0 old.took new.took meets.2.taken meets.2.then_taken sends.2 in
    let gave = known_gave (given_in meets.0) meets.2.rest piece old.left new.left meets.2.left meets.2.then_left (exchanges refl).gives in
    (meets.0, meets.1, record { wrote = sends.1 ∙ ap (λ l. l ++ still) (sym took); read = sym gave })
meanwhile_client false unsent still piece old new before after exchanges meets = meets

befalls_client : (deed : Deed) (old new : Flow) (carries : Carries old deed new) (before after : Shown)
    → Befalls ByKnown old deed new carries before after → Befalls ByClient old deed new carries before after
befalls_client Reads old new carries before after meets =
    meanwhile_client old.is_open old.unsent new.unsent new.held old.known new.known before after (λ there. carries.0) meets
befalls_client (Hears turn) old new carries before after meets =
    meanwhile_client new.is_open (old.unsent ++ frames turn.outputs) new.unsent [] old.known new.known before after carries.0.4 meets
befalls_client (Begins turn) old new carries before after meets = (
  meets.0,
  meets.1,
  meanwhile_client new.is_open (frames turn.outputs) new.unsent [] carries.0.0.known new.known (connected meets.0 before) after
      (λ there. subst (λ l. Exchanges (l ++ frames turn.outputs) new.unsent carries.0.0.known new.known []) carries.0.1.2
      (carries.0.2.4 there)) meets.2,
)
befalls_client (Ends turn) old new carries before after meets = meets
befalls_client Fails old new carries before after meets = meets
befalls_client (Looks value text) old new carries before after meets = meets

pub known_coheres : LifeCoheres ByKnown
known_coheres first last text prints after meets = life_coheres first last text prints after (record {
  apart = meets.apart;
  start = meets.start;
  stands = meets.stands;
  resumable = meets.resumable;
  timed = meets.timed;
  before = meets.before;
  meets = deeds_too (λ (s : Shown). s) (Befalls ByKnown) (Befalls ByClient) befalls_client prints.deeds first last prints.carries
      meets.before after meets.meets;
  history = meets.history;
})
