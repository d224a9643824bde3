-- A client stands where all that its lines made happen has led, and prints what the definitions give for that: line by line, each one turn
-- more or a look-up, which changes nothing.
use Rattle.std.proofs.Common.{◌≡◌, ℕ, List, [], ◌∷◌, IfOk, is_some, refl, sym, ap, subst, ◌∙◌}
use Rattle.std.specs.Prelude.{Option, Some, None, Result, Ok, Err, String, string_bytes}
use Rattle.zk_nodes.specs.Path.{Text}
use Rattle.zk_nodes.specs.declared.side.Side.TheVariants.{Data, Child}
use Rattle.zk_turns.specs.Turns.{Input, Opened, Bytes, Cut, Now, Call, Output, Start, Item, Turned, Forgets}
use Rattle.zk_turns.specs.View.{View, Cache, view_at}
use Rattle.zk_turns.specs.Rule.{Stands, forgotten}
use Rattle.zk_turns.proofs.Stepped.{one_turn as turn_stands}
use Rattle.script_words.specs.Pieces.{words_of}
use Rattle.script_words.specs.declared.stop.LineStop.{LineStop}
use Rattle.script_replay.specs.ClientLines.{ClientValue, CutLine, NowLine, CallLine, PeekLine, LastLine, ForgetLine, SavedLine}
use Rattle.script_replay.specs.ReplayLines.{DriveValue, OpenedLine, BytesLine, SentLine, ClientValueLine}
use Rattle.script_replay.specs.ReplayLines.{ReplayValue, Begins, Drives, says_at}
use Rattle.script_replay.specs.Shown.{TellsAll, TellsKept, kept_line, last_line, saved_line}
use Rattle.script_replay.specs.Played.{start_of, TakesTurn, DoesClient, DoesDrive, Does, HaltsLine, TakesLine}
use Rattle.script_replay.specs.Replays.{Moves, Position, rules}
use Rattle.script_words.specs.Scripts.{IsDue}
use Rattle.script_words.specs.Said.{DoesSome}
use Rattle.script_words.specs.Stops.{IfHalted}
use Rattle.script_words.specs.inner.Stops.{IsDueBy}
use Rattle.script_words.specs.declared.stop.LineStop.TheVariants as stops
use Rattle.script_replay.specs.Courses.{Course, and_then, due_to, AddsTurn, AddsClient, AddsDrive, Adds, StandsBy}
use Rattle.script_replay.specs.inner.Courses.{Follows}

-- nothing has happened to a client that was just made
pub first : (start : Start) → Stands start [] (view_at start [])
first start = record {
  standing = refl;
  saved = refl;
  lists = refl;
  cache = refl;
  going = λ on. refl;
  said = tt;
  asked = tt;
}

-- what forget_stale leaves
pub forgets : (start : Start) (items : List Item) (view : View) → Stands start items view
    → Stands start (Forgets ∷ items) (record view { cache = forgotten view.cache })
forgets start items view s = record {
  standing = s.standing;
  saved = s.saved;
  lists = s.lists;
  cache = ap forgotten s.cache;
  going = λ on. ap (λ (v : View). record v { cache = forgotten v.cache }) (s.going on);
  said = s.said;
  asked = s.asked;
}

-- one turn
turn : (input : Input) (course : Course) (old new : View) (text : List ℕ)
    → Stands course.start course.items old → TakesTurn input old new text
    → (next : Course) × AddsTurn input course next text × Stands next.start next.items new
turn input course old new text s takes =
    let stands : Stands course.start (Turned (record { input = input; outputs = takes.outputs }) ∷ course.items) new =
    turn_stands course.start course.items old new (record { input = input; outputs = takes.outputs }) s takes.rule in
    let due : takes.outputs ≡ due_to course input = stands.said.0 in (
      and_then course (Turned (record { input = input; outputs = due_to course input })),
      record { next = refl; told = subst (λ (outputs : List Output). TellsAll outputs text) due takes.told },
      subst (λ (outputs : List Output). Stands course.start (Turned (record { input = input; outputs = outputs }) ∷ course.items) new) due
          stands,
    )

-- a look-up changes nothing
still : (course : Course) (old new : View) → Stands course.start course.items old → new ≡ old → Stands course.start course.items new
still course old new s same = subst (λ (view : View). Stands course.start course.items view) (sym same) s

client : (value : ClientValue) (course : Course) (old new : View) (text : List ℕ)
    → Stands course.start course.items old → DoesClient value old new text
    → (next : Course) × AddsClient value course next text × Stands next.start next.items new
client CutLine course old new text s does = turn Cut course old new text s does
client (NowLine moment) course old new text s does = turn (Now moment) course old new text s does
client (CallLine asked) course old new text s does = turn (Call asked.ticket asked.call) course old new text s does
client (PeekLine Data path) course old new text s does =
    (course, (refl, does.1 ∙ ap (λ (cache : Cache). kept_line (cache.nodes path)) s.cache), still course old new s does.0)
client (PeekLine Child path) course old new text s does =
    (course, (refl, subst (λ (cache : Cache). TellsKept (cache.children path) text) s.cache does.1), still course old new s does.0)
client LastLine course old new text s does =
    (course, (refl, does.1 ∙ ap (λ saved. last_line saved.last) s.saved), still course old new s does.0)
client SavedLine course old new text s does = (
  course,
  (refl, does.1 ∙ ap (λ saved. saved_line saved.session.session saved.session.password saved.last) s.saved),
  still course old new s does.0,
)
client ForgetLine course old new text s does = (
  and_then course Forgets,
  (refl, does.1),
  subst (λ (view : View). Stands course.start (Forgets ∷ course.items) view) (sym does.0) (forgets course.start course.items old s),
)

drive : (value : DriveValue) (course : Course) (old new : View) (text : List ℕ)
    → Stands course.start course.items old → DoesDrive value old new text
    → (next : Course) × AddsDrive value course next text × Stands next.start next.items new
drive OpenedLine course old new text s does = turn Opened course old new text s does
drive (BytesLine bytes) course old new text s does = turn (Bytes bytes) course old new text s does
drive SentLine course old new text s does = (course, (refl, does.1), still course old new s does.0)
drive (ClientValueLine value) course old new text s does = client value course old new text s does

-- there is a course where there is a client
pub same_there : (course : Option Course) (view : Option View) → StandsBy course view → is_some course ≡ is_some view
same_there None None s = refl
same_there None (Some view) s = absurd s
same_there (Some course) None s = absurd s
same_there (Some course) (Some view) s = refl

none_there : (course : Option Course) (view : Option View) → StandsBy course view → view ≡ None → course ≡ None
none_there None view s none = refl
none_there (Some course) None s none = absurd s
none_there (Some course) (Some view) s none = absurd cc

one_there : (course : Option Course) (view : Option View) (one : View) → StandsBy course view → view ≡ Some one
    → (there : Course) × (course ≡ Some there) × Stands there.start there.items one
one_there None None one s is = absurd cc
one_there None (Some view) one s is = absurd s
one_there (Some course) None one s is = absurd s
one_there (Some course) (Some view) one s is =
    let same : view ≡ one = cc in
    (course, refl, subst (λ (v : View). Stands course.start course.items v) same s)

does_value : (value : ReplayValue) (course : Option Course) (old new : Option View) (text : List ℕ)
    → StandsBy course old → Does value old new text
    → (next : Option Course) × Adds value course next text × StandsBy next new
does_value (Begins value) course old new text s does =
    let begun : Course = record { start = start_of value; items = [] } in (
      Some begun,
      (none_there course old s does.0, refl, does.2),
      subst (λ (view : Option View). StandsBy (Some begun) view) (sym does.1) (first (start_of value)),
    )
does_value (Drives value) course old new text s goes =
    let there = one_there course old goes.before s goes.was in
    let driven = drive value there.0 goes.before goes.after text there.2 goes.does in (
      Some driven.0,
      record { before = there.0; after = driven.0; was = there.1; is = refl; does = driven.1 },
      subst (λ (view : Option View). StandsBy (Some driven.0) view) (sym goes.is) driven.2,
    )

does_some : (what : Option ReplayValue) (course : Option Course) (old new : Option View) (text : List ℕ)
    → StandsBy course old → DoesSome Does what old new text
    → (next : Option Course) × DoesSome Adds what course next text × StandsBy next new
does_some None course old new text s does = (course, (refl, does.1), subst (λ (view : Option View). StandsBy course view) (sym does.0) s)
does_some (Some value) course old new text s does = does_value value course old new text s does

-- one line
pub follows : (line : Text) (course : Option Course) (old new : Option View) (text : List ℕ)
    → StandsBy course old → TakesLine line old new text
    → Follows line course new text
follows line course old new text s takes =
    let does = does_some takes.what course old new text s takes.does in
    record {
      next = does.0;
      adds = record { what = takes.what; says = ap (says_at (words_of line)) (same_there course old s) ∙ takes.says; does = does.1 };
      stands = does.2;
    }

-- what a line makes a player print
pub followed : {Y : Type 0} (line : Text) (old new : Option View) (r : Result (String Y) LineStop)
    → IfOk r (λ text. TakesLine line old new (string_bytes text))
    → IfOk r (λ text. (course : Option Course) → StandsBy course old → Follows line course new (string_bytes text))
followed line old new (Ok text) takes = λ course s. follows line course old new (string_bytes text) s takes
followed line old new (Err stop) takes = tt

-- from a position that a player has to the next
pub moved : (line : Text) (old : Position) (before after : Option View) (text : List ℕ) → TakesLine line before after text
    → ((course : Option Course) → StandsBy course before → Follows line course after text) → before ≡ old.view
    → StandsBy old.course old.view
    → (new : Position) × Moves line old new text × ((after ≡ new.view) × StandsBy new.course new.view)
moved line old before after text takes goes is s =
    let follows : Follows line old.course after text = goes old.course (rw is s) in (
      record { view = after; course = follows.next },
      record { takes = rw (← is) takes; adds = follows.adds; stands = follows.stands },
      (refl, follows.stands),
    )

-- and why a line is not done there
pub due : (line : Text) (old : Position) (before after : Option View) (stop : LineStop)
    → IsDueBy (says_at (words_of line) (is_some before)) stop
    → IfHalted (HaltsLine line before after) stop → before ≡ old.view → IsDue rules line old stop
due line old before after (stops.Refused fault) refused halted is = rw (← is) refused
due line old before after stops.Halted refused halted is = (after, rw (← is) halted)
due line old before after stops.Memory refused halted is = tt
