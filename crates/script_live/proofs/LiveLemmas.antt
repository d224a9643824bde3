-- What a line of a live script makes of a session, and how a script ends: by what the words of the line say, case by case.
use Rattle.std.proofs.Common.{◌≡◌, inl, inr, ℕ, Bool, true, false, List, [], refl, sym}
use Rattle.std.specs.Prelude.{Some, None, Ok}
use Rattle.zk_nodes.specs.Path.{Text}
use Rattle.zk_turns.specs.View.{View, view_at}
use Rattle.script_words.specs.Pieces.{words_of}
use Rattle.script_words.specs.Scripts.{end_at, progress, IsDue}
use Rattle.script_words.specs.Scripts as scripts
use Rattle.script_words.specs.Stops.{IfHalted, IsWant}
use Rattle.script_words.specs.inner.Stops.{IsDueBy}
use Rattle.script_words.specs.declared.script.ScriptEnd.{ScriptEnd}
use Rattle.script_words.specs.declared.stop.LineStop.{LineStop}
use Rattle.script_words.specs.declared.stop.LineStop.TheVariants as stops
use Rattle.script_replay.specs.ReplayLines.{BeginValue}
use Rattle.script_replay.specs.Played.{start_of}
use Rattle.script_live.specs.Begins.{begun_by, Begins}
use Rattle.script_live.specs.Flowing.{Flow}
use Rattle.script_live.specs.Heard.{tape, Connects, Tape}
use Rattle.script_live.specs.LiveLines.{LiveValue, OpensLine, says_at}
use Rattle.script_live.specs.Lives.{position, rules, DoesLive, HaltsFirst, HaltsLine, HaltsLive, IsTranscript, IsUnread, Position}
use Rattle.script_live.specs.Lives.{TakesLine}
use Rattle.script_live.specs.Printed.{Prints}

-- a line that says nothing
pub took_none : (line : Text) (begun : Bool) (flow : Flow) (text : List ℕ) → says_at (words_of line) begun ≡ Ok None → text ≡ []
    → TakesLine line (position flow begun) (position flow begun) text
took_none line begun flow text says none = record { what = None; says = says; does = (refl, none) }

-- a line that says something
pub took : (line : Text) (begun : Bool) (old new : Flow) (text : List ℕ) (value : LiveValue)
    → says_at (words_of line) begun ≡ Ok (Some value)
    → DoesLive value old.view new.view text → Prints old new [] text → TakesLine line (position old begun) (position new true) text
took line begun old new text value says does prints = record { what = Some value; says = says; does = (does, prints, refl) }

-- from where a session stands to the next
pub goes : (line : Text) (old before after : Position) (text : List ℕ) → TakesLine line before after text → before ≡ old
    → (new : Position) × TakesLine line old new text × (after ≡ new)
goes line old before after text takes is = (after, rw (← is) takes, refl)

-- and why a line is not done there
pub due : (line : Text) (old : Position) (flow : Flow) (after : View) (begun : Bool) (stop : LineStop)
    → IsDueBy (says_at (words_of line) begun) stop
    → IfHalted (HaltsLine line begun flow.view after) stop → position flow begun ≡ old → IsDue rules line old stop
due line old flow after begun (stops.Refused fault) refused halted is = rw (← is) refused
due line old flow after begun stops.Halted refused halted is = (after, rw (← is) halted)
due line old flow after begun stops.Memory refused halted is = tt

-- a client that was connected
pub lived : (lines : List Text) (start : BeginValue) (first ready : Flow) (told text : List ℕ) (end : ScriptEnd)
    → begun_by lines ≡ Begins start → first.view ≡ view_at (start_of start) []
    → first.is_open ≡ false → Connects (tape (view_at (start_of start) []) []) (tape ready.view told) → Prints first ready [] told
    → scripts.IsTranscript rules (progress (position ready false) told) lines text end → IsTranscript lines text end
lived lines start first ready told text end begins made apart connects prints goes_on = inl (record {
  start = start;
  begins = begins;
  first = first;
  made = made;
  apart = apart;
  ready = ready;
  told = told;
  connects = connects;
  prints = prints;
  goes_on = goes_on;
})

-- no client, and no text
pub unlived : (lines : List Text) (text : List ℕ) (end : ScriptEnd) → text ≡ [] → IsUnread lines end → IsTranscript lines text end
unlived lines text end none why = inr (none, why)

-- a halt of a client that was made
first_halts : (lines : List Text) (start : BeginValue) (made after : View)
    → begun_by lines ≡ Begins start → made ≡ view_at (start_of start) []
    → HaltsLive OpensLine made after → HaltsFirst lines
first_halts lines start made after begins stands halts =
    record { start = start; begins = begins; after = after; halts = rw (sym stands) halts }

-- want of memory
pub want : (lines : List Text) (start : BeginValue) (made after : View) (number : ℕ) (stop : LineStop) → begun_by lines ≡ Begins start
    → made ≡ view_at (start_of start) [] → IsWant stop → IfHalted (HaltsLive OpensLine made after) stop
    → IsUnread lines (end_at number stop)
want lines start made after number (stops.Refused why) begins stands none halts = absurd none
want lines start made after number stops.Halted begins stands none halts = first_halts lines start made after begins stands halts
want lines start made after number stops.Memory begins stands none halts = tt

-- the same, from the client that was made
pub moved : (first second : View) (here : Tape) → first ≡ second → Connects (tape first []) here → Connects (tape second []) here
moved first second here same connects = rw (sym same) connects
