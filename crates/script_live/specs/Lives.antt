-- What a whole script makes of a client over a connection, and what it prints, line by line. The client was handed the bytes of its
-- streams.
use Rattle.std.specs.Prelude.{◌≡◌, ◌⊎◌, ℕ, Bool, true, false, List, [], ◌∷◌, Option, Some, Ok, Err}
use Rattle.zk_nodes.specs.Path.{Text}
use Rattle.zk_turns.specs.Turns.{Cut, Now, Call}
use Rattle.zk_turns.specs.View.{View, view_at}
use Rattle.script_words.specs.Pieces.{words_of}
use Rattle.script_words.specs.Said.{TakesSaid}
use Rattle.script_words.specs.Scripts.{progress, Rules}
use Rattle.script_words.specs.Scripts as scripts
use Rattle.script_words.specs.declared.script.ScriptEnd.{ScriptEnd}
use Rattle.script_words.specs.declared.script.ScriptEnd.TheVariants.{Halted}
use Rattle.script_replay.specs.ClientLines.{CutLine, NowLine, CallLine}
use Rattle.script_replay.specs.ReplayLines.{BeginValue}
use Rattle.script_replay.specs.Played.{start_of, DoesClient, HaltsAt}
use Rattle.script_live.specs.declared.live.Session.{Session}
use Rattle.script_live.specs.Begins.{begun_by, Begins, Nothing}
use Rattle.script_live.specs.Flowing.{flow_of, Flow}
use Rattle.script_live.specs.Heard.{tape, Awaits, Connects, HaltsAmong, HaltsAwaiting, HaltsConnecting, Hears, Takes}
use Rattle.script_live.specs.LiveLines.{LiveValue, ResumesLine, OpensLine, DrivesLine, says_at}
use Rattle.script_live.specs.Printed.{Prints}

-- What a line makes of a client, and what it prints: each input is a turn by the rule, whatever the connection brings, and a
-- look-up changes nothing. A session was taken up before.
abbrev pub DoesLive : LiveValue → View → View → List ℕ → Type 0
DoesLive (ResumesLine value) old new text = (new ≡ old) × (text ≡ [])
DoesLive OpensLine old new text = Connects (tape old []) (tape new text)
DoesLive (DrivesLine CutLine) old new text = Hears (tape old []) Cut (tape new text)
DoesLive (DrivesLine (NowLine moment)) old new text = Takes (tape old []) (Now moment) (tape new text)
DoesLive (DrivesLine (CallLine asked)) old new text = Awaits (tape old []) (Call asked.ticket asked.call) (tape new text)
DoesLive (DrivesLine value) old new text = DoesClient value old new text

-- A client halts at what a line says: at an input, or at what the connection brings, and at no look-up.
abbrev pub HaltsLive : LiveValue → View → View → Type 0
HaltsLive OpensLine old new = (text : List ℕ) × HaltsConnecting (tape old []) (tape new text)
HaltsLive (DrivesLine CutLine) old new = HaltsAt Cut old new
HaltsLive (DrivesLine (NowLine moment)) old new = (text : List ℕ) × HaltsAmong (tape old []) (Now moment ∷ Cut ∷ []) (tape new text)
HaltsLive (DrivesLine (CallLine asked)) old new =
    (text : List ℕ) × HaltsAwaiting (tape old []) (Call asked.ticket asked.call) (tape new text)
HaltsLive value old new = ⊥

-- So do the words of a line.
pub record HaltsLine (line : Text) (begun : Bool) (old new : View) : Type 0 where
  pub value : LiveValue
  pub says : says_at (words_of line) begun ≡ Ok (Some value)
  pub halts : HaltsLive value old new

-- Where a script stands: the client with its connection, and whether lines have begun.
pub record Position : Type 0 where
  pub flow : Flow
  pub begun : Bool

abbrev pub position : Flow → Bool → Position
position flow begun = record { flow = flow; begun = begun }

abbrev pub position_of : {A D S : Type 0} → (remaining contents : S → Option (List ℕ)) → Session A D S → Position
position_of remaining contents session = position (flow_of remaining contents session.link.joint) session.is_begun

-- What a line makes of where a script stands, and what it prints: what the client says, which is handed the bytes of its streams and no
-- others. After the first line that says something, lines have begun.
abbrev pub Does : LiveValue → Position → Position → List ℕ → Type 0
Does value old new text = DoesLive value old.flow.view new.flow.view text × Prints old.flow new.flow [] text × (new.begun ≡ true)

-- A line is taken: it does what it says, or nothing if it says nothing.
abbrev pub TakesLine : Text → Position → Position → List ℕ → Type 0
TakesLine line old new text = TakesSaid (says_at (words_of line) old.begun) Does old new text

-- the rules of the lines of a live session
abbrev pub rules : Rules Position
rules = record {
  Takes = TakesLine;
  Refuses = λ line old fault. says_at (words_of line) old.begun ≡ Err fault;
  Halts = λ line old. (after : View) × HaltsLine line old.begun old.flow.view after;
}

-- The client that lines ask for is made, without a connection; it is connected, and then takes them. The text is what all this prints.
pub record Lives (lines : List Text) (text : List ℕ) (end : ScriptEnd) : Type 0 where
  pub start : BeginValue
  pub begins : begun_by lines ≡ Begins start
  pub first : Flow
  pub made : first.view ≡ view_at (start_of start) []
  pub apart : first.is_open ≡ false
  pub ready : Flow
  pub told : List ℕ
  pub connects : Connects (tape (view_at (start_of start) []) []) (tape ready.view told)
  pub prints : Prints first ready [] told
  pub goes_on : scripts.IsTranscript rules (progress (position ready false) told) lines text end

-- All that such lines print, from the first client on, is what a list of deeds prints: the client says it, which is handed the bytes of its
-- streams and no others.
abbrev pub LivesPrint : Type 0
LivesPrint = (lines : List Text) (text : List ℕ) (end : ScriptEnd) (lives : Lives lines text end)
    → (last : Flow) × Prints lives.first last [] text

-- The client that lines ask for halts while it is connected.
pub record HaltsFirst (lines : List Text) : Type 0 where
  pub start : BeginValue
  pub begins : begun_by lines ≡ Begins start
  pub after : View
  pub halts : HaltsLive OpensLine (view_at (start_of start) []) after

-- no line is read
abbrev pub IsUnread : List Text → ScriptEnd → Type 0
IsUnread lines Halted = HaltsFirst lines
IsUnread lines end = Nothing lines end

-- what lines printed, by how they ended
abbrev pub IsTranscript : List Text → List ℕ → ScriptEnd → Type 0
IsTranscript lines text end = Lives lines text end ⊎ ((text ≡ []) × IsUnread lines end)
