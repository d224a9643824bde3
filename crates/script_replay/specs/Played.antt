-- What the lines of a replay make of a client, and what they print.
use Rattle.std.specs.Prelude.{◌≡◌, unsigned_abs, is_some, ℕ, List, [], Option, Some, None, Ok, Err}
use Rattle.zk_nodes.specs.Path.{Text}
use Rattle.zk_nodes.specs.declared.side.Side.TheVariants.{Data, Child}
use Rattle.zk_frames.specs.Limits.{standard_limits}
use Rattle.zk_turns.specs.Turns.{Input, Opened, Bytes, Cut, Now, Call, Output, Start, new_start}
use Rattle.zk_turns.specs.View.{View, view_at}
use Rattle.zk_turns.specs.Rule.{Rule, HaltsAs, forgotten}
use Rattle.zk_client.specs.Steps.{IsQuiet}
use Rattle.script_words.specs.Pieces.{words_of}
use Rattle.script_words.specs.Said.{TakesSaid}
use Rattle.script_words.specs.declared.script_fault.ScriptFault.{ScriptFault}
use Rattle.script_replay.specs.ClientLines.{ClientValue, CutLine, NowLine, CallLine, PeekLine, LastLine, ForgetLine, SavedLine}
use Rattle.script_replay.specs.ReplayLines.{BeginValue, TimeoutLine, ResumeLine, DriveValue, OpenedLine, BytesLine, SentLine}
use Rattle.script_replay.specs.ReplayLines.{ClientValueLine, ReplayValue, Begins, Drives, says_at}
use Rattle.script_replay.specs.Shown.{TellsAll, TellsKept, kept_line, last_line, saved_line}

-- what a client begins with
abbrev pub start_of : BeginValue → Start
start_of (TimeoutLine timeout) = new_start (unsigned_abs timeout)
start_of (ResumeLine timeout session password last) =
    record { timeout = unsigned_abs timeout; session = session; password = password; last = last; limits = standard_limits }

-- A client takes an input by the rule, and the text is its outputs.
pub record TakesTurn (input : Input) (old new : View) (text : List ℕ) : Type 0 where
  pub outputs : List Output
  pub rule : Rule old (record { input = input; outputs = outputs }) new
  pub told : TellsAll outputs text

-- What a line does, and what it prints: an input is a turn, and a look-up prints what is seen, and changes nothing.
abbrev pub DoesBy : {S : Type 0} → (Input → S → S → List ℕ → Type 0) → (seen : S → View) (forgets : S → S)
    → ClientValue → S → S → List ℕ → Type 0
DoesBy Turns seen forgets CutLine old new text = Turns Cut old new text
DoesBy Turns seen forgets (NowLine moment) old new text = Turns (Now moment) old new text
DoesBy Turns seen forgets (CallLine asked) old new text = Turns (Call asked.ticket asked.call) old new text
DoesBy Turns seen forgets (PeekLine Data path) old new text = (new ≡ old) × (text ≡ kept_line ((seen old).cache.nodes path))
DoesBy Turns seen forgets (PeekLine Child path) old new text = (new ≡ old) × TellsKept ((seen old).cache.children path) text
DoesBy Turns seen forgets LastLine old new text = (new ≡ old) × (text ≡ last_line (seen old).saved.last)
DoesBy Turns seen forgets SavedLine old new text =
    (new ≡ old) × (text ≡ saved_line (seen old).saved.session.session (seen old).saved.session.password (seen old).saved.last)
DoesBy Turns seen forgets ForgetLine old new text = (new ≡ forgets old) × (text ≡ [])

-- What it makes of a client.
abbrev pub DoesClient : ClientValue → View → View → List ℕ → Type 0
DoesClient value old new text = DoesBy TakesTurn (λ view. view) (λ view. record view { cache = forgotten view.cache }) value old new text

-- What a line after the first does: a connection begins or bytes come, which is a turn, nothing where a record says what was sent, or what
-- lines do at any other end.
abbrev pub DrivesBy : {S : Type 0} → (Input → S → S → List ℕ → Type 0) → (ClientValue → S → S → List ℕ → Type 0)
    → DriveValue → S → S → List ℕ → Type 0
DrivesBy Turns Does OpenedLine old new text = Turns Opened old new text
DrivesBy Turns Does (BytesLine bytes) old new text = Turns (Bytes bytes) old new text
DrivesBy Turns Does SentLine old new text = (new ≡ old) × (text ≡ [])
DrivesBy Turns Does (ClientValueLine value) old new text = Does value old new text

abbrev pub DoesDrive : DriveValue → View → View → List ℕ → Type 0
DoesDrive value old new text = DrivesBy TakesTurn DoesClient value old new text

-- What was there goes on.
pub record GoesOn {S : Type 0} (Does : S → S → List ℕ → Type 0) (old new : Option S) (text : List ℕ) : Type 0 where
  pub before : S
  pub after : S
  pub was : old ≡ Some before
  pub is : new ≡ Some after
  pub does : Does before after text

abbrev pub Does : ReplayValue → Option View → Option View → List ℕ → Type 0
Does (Begins value) old new text = (old ≡ None) × (new ≡ Some (view_at (start_of value) [])) × (text ≡ [])
Does (Drives value) old new text = GoesOn (DoesDrive value) old new text

-- What the words of a line make of a player, and what it prints.
abbrev pub TakesWords : List Text → Option View → Option View → List ℕ → Type 0
TakesWords words old new text = TakesSaid (says_at words (is_some old)) Does old new text

abbrev pub TakesLine : Text → Option View → Option View → List ℕ → Type 0
TakesLine line old new text = TakesWords (words_of line) old new text

-- A line is refused by its words.
abbrev pub RefusesLine : Text → Option View → ScriptFault → Type 0
RefusesLine line old fault = says_at (words_of line) (is_some old) ≡ Err fault

-- A client halts at an input that has an effect.
pub record HaltsAt (input : Input) (old new : View) : Type 0 where
  pub loud : ¬ (IsQuiet old input)
  pub halts : HaltsAs old new

-- A client halts at what a line says: at an input, and at no look-up.
abbrev pub HaltsClient : ClientValue → View → View → Type 0
HaltsClient CutLine old new = HaltsAt Cut old new
HaltsClient (NowLine moment) old new = HaltsAt (Now moment) old new
HaltsClient (CallLine asked) old new = HaltsAt (Call asked.ticket asked.call) old new
HaltsClient value old new = ⊥

abbrev pub HaltsDrive : DriveValue → View → View → Type 0
HaltsDrive OpenedLine old new = HaltsAt Opened old new
HaltsDrive (BytesLine bytes) old new = HaltsAt (Bytes bytes) old new
HaltsDrive SentLine old new = ⊥
HaltsDrive (ClientValueLine value) old new = HaltsClient value old new

-- So do the words of a line.
pub record HaltsWords (words : List Text) (old new : Option View) : Type 0 where
  pub value : DriveValue
  pub says : says_at words (is_some old) ≡ Ok (Some (Drives value))
  pub before : View
  pub after : View
  pub was : old ≡ Some before
  pub is : new ≡ Some after
  pub halts : HaltsDrive value before after

abbrev pub HaltsLine : Text → Option View → Option View → Type 0
HaltsLine line old new = HaltsWords (words_of line) old new
