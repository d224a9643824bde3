-- The lines of a replay.
use Rattle.std.specs.Prelude.{◌≤◌, ◌<ℤ◌, ◌≤ℤ◌, ℕ, ℤ, pos, Bool, true, false, if◌then◌else◌, length, List, [], ◌∷◌, codes, Option, Some}
use Rattle.std.specs.Prelude.{None, Result, Ok, Err}
use Rattle.std.specs.List.{list_all}
use Rattle.std.specs.Option.{ok_or, option_map}
use Rattle.zk_nodes.specs.Path.{Text}
use Rattle.script_words.specs.declared.script_fault.ScriptFault.{ScriptFault}
use Rattle.script_words.specs.declared.script_fault.ScriptFault.TheVariants.{Unknown, Place, Words, Hex}
use Rattle.script_words.specs.Reads.{◌>>=◌, named, alone, only, time_at, is_printed}
use Rattle.script_words.specs.Said.{says_by}
use Rattle.script_replay.specs.declared.begin_line.BeginKeyword.{BeginKeyword}
use Rattle.script_replay.specs.declared.begin_line.BeginKeyword.TheVariants as begin_keyword
use Rattle.script_replay.specs.declared.drive_line.DriveKeyword.{DriveKeyword}
use Rattle.script_replay.specs.declared.drive_line.DriveKeyword.TheVariants as drive_keyword
use Rattle.script_replay.specs.declared.player.ReplayKeyword.{ReplayKeyword}
use Rattle.script_replay.specs.declared.player.ReplayKeyword.TheVariants as keyword
use Rattle.script_replay.specs.ClientLines.{ClientValue, keyword_or_client, client_line_at}
use Rattle.script_replay.specs.Reads.{timeout_at, session_at, bytes_at, password_at}
use Rattle.zk_limits.specs.declared.limits.TheConstants.{LONGEST_PASSWORD}

-- A line that makes the client

abbrev pub begin_keyword_of : Text → Option BeginKeyword
begin_keyword_of word = named ((codes "timeout", begin_keyword.Timeout) ∷ (codes "resume", begin_keyword.Resume) ∷ []) word

-- A new client asks for a timeout, and one that takes up a session has its number, its password and the last seen zxid too.
pub data BeginValue : Type 0 where
  TimeoutLine : ℤ → BeginValue
  ResumeLine : (timeout session : ℤ) (password : List ℕ) (last : ℤ) → BeginValue

abbrev pub new_at : List Text → Result BeginValue ScriptFault
new_at words = only words >>= timeout_at >>= λ number. Ok (TimeoutLine number)

unfoldable pub saved_at : (timeout session password last : Text) → Result BeginValue ScriptFault
saved_at timeout session password last = do
  found ← password_at password
  number ← timeout_at timeout
  id ← session_at session
  zxid ← time_at last
  bytes ← ok_or found Hex
  Ok (ResumeLine number id bytes zxid)

abbrev pub resume_at : List Text → Result BeginValue ScriptFault
resume_at (timeout ∷ session ∷ password ∷ last ∷ []) = saved_at timeout session password last
resume_at words = Err Words

abbrev pub begin_words_at : BeginKeyword → List Text → Result BeginValue ScriptFault
begin_words_at begin_keyword.Timeout words = new_at words
begin_words_at begin_keyword.Resume words = resume_at words

abbrev pub begin_line_at : BeginKeyword → List Text → Result BeginValue ScriptFault
begin_line_at word words = if list_all is_printed words then begin_words_at word words else Err Words

-- A client can be made so.
abbrev pub CanBegin : BeginValue → Type 0
CanBegin (TimeoutLine timeout) = pos 0 <ℤ timeout
CanBegin (ResumeLine timeout session password last) = (pos 0 <ℤ timeout) × (pos 0 ≤ℤ last) × (length password ≤ LONGEST_PASSWORD)

-- A line after it

abbrev pub drive_keyword_of : Text → Option DriveKeyword
drive_keyword_of word =
    keyword_or_client
    ((codes "opened", drive_keyword.Opened) ∷ (codes "bytes", drive_keyword.Bytes) ∷ (codes ">", drive_keyword.Sent) ∷ [])
    drive_keyword.Client word

-- A connection begins, bytes come, a record says what was sent, or what is not about the server's side.
pub data DriveValue : Type 0 where
  OpenedLine : DriveValue
  BytesLine : List ℕ → DriveValue
  SentLine : DriveValue
  ClientValueLine : ClientValue → DriveValue

abbrev pub piece_at : List Text → Result DriveValue ScriptFault
piece_at words = only words >>= bytes_at >>= λ came. Ok (BytesLine came)

abbrev pub printed_piece_at : List Text → Result DriveValue ScriptFault
printed_piece_at words = if list_all is_printed words then piece_at words else Err Words

abbrev pub drive_line_at : DriveKeyword → List Text → Result DriveValue ScriptFault
drive_line_at drive_keyword.Opened words = alone OpenedLine words
drive_line_at drive_keyword.Bytes words = printed_piece_at words
drive_line_at drive_keyword.Sent words = Ok SentLine
drive_line_at (drive_keyword.Client word) words = client_line_at word words >>= λ value. Ok (ClientValueLine value)

-- A line

abbrev pub or_drive : Option BeginKeyword → Option DriveKeyword → Option ReplayKeyword
or_drive (Some word) drive = Some (keyword.Begin word)
or_drive None drive = option_map keyword.Drive drive

abbrev pub keyword_of : Text → Option ReplayKeyword
keyword_of word = or_drive (begin_keyword_of word) (drive_keyword_of word)

pub data ReplayValue : Type 0 where
  Begins : BeginValue → ReplayValue
  Drives : DriveValue → ReplayValue

-- the client is made by the first line alone
abbrev pub placed_at : ReplayKeyword → (begun : Bool) → List Text → Result ReplayValue ScriptFault
placed_at (keyword.Begin word) false words = begin_line_at word words >>= λ value. Ok (Begins value)
placed_at (keyword.Begin word) true words = Err Place
placed_at (keyword.Drive word) true words = drive_line_at word words >>= λ value. Ok (Drives value)
placed_at (keyword.Drive word) false words = Err Place

abbrev pub known_at : Option ReplayKeyword → (begun : Bool) → List Text → Result ReplayValue ScriptFault
known_at None begun words = Err Unknown
known_at (Some word) begun words = placed_at word begun words

-- What the words of a line say, and nothing where there are none and for a remark; or the first fault of the words: no such
-- line, a line that is not allowed here, a fault of the words after the first.
abbrev pub says_at : List Text → (begun : Bool) → Result (Option ReplayValue) ScriptFault
says_at words begun = says_by (λ first behind. known_at (keyword_of first) begun behind) words
