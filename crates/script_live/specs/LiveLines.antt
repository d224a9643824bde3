-- The lines of a live session.
use Rattle.std.specs.Prelude.{pos, Bool, true, false, if◌then◌else◌, List, [], ◌∷◌, codes, Option, Some, None, Result, Ok, Err, bytes_eq}
use Rattle.zk_nodes.specs.Path.{Text}
use Rattle.script_words.specs.declared.script_fault.ScriptFault.{ScriptFault}
use Rattle.script_words.specs.declared.script_fault.ScriptFault.TheVariants.{Unknown, Place, Words}
use Rattle.script_words.specs.Reads.{◌>>=◌, alone}
use Rattle.script_words.specs.Said.{says_by}
use Rattle.script_replay.specs.declared.begin_line.BeginKeyword.TheVariants as begin_keyword
use Rattle.script_replay.specs.ClientLines.{ClientValue, keyword_or_client, client_line_at}
use Rattle.script_replay.specs.ReplayLines.{BeginValue, TimeoutLine, begin_line_at}
use Rattle.script_live.specs.declared.live_line.LiveKeyword.{LiveKeyword}
use Rattle.script_live.specs.declared.live_line.LiveKeyword.TheVariants as keyword

abbrev pub keyword_of : Text → Option LiveKeyword
keyword_of word = keyword_or_client ((codes "resume", keyword.Resume) ∷ (codes "open", keyword.Open) ∷ []) keyword.Client word

-- A session is taken up, a connection is to begin, or what is the same whatever is at the other end.
pub data LiveValue : Type 0 where
  ResumesLine : BeginValue → LiveValue
  OpensLine : LiveValue
  DrivesLine : ClientValue → LiveValue

-- a client of no session yet asks for 30,000 milliseconds
abbrev pub fresh : BeginValue
fresh = TimeoutLine (pos 30000)

-- and so does one that takes a session up
abbrev pub resume_at : List Text → Result BeginValue ScriptFault
resume_at (session ∷ password ∷ last ∷ []) = begin_line_at begin_keyword.Resume (codes "30000" ∷ session ∷ password ∷ last ∷ [])
resume_at words = Err Words

-- a session is taken up by the first line alone
abbrev pub placed_at : LiveKeyword → (begun : Bool) → List Text → Result LiveValue ScriptFault
placed_at keyword.Resume false words = resume_at words >>= λ value. Ok (ResumesLine value)
placed_at keyword.Resume true words = Err Place
placed_at keyword.Open begun words = alone OpensLine words
placed_at (keyword.Client word) begun words = client_line_at word words >>= λ value. Ok (DrivesLine value)

abbrev pub known_at : Option LiveKeyword → (begun : Bool) → List Text → Result LiveValue ScriptFault
known_at None begun words = Err Unknown
known_at (Some word) begun words = placed_at word begun words

-- What the words of a line say, and nothing if there are none and for a remark; or the first fault of the words: no such
-- line, a line that is not allowed here, a fault of the words after the first.
abbrev pub says_at : List Text → (begun : Bool) → Result (Option LiveValue) ScriptFault
says_at words begun = says_by (λ first behind. known_at (keyword_of first) begun behind) words

-- What the words of a line say of the client that is to be made, and nothing if there are none and for a remark.
abbrev pub begins_at : List Text → Result (Option BeginValue) ScriptFault
begins_at words = says_by (λ first behind. if bytes_eq first (codes "resume") then resume_at behind else Ok fresh) words
