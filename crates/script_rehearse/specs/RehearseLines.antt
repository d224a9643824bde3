-- The lines of a rehearsal.
use Rattle.std.specs.Prelude.{◌<ℤ◌, ℤ, Bool, true, false, if◌then◌else◌, List, [], ◌∷◌, codes, Option, Some, None, Result, Ok}
use Rattle.std.specs.Prelude.{Err, bytes_eq}
use Rattle.std.specs.List.{list_all}
use Rattle.std.specs.Option.{option_map}
use Rattle.zk_nodes.specs.Path.{Text}
use Rattle.script_words.specs.declared.script_fault.ScriptFault.{ScriptFault}
use Rattle.script_words.specs.declared.script_fault.ScriptFault.TheVariants.{Unknown, Place, Words}
use Rattle.script_story.specs.declared.history_line.HistoryKeyword.{HistoryKeyword}
use Rattle.script_story.specs.declared.history_line.HistoryKeyword.TheVariants.{Ask}
use Rattle.script_story.specs.HistoryLines.{keyword_of as history_keyword_of}
use Rattle.script_words.specs.Reads.{◌>>=◌, is_printed}
use Rattle.script_words.specs.Said.{says_by}
use Rattle.script_replay.specs.Reads.{timeout_at}
use Rattle.script_rehearse.specs.declared.keywords.RehearseKeyword.{RehearseKeyword}
use Rattle.script_rehearse.specs.declared.keywords.RehearseKeyword.TheVariants as keyword
use Rattle.script_rehearse.specs.declared.said.Said.TheVariants as said
use Rattle.script_rehearse.specs.BenchLines.{BenchValue, bench_keyword_of, bench_line_at}

-- a word that is none of the history's
abbrev pub other_keyword_of : Text → Option RehearseKeyword
other_keyword_of word = if bytes_eq word (codes "begin") then Some keyword.Begin else option_map keyword.Bench (bench_keyword_of word)

-- a look-up of the history is no line of a rehearsal
abbrev pub or_other : Option HistoryKeyword → Text → Option RehearseKeyword
or_other None word = other_keyword_of word
or_other (Some Ask) word = None
or_other (Some history) word = Some keyword.History

abbrev pub keyword_of : Text → Option RehearseKeyword
keyword_of word = or_other (history_keyword_of word) word

-- A line of the history; the one that makes the client, with its timeout; or one after it.
pub data RehearseValue : Type 0 where
  HistoryLine : RehearseValue
  BeginLine : ℤ → RehearseValue
  BenchValueLine : BenchValue → RehearseValue

abbrev pub begin_words_at : List Text → Result ℤ ScriptFault
begin_words_at (timeout ∷ []) = timeout_at timeout
begin_words_at words = Err Words

abbrev pub begin_at : List Text → Result ℤ ScriptFault
begin_at words = if list_all is_printed words then begin_words_at words else Err Words

-- the history is made before the client, and the client is driven after it
abbrev pub placed_at : RehearseKeyword → (begun : Bool) → List Text → Result RehearseValue ScriptFault
placed_at keyword.History false words = Ok HistoryLine
placed_at keyword.Begin false words = begin_at words >>= λ timeout. Ok (BeginLine timeout)
placed_at (keyword.Bench word) true words = bench_line_at word words >>= λ value. Ok (BenchValueLine value)
placed_at word begun words = Err Place

abbrev pub known_at : Option RehearseKeyword → (begun : Bool) → List Text → Result RehearseValue ScriptFault
known_at None begun words = Err Unknown
known_at (Some word) begun words = placed_at word begun words

-- What the words of a line say, and nothing if there are none and for a remark; or the first fault of the words: no such
-- line, a line that is not allowed here, a fault of the words after the first. The words of a line of the history are not looked
-- at here.
abbrev pub says_at : List Text → (begun : Bool) → Result (Option RehearseValue) ScriptFault
says_at words begun = says_by (λ first behind. known_at (keyword_of first) begun behind) words
