-- The lines that drive a client, whatever is at the other end of its connection.
use Rattle.std.specs.Prelude.{ℕ, if◌then◌else◌, List, [], ◌∷◌, codes, Option, Result, Ok, Err}
use Rattle.std.specs.List.{list_all}
use Rattle.std.specs.Option.{option_map, option_or}
use Rattle.zk_nodes.specs.Path.{Text}
use Rattle.zk_nodes.specs.declared.side.Side.{Side}
use Rattle.script_words.specs.declared.script_fault.ScriptFault.{ScriptFault}
use Rattle.script_words.specs.declared.script_fault.ScriptFault.TheVariants.{Words}
use Rattle.script_words.specs.Reads.{◌>>=◌, named, alone, only, text_at, path_at, side_read, is_printed}
use Rattle.script_replay.specs.declared.client_line.ClientKeyword.{ClientKeyword}
use Rattle.script_replay.specs.declared.client_line.ClientKeyword.TheVariants as keyword
use Rattle.script_replay.specs.CallLines.{Asked, call_at}
use Rattle.script_replay.specs.Reads.{natural_at}

abbrev pub client_keyword_of : Text → Option ClientKeyword
client_keyword_of word =
    named
    ((codes "cut", keyword.Cut) ∷ (codes "now", keyword.Now) ∷ (codes "call", keyword.Call) ∷ (codes "peek", keyword.Peek)
    ∷ (codes "last", keyword.Last) ∷ (codes "forget", keyword.Forget) ∷ (codes "saved", keyword.Saved) ∷ [])
    word

-- the keyword that a word names in a table, or else one that every script of a client has
abbrev pub keyword_or_client : {X : Type 0} → List (Text × X) → (ClientKeyword → X) → Text → Option X
keyword_or_client table client word = option_or (named table word) (option_map client (client_keyword_of word))

-- The connection ends, a moment comes, a call is asked; a look-up of a path, of the last seen zxid or of the session; or the stale
-- answers are taken out.
pub data ClientValue : Type 0 where
  CutLine : ClientValue
  NowLine : ℕ → ClientValue
  CallLine : Asked → ClientValue
  PeekLine : Side → Text → ClientValue
  LastLine : ClientValue
  ForgetLine : ClientValue
  SavedLine : ClientValue

abbrev pub now_at : List Text → Result ClientValue ScriptFault
now_at words = only words >>= natural_at >>= λ number. Ok (NowLine number)

abbrev pub peek_at : List Text → Result ClientValue ScriptFault
peek_at (side ∷ path ∷ []) = do
  which ← side_read side
  text ← text_at path
  place ← path_at text
  Ok (PeekLine which place)
peek_at words = Err Words

-- what the words after a keyword say
abbrev pub client_words_at : ClientKeyword → List Text → Result ClientValue ScriptFault
client_words_at keyword.Cut words = alone CutLine words
client_words_at keyword.Now words = now_at words
client_words_at keyword.Call words = call_at words >>= λ asked. Ok (CallLine asked)
client_words_at keyword.Peek words = peek_at words
client_words_at keyword.Last words = alone LastLine words
client_words_at keyword.Forget words = alone ForgetLine words
client_words_at keyword.Saved words = alone SavedLine words

-- the same, where each word is printable
abbrev pub client_line_at : ClientKeyword → List Text → Result ClientValue ScriptFault
client_line_at word words = if list_all is_printed words then client_words_at word words else Err Words
