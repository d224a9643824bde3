-- The lines after the one that makes the client.
use Rattle.std.specs.Prelude.{ℕ, ◌==◌, nat_le, if◌then◌else◌, List, [], ◌∷◌, codes, Option, Some, None, Result, Ok, Err}
use Rattle.std.specs.List.{list_all}
use Rattle.zk_nodes.specs.Path.{Text}
use Rattle.script_words.specs.declared.script_fault.ScriptFault.{ScriptFault}
use Rattle.script_words.specs.declared.script_fault.ScriptFault.TheVariants.{Words, Number}
use Rattle.script_words.specs.Numbers.{natural_of}
use Rattle.script_words.specs.Reads.{◌>>=◌, alone, only, is_printed}
use Rattle.script_replay.specs.ClientLines.{ClientValue, keyword_or_client, client_line_at}
use Rattle.script_replay.specs.Reads.{natural_at}
use Rattle.script_rehearse.specs.declared.bench_line.BenchKeyword.{BenchKeyword}
use Rattle.script_rehearse.specs.declared.bench_line.BenchKeyword.TheVariants as keyword
use Rattle.script_rehearse.specs.declared.bench_line.BenchLine.TheVariants as line

abbrev pub bench_keyword_of : Text → Option BenchKeyword
bench_keyword_of word =
    keyword_or_client
    ((codes "open", keyword.Open) ∷ (codes "take", keyword.Take) ∷ (codes "process", keyword.Process) ∷ (codes "deliver", keyword.Deliver)
    ∷ (codes "expire", keyword.Expire) ∷ (codes "good", keyword.Good) ∷ (codes "rejoin", keyword.Rejoin) ∷ [])
    keyword.Client word

-- A connection to a server begins; a server takes a transaction; the connected one processes a request; this many bytes of it are
-- delivered; sessions expire; the good answers are looked up; another client takes up the session; or what is not about servers.
pub data BenchValue : Type 0 where
  OpenLine : ℕ → BenchValue
  TakeLine : ℕ → BenchValue
  ProcessLine : BenchValue
  DeliverLine : ℕ → BenchValue
  ExpireLine : BenchValue
  GoodLine : BenchValue
  RejoinLine : BenchValue
  ClientValueLine : ClientValue → BenchValue

-- from 1 to 8
abbrev pub server_read : Option ℕ → Result ℕ ScriptFault
server_read (Some n) = if n == 0 then Err Number else (if nat_le n 8 then Ok n else Err Number)
server_read None = Err Number

unfoldable pub server_at : Text → Result ℕ ScriptFault
server_at word = server_read (natural_of 9 word)

abbrev pub open_at : List Text → Result BenchValue ScriptFault
open_at words = only words >>= server_at >>= λ number. Ok (OpenLine number)

abbrev pub take_at : List Text → Result BenchValue ScriptFault
take_at words = only words >>= server_at >>= λ number. Ok (TakeLine number)

-- this many bytes, or all
abbrev pub deliver_at : List Text → Result BenchValue ScriptFault
deliver_at [] = Ok (DeliverLine 18446744073709551615)
deliver_at (most ∷ []) = do
  number ← natural_at most
  Ok (DeliverLine number)
deliver_at words = Err Words

-- what the words after a keyword say
abbrev pub bench_words_at : BenchKeyword → List Text → Result BenchValue ScriptFault
bench_words_at keyword.Open words = open_at words
bench_words_at keyword.Take words = take_at words
bench_words_at keyword.Process words = alone ProcessLine words
bench_words_at keyword.Deliver words = deliver_at words
bench_words_at keyword.Expire words = alone ExpireLine words
bench_words_at keyword.Good words = alone GoodLine words
bench_words_at keyword.Rejoin words = alone RejoinLine words
bench_words_at (keyword.Client word) words = client_line_at word words >>= λ value. Ok (ClientValueLine value)

-- the same, where each word is printable
abbrev pub bench_line_at : BenchKeyword → List Text → Result BenchValue ScriptFault
bench_line_at word words = if list_all is_printed words then bench_words_at word words else Err Words
