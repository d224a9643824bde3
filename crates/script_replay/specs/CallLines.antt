-- The lines of calls.
use Rattle.std.specs.Prelude.{ℕ, List, [], ◌∷◌, codes, Option, Some, None, Result, Ok, Err}
use Rattle.std.specs.Option.{ok_or}
use Rattle.zk_nodes.specs.Path.{Text}
use Rattle.zk_conversation.specs.declared.raw.RawOperation.{RawOperation}
use Rattle.zk_conversation.specs.Calls.{Call, Exists, GetData, GetChildren, SetData, Create, Delete, Close, Raw, raw_numbered}
use Rattle.script_words.specs.declared.script_fault.ScriptFault.{ScriptFault}
use Rattle.script_words.specs.declared.script_fault.ScriptFault.TheVariants.{Words, Number}
use Rattle.script_words.specs.Reads.{◌>>=◌, named, data_at, text_at, path_at}
use Rattle.script_replay.specs.declared.call_line.CallKind.{CallKind}
use Rattle.script_replay.specs.declared.call_line.CallKind.TheVariants as kind
use Rattle.script_replay.specs.Reads.{natural_at, version_at, boolean_at, mode_at, bytes_at}

-- a call, with its caller's number
pub record Asked : Type 0 where
  pub ticket : ℕ
  pub call : Call

abbrev pub kind_read : Text → Result CallKind ScriptFault
kind_read word =
    ok_or
    (named
    ((codes "exists", kind.Exists) ∷ (codes "getdata", kind.GetData) ∷ (codes "getchildren", kind.GetChildren)
    ∷ (codes "setdata", kind.SetData)
    ∷ (codes "create", kind.Create) ∷ (codes "delete", kind.Delete) ∷ (codes "close", kind.Close) ∷ (codes "raw", kind.Raw)
    ∷ [])
    word)
    Words

-- what is asked of a node, by the last word: whether a watch is to be left, or a version, or a mode
abbrev pub asks_at : CallKind → Text → Result (Text → Option (List ℕ) → Call) ScriptFault
asks_at kind.Exists word = boolean_at word >>= λ watch. Ok (λ path bytes. Exists path watch)
asks_at kind.GetData word = boolean_at word >>= λ watch. Ok (λ path bytes. GetData path watch)
asks_at kind.GetChildren word = boolean_at word >>= λ watch. Ok (λ path bytes. GetChildren path watch)
asks_at kind.SetData word = version_at word >>= λ version. Ok (λ path bytes. SetData path bytes version)
asks_at kind.Create word = mode_at word >>= λ mode. Ok (λ path bytes. Create path bytes mode)
asks_at kind.Delete word = version_at word >>= λ version. Ok (λ path bytes. Delete path version)
asks_at kind.Close word = Err Words
asks_at kind.Raw word = Err Words

-- the data that a call brings, if its kind brings some
abbrev pub content_at : Option Text → Result (Option (List ℕ)) ScriptFault
content_at None = Ok None
content_at (Some word) = data_at word

abbrev pub on_path_at : CallKind → (ticket path : Text) → Option Text → Text → Result Asked ScriptFault
on_path_at kind ticket path bytes word = do
  text ← text_at path
  asks ← asks_at kind word
  number ← natural_at ticket
  content ← content_at bytes
  place ← path_at text
  Ok (record { ticket = number; call = asks place content })

-- a call that brings no data
abbrev pub bare_at : CallKind → Text → List Text → Result Asked ScriptFault
bare_at kind ticket (path ∷ word ∷ []) = on_path_at kind ticket path None word
bare_at kind ticket words = Err Words

-- and one that brings some
abbrev pub filled_at : CallKind → Text → List Text → Result Asked ScriptFault
filled_at kind ticket (path ∷ bytes ∷ word ∷ []) = on_path_at kind ticket path (Some bytes) word
filled_at kind ticket words = Err Words

abbrev pub close_at : Text → List Text → Result Asked ScriptFault
close_at ticket [] = natural_at ticket >>= λ number. Ok (record { ticket = number; call = Close })
close_at ticket words = Err Words

-- the operation that the core does not read, by its number
unfoldable pub operation_at : Text → Result RawOperation ScriptFault
operation_at word = version_at word >>= λ number. ok_or (raw_numbered number) Number

-- with what a caller spells after the header
abbrev pub spelled_at : (ticket word bytes : Text) → Result Asked ScriptFault
spelled_at ticket word bytes = do
  number ← natural_at ticket
  operation ← operation_at word
  given ← bytes_at bytes
  Ok (record { ticket = number; call = Raw operation given })

abbrev pub raw_at : Text → List Text → Result Asked ScriptFault
raw_at ticket (word ∷ bytes ∷ []) = spelled_at ticket word bytes
raw_at ticket words = Err Words

abbrev pub kind_at : CallKind → Text → List Text → Result Asked ScriptFault
kind_at kind.Close ticket words = close_at ticket words
kind_at kind.Raw ticket words = raw_at ticket words
kind_at kind.SetData ticket words = filled_at kind.SetData ticket words
kind_at kind.Create ticket words = filled_at kind.Create ticket words
kind_at kind ticket words = bare_at kind ticket words

abbrev pub numbered_at : Text → List Text → Result Asked ScriptFault
numbered_at ticket [] = Err Words
numbered_at ticket (kind ∷ words) = kind_read kind >>= λ k. kind_at k ticket words

-- the words after `call`: the number, the kind, and what the kind asks for
abbrev pub call_at : List Text → Result Asked ScriptFault
call_at [] = Err Words
call_at (ticket ∷ words) = numbered_at ticket words
