-- What is printed of what goes through a client's connection: the client that says it was handed the bytes of its streams, and no others.
use Rattle.std.specs.Prelude.{◌≡◌, ℕ, List, [], ◌++◌, codes}
use Rattle.std.specs.List.{FoldsTo}
use Rattle.zk_turns.specs.Turns.{Input, Output}
use Rattle.script_words.specs.Lines.{TellsInOrder}
use Rattle.script_live.specs.Flowing.{bytes_of, holding, Begins, Carries, Deed, Ends, Fails, Flow, Hears, HearsSo, Looks, Reads}
use Rattle.script_live.specs.Heard.{TellsEach}

-- What is printed of a deed: the outputs of a turn, except what goes to the server; that no address connects; what is looked up.
abbrev pub TellsDeed : Deed → List ℕ → Type 0
TellsDeed Reads text = text ≡ []
TellsDeed (Hears turn) text = TellsEach turn.outputs text
TellsDeed (Begins turn) text = TellsEach turn.outputs text
TellsDeed (Ends turn) text = TellsEach turn.outputs text
TellsDeed Fails text = text ≡ codes "down\n"
TellsDeed (Looks value words) text = text ≡ words

-- Deeds lead from one place to another, the oldest first, and what is printed of them, in order, stands after what was printed.
pub record Prints (old new : Flow) (before after : List ℕ) : Type 0 where
  pub deeds : List Deed
  pub carries : FoldsTo Carries old deeds new
  pub told : List ℕ
  pub tells : TellsInOrder TellsDeed deeds told
  pub printed : after ≡ before ++ told

-- A client takes an input, and what is printed of what it says stands after what was printed.
pub record Hands (input : Input) (old new : Flow) (before after : List ℕ) : Type 0 where
  pub outputs : List Output
  pub told : List ℕ
  pub hears : HearsSo (holding (bytes_of input) old) (record { input = input; outputs = outputs }) new
  pub tells : TellsEach outputs told
  pub printed : after ≡ before ++ told

-- So it does, and then more is done.
pub record HandsThen (input : Input) (old new : Flow) (before after : List ℕ) : Type 0 where
  pub between : Flow
  pub text : List ℕ
  pub hands : Hands input old between before text
  pub goes_on : Prints between new text after
