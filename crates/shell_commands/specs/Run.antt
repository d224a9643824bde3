-- What a command line writes, by how it ends.
use Rattle.std.specs.Prelude.{◌≡◌, true, false, ℕ, ℤ, List, [], ◌∷◌, ◌++◌, Option, option_map, string_bytes}
use Rattle.std.specs.Borrow.{Bor}
use Rattle.std.specs.Global.{Global, Vec}
use Rattle.zk_link.specs.FarEnds.{FarEnd}
use Rattle.clap.specs.Words.{Text}
use Rattle.script_words.specs.Scripts.{lines_of, refusal_text}
use Rattle.script_words.specs.declared.script.ScriptEnd.{ScriptEnd}
use Rattle.script_words.specs.declared.script.ScriptEnd.TheVariants as ends
use Rattle.script_words.specs.declared.script_fault.ScriptFault.{ScriptFault}
use Rattle.shell_commands.specs.declared.command.Command.{Command}
use Rattle.shell_commands.specs.declared.command.NodeQuestion.{NodeQuestion}
use Rattle.shell_commands.specs.declared.command.Scope.{Scope}
use Rattle.shell_commands.specs.declared.command.Tour.{Tour}
use Rattle.shell_commands.specs.Tours.{PrintsTree, TellsTree}
use Rattle.shell_ask.specs.Trees.{Full, Whole, ending_told}
use Rattle.shell_commands.specs.declared.command.Command.TheVariants.{Show, Watch, Ask, Tree}
use Rattle.shell_commands.specs.declared.line_fault.LineFault.{LineFault}
use Rattle.shell_commands.specs.declared.line_fault.LineFault.TheVariants.{Help, Refused}
use Rattle.shell_commands.specs.declared.fault.ShowFault.{ShowFault}
use Rattle.shell_commands.specs.declared.kind.FrameKind.{FrameKind}
use Rattle.shell_commands.specs.CommandLine.{AsksFor, IsDue, asks_stream}
use Rattle.script_stream.specs.Lines.{IsShown}
use Rattle.zk_conversation.specs.Views.{call_view}
use Rattle.shell_commands.specs.Asks.{PrintsAnswer}
use Rattle.shell_commands.specs.Files.{IsAskedBy, TellsUndone}
use Rattle.zk_conversation.specs.Calls.{Call as Calls}
use Rattle.shell_commands.specs.declared.status.Status.{Status}
use Rattle.shell_watch.specs.Watching.{aims_of, IsPrinted, IsWatched}
use Rattle.shell_watch.specs.declared.plan.Style.{Style}
use Rattle.shell_commands.specs.Scripts.{IsInput, IsTranscriptOf}
use Rattle.shell_commands.specs.Written.{IsHalt, RunsOut}
use Rattle.shell_commands.specs.Show.{ShowsFrame, IsFault, fault_text}

-- the text of help
abbrev pub IsHelpText : LineFault → List ℕ → Type 0
IsHelpText (Help text) told = told ≡ string_bytes text
IsHelpText fault told = ⊥

-- the text of a refusal
abbrev pub IsRefusalText : LineFault → List ℕ → Type 0
IsRefusalText (Refused text) told = told ≡ string_bytes text
IsRefusalText fault told = ⊥

-- The words ask for a frame, and the text is what is shown of it; or for the frames of a capture, and it is what is told of all of them; or
-- for a command that takes a script, and it is what all lines of the input print; or for a watch, and it is what that prints; or for a
-- call, and it is what its answer brings; or for a tree, and it has a line for each node; or for help.
pub data IsDone (far : FarEnd) (words : List Text) (files : Text → Option (List ℕ)) (input : Option (List ℕ)) (text : List ℕ) : Type 0 where
  shows : (kind : FrameKind) (hex : Bor Text) → AsksFor words (Show kind hex)
      → ShowsFrame kind hex.now text → IsDone far words files input text
  tells : (script : List ℕ)
      → asks_stream words ≡ true → IsInput input script → IsShown (lines_of script) text ends.Taken → IsDone far words files input text
  plays : (command : Command) (script : List ℕ)
      → AsksFor words command → IsInput input script → IsTranscriptOf command (lines_of script) text ends.Taken
      → IsDone far words files input text
  watches : (addresses : Vec (Bor Text)) (scope : Scope) (timeout_ms : ℤ) (for_ms : Option ℕ) (style : Style)
      → AsksFor words (Watch addresses scope timeout_ms for_ms style)
      → IsWatched Global far style (aims_of scope.subjects.items) scope.trees.items scope.most for_ms text true
      → IsDone far words files input text
  asks : (question : NodeQuestion) (asked : Calls) → AsksFor words (Ask question)
      → IsAskedBy files input (option_map (λ f. f.now) question.from) (call_view question.call) asked
      → PrintsAnswer Global far asked question.form (string_bytes question.chroot) text → IsDone far words files input text
  tours : (tour : Tour) → AsksFor words (Tree tour) → PrintsTree far tour Whole text → IsDone far words files input text
  helps : (fault : LineFault) → IsDue words fault → IsHelpText fault text → IsDone far words files input text

-- The words ask for a frame that is refused, and nothing is written; or for a command that takes a script or a capture, with a line that is
-- refused, and the text is what stands before what that line would print. What is told is the first fault.
pub data IsFaulty (words : List Text) (input : Option (List ℕ)) (text told : List ℕ) : Type 0 where
  unshown : (kind : FrameKind) (hex : Bor Text) (fault : ShowFault) → AsksFor words (Show kind hex) → IsFault kind hex.now fault → text ≡ []
      → told ≡ fault_text fault ++ 10 ∷ [] → IsFaulty words input text told
  untold : (script : List ℕ) (number : ℕ) (why : ScriptFault) → asks_stream words ≡ true → IsInput input script
      → IsShown (lines_of script) text (ends.Refused number why) → told ≡ refusal_text number why → IsFaulty words input text told
  stopped : (command : Command) (script : List ℕ) (number : ℕ) (why : ScriptFault) → AsksFor words command → IsInput input script
      → IsTranscriptOf command (lines_of script) text (ends.Refused number why) → told ≡ refusal_text number why
      → IsFaulty words input text told

-- The words ask for a call or a tree that is not done, or may not be, or is not asked for, and ends so; this is told.
pub data IsUndoneBy (far : FarEnd) (words : List Text) (files : Text → Option (List ℕ)) (input : Option (List ℕ)) (status : Status)
    (told : List ℕ) : Type 0 where
  call : (question : NodeQuestion) → AsksFor words (Ask question)
      → TellsUndone Global far files input (option_map (λ f. f.now) question.from) (call_view question.call) question.name.now status told
      → IsUndoneBy far words files input status told
  tree : (tour : Tour) → AsksFor words (Tree tour) → TellsTree far tour status told → IsUndoneBy far words files input status told

-- The words ask for a tree, the text is what is printed of as many nodes as are to be, there are more, and this is told.
pub record IsCutOff (far : FarEnd) (words : List Text) (text told : List ℕ) : Type 0 where
  pub tour : Tour
  pub asks : AsksFor words (Tree tour)
  pub prints : PrintsTree far tour Full text
  pub tells : told ≡ ending_told tour.name tour.most Full

-- The words ask for a watch, no server has ever accepted its session, and the text is what it prints.
pub record IsNeverConnected (far : FarEnd) (words : List Text) (text : List ℕ) : Type 0 where
  pub addresses : Vec (Bor Text)
  pub scope : Scope
  pub timeout_ms : ℤ
  pub for_ms : Option ℕ
  pub style : Style
  pub asks : AsksFor words (Watch addresses scope timeout_ms for_ms style)
  pub watched : IsWatched Global far style (aims_of scope.subjects.items) scope.trees.items scope.most for_ms text false

-- the words are refused
abbrev pub IsRefusal : List Text → List ℕ → Type 0
IsRefusal words told = (fault : LineFault) × IsDue words fault × IsRefusalText fault told

-- No line's print is cut. The line of a halt stands after them if a step of the client halted.
pub data IsWhole (far : FarEnd) (words : List Text) (input : Option (List ℕ)) (text : List ℕ) : Type 0 where
  nothing : text ≡ [] → IsWhole far words input text
  starts : (script printed told : List ℕ) (end : ScriptEnd)
      → asks_stream words ≡ true → IsInput input script → IsShown (lines_of script) printed end
      → RunsOut end told → text ≡ printed ++ told → IsWhole far words input text
  begins : (command : Command) (script printed told : List ℕ) (end : ScriptEnd) → AsksFor words command → IsInput input script
      → IsTranscriptOf command (lines_of script) printed end → RunsOut end told → text ≡ printed ++ told → IsWhole far words input text
  ceases : (addresses : Vec (Bor Text)) (scope : Scope) (timeout_ms : ℤ) (for_ms : Option ℕ) (style : Style) (printed told : List ℕ)
      → AsksFor words (Watch addresses scope timeout_ms for_ms style)
      → IsPrinted Global far style (aims_of scope.subjects.items) scope.trees.items scope.most printed → IsHalt told
      → text ≡ printed ++ told → IsWhole far words input text
