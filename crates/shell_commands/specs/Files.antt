-- What the file gives that a command line names, and the call that is asked with it.
use Rattle.std.specs.Prelude.{◌≡◌, ◌≢◌, ◌≤◌, ◌<◌, ℕ, List, length, codes, bytes_eq, if◌then◌else◌, Option, Some, None, IfSome}
use Rattle.zk_link.specs.FarEnds.{FarEnd}
use Rattle.clap.specs.Words.{Text}
use Rattle.shell_ask.specs.Printing.{fault_line}
use Rattle.zk_conversation.specs.Calls.{Call, SetData, Create}
use Rattle.zk_limits.specs.declared.limits.TheConstants.{LONGEST_OUTGOING}
use Rattle.shell_commands.specs.Asks.{TellsWhy}
use Rattle.shell_commands.specs.Scripts.{IsInput}
use Rattle.shell_commands.specs.declared.status.Status.{Status}
use Rattle.shell_commands.specs.declared.status.Status.TheVariants.{Unread}
use Rattle.shell_commands.specs.declared.files.FileFault.{FileFault}
use Rattle.shell_commands.specs.declared.files.FileFault.TheVariants as fault

-- what a file gives by its name, and standard input by the name -, if that is known
abbrev pub given_by : (files : Text → Option (List ℕ)) → (input : Option (List ℕ)) → (name : Text) → Option (List ℕ)
given_by files input name = if bytes_eq name (codes "-") then input else files name

-- these are all its bytes, if those are known, and no more than a frame takes
abbrev pub AreWhole : (given : Option (List ℕ)) → (bytes : List ℕ) → Type 0
AreWhole given bytes = IsInput given bytes × (length bytes ≤ LONGEST_OUTGOING)

-- it has more, if its bytes are known
abbrev pub IsTooLong : Option (List ℕ) → Type 0
IsTooLong given = IfSome given (λ all. LONGEST_OUTGOING < length all)

-- a call with these data, if it has data
abbrev pub with_data : List ℕ → Call → Call
with_data bytes (SetData path old version) = SetData path (Some bytes) version
with_data bytes (Create path old mode) = Create path (Some bytes) mode
with_data bytes call = call

-- The call that is asked: that of the words, and if they name a file, with all bytes that it gives as the data.
abbrev pub IsAskedBy : (files : Text → Option (List ℕ)) → (input : Option (List ℕ)) → (from : Option Text) → (call asked : Call) → Type 0
IsAskedBy files input None call asked = asked ≡ call
IsAskedBy files input (Some name) call asked =
    (bytes : List ℕ) × AreWhole (given_by files input name) bytes × (asked ≡ with_data bytes call)

abbrev pub why_words : FileFault → List ℕ
why_words fault.Missing = codes "there is no such file"
why_words fault.Denied = codes "the system does not let it be read"
why_words fault.Unread = codes "a read failed"
why_words fault.TooLong = codes "it has more than 1,048,575 bytes"
why_words fault.Memory = codes "out of memory"

-- Why the file that is named gives no data, and that this is told.
pub record TellsUnread (given : Option (List ℕ)) (name : Text) (text : List ℕ) : Type 0 where
  pub why : FileFault
  pub not_memory : why ≢ fault.Memory
  pub long : why ≡ fault.TooLong → IsTooLong given
  pub tells : text ≡ fault_line (codes "unread: ") name (why_words why)

-- A call is not done, or may not be, and ends so; or it is not asked, since the file with its data is not read. This is told.
pub data TellsUndone (A : Type 0) (far : FarEnd) (files : Text → Option (List ℕ)) (input : Option (List ℕ))
    (from : Option Text) (call : Call)
    (name : Text) (status : Status) (text : List ℕ) : Type 0 where
  unanswered : (asked : Call)
      → IsAskedBy files input from call asked → TellsWhy A far asked name status text
      → TellsUndone A far files input from call name status text
  unread : (file : Text) → from ≡ Some file → status ≡ Unread → TellsUnread (given_by files input file) file text
      → TellsUndone A far files input from call name status text
