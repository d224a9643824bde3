-- What the words of the commands that ask for one node mean.
use Rattle.std.specs.Prelude.{⊤, ◌≡◌, ◌==◌, ◌&&◌, not, ℕ, ℤ, pos, negsuc, Bool, true, false, if◌then◌else◌, List, [], ◌∷◌, ◌++◌, codes}
use Rattle.std.specs.Prelude.{bytes_eq, Option, Some, None, is_some, Result, Ok, Err, option_and_then, option_map}
use Rattle.std.specs.List.{list_all, slice_split}
use Rattle.zk_link.specs.FarEnds.{FarEnd}
use Rattle.clap.specs.Words.{App, Row, Rule, Text, first_of, new_app, new_rule, with_rule, with_subcommand}
use Rattle.clap.specs.declared.builder.action.ArgAction.TheVariants as action
use Rattle.shell_ask.specs.declared.plan.Form.{Form}
use Rattle.shell_ask.specs.declared.plan.Form.TheVariants.{Plain, Hex, Raw, Quiet, Json}
use Rattle.zk_conversation.specs.Calls.{Call, Exists, GetData, GetChildren, SetData, Create, Delete}
use Rattle.shell_ask.specs.declared.end.CallEnd.{CallEnd}
use Rattle.shell_ask.specs.declared.end.CallEnd.TheVariants as ends
use Rattle.shell_ask.specs.Asking.{Coming, ComesOf}
use Rattle.shell_ask.specs.Printing.{end_of, is_read, told, Prints}
use Rattle.zk_limits.specs.declared.limits.TheConstants.{LONGEST_PATH}
use Rattle.zk_nodes.specs.PathFault.{fault_of as path_fault}
use Rattle.script_words.specs.Numbers.{natural_of}
use Rattle.script_words.specs.Reads.{data_at}
use Rattle.script_words.specs.declared.script_fault.ScriptFault.{ScriptFault}
use Rattle.zk_link.specs.Hosts.{parted}
use Rattle.shell_commands.specs.Hosts.{is_named_server}
use Rattle.shell_commands.specs.declared.status.Status.{Status}
use Rattle.shell_commands.specs.declared.status.Status.TheVariants as status
use Rattle.shell_commands.specs.declared.verb.Verb.{Verb}
use Rattle.shell_commands.specs.declared.verb.Verb.TheVariants as verb

abbrev pub verb_word : Verb → Text
verb_word verb.Get = codes "get"
verb_word verb.List = codes "ls"
verb_word verb.Stat = codes "stat"
verb_word verb.Set = codes "set"
verb_word verb.Create = codes "create"
verb_word verb.Delete = codes "delete"

-- any text, and it must be given
abbrev pub servers_rule : Rule
servers_rule = record (new_rule (codes "SERVERS")) { required = true }

abbrev pub node_rule : Rule
node_rule = record (new_rule (codes "PATH")) { required = true }

-- `true` where it is used, and else `false`
abbrev pub flag_rule : Text → Rule
flag_rule name = record (new_rule name) { long = Some name; action = Some action.SetTrue }

-- seconds, 10 of them if no number is given
abbrev pub wait_rule : Rule
wait_rule = record (new_rule (codes "wait")) { long = Some (codes "wait"); value_names = 1; defaults = codes "10" ∷ [] }

abbrev pub read_app : Text → App
read_app name = with_rule (with_rule (with_rule (new_app name) servers_rule) node_rule) wait_rule

abbrev pub json_app : Text → App
json_app name = with_rule (read_app name) (flag_rule (codes "json"))

abbrev pub get_app : App
get_app = with_rule (with_rule (json_app (codes "get")) (flag_rule (codes "hex"))) (flag_rule (codes "raw"))

-- any text
abbrev pub data_rule : Rule
data_rule = new_rule (codes "DATA")

-- a number, if one is given
abbrev pub version_rule : Rule
version_rule = record (new_rule (codes "version")) { long = Some (codes "version"); value_names = 1 }

-- the name of a file, if one is given
abbrev pub from_rule : Rule
from_rule = record (new_rule (codes "from")) { long = Some (codes "from"); value_names = 1 }

abbrev pub data_app : Text → App
data_app name =
    with_rule (with_rule (with_rule (with_rule (read_app name) data_rule) (flag_rule (codes "hex"))) (flag_rule (codes "null"))) from_rule

abbrev pub set_app : App
set_app = with_rule (data_app (codes "set")) version_rule

abbrev pub create_app : App
create_app = with_rule (with_rule (data_app (codes "create")) (flag_rule (codes "sequential"))) (flag_rule (codes "json"))

abbrev pub delete_app : App
delete_app = with_rule (read_app (codes "delete")) version_rule

abbrev pub with_writes : App → App
with_writes app = with_subcommand (with_subcommand (with_subcommand app set_app.top) create_app.top) delete_app.top

-- a number of levels, if one is given
abbrev pub depth_rule : Rule
depth_rule = record (new_rule (codes "depth")) { long = Some (codes "depth"); value_names = 1 }

-- nodes, 10,000 of them if no number is given
abbrev pub most_rule : Rule
most_rule = record (new_rule (codes "most")) { long = Some (codes "most"); value_names = 1; defaults = codes "10000" ∷ [] }

abbrev pub tree_app : App
tree_app = with_rule (with_rule (json_app (codes "tree")) depth_rule) most_rule

abbrev pub with_reads : App → App
with_reads app =
    with_subcommand (with_subcommand (with_subcommand (with_subcommand app get_app.top) (json_app (codes "ls")).top)
    (json_app (codes "stat")).top) tree_app.top

-- what stands before the first slash, and what stands after it
abbrev pub cut : (word : Text) → Option (Text × Text) → Text × Text
cut word None = (word, [])
cut word (Some parts) = parts

abbrev pub cut_at_slash : Text → Text × Text
cut_at_slash word = cut word (parted 47 word)

-- the path that stands after the addresses: none if nothing stands after the slash
abbrev pub chroot_text : Text → Text
chroot_text [] = []
chroot_text (b ∷ bytes) = 47 ∷ (b ∷ bytes)

-- empty, or a path
abbrev pub is_root : Text → Bool
is_root [] = true
is_root (b ∷ bytes) = not (is_some (path_fault (b ∷ bytes)))

-- The word has addresses with commas between them, and a chroot after them if there is one.
abbrev pub IsServers : (addresses : List Text) → (chroot : Text) → (word : Text) → Type 0
IsServers addresses chroot word =
    (addresses ≡ slice_split (λ b. b == 44) (cut_at_slash word).0) × (list_all is_named_server addresses ≡ true)
    × (chroot ≡ chroot_text (cut_at_slash word).1) × (is_root chroot ≡ true)

-- They are what was given.
pub record AreServers (addresses : List Text) (chroot : Text) (rows : List Row) : Type 0 where
  pub word : Text
  pub given : first_of (codes "SERVERS") rows ≡ Some word
  pub are : IsServers addresses chroot word

abbrev pub is_empty : Text → Bool
is_empty [] = true
is_empty _ = false

-- the text of a path below a chroot, whose root is the chroot
abbrev pub absolute : (chroot path : Text) → Text
absolute chroot path = if bytes_eq path (47 ∷ []) && not (is_empty chroot) then chroot else chroot ++ path

-- whether a flag is used
abbrev pub is_used : Option Text → Bool
is_used None = false
is_used (Some word) = bytes_eq word (codes "true")

abbrev pub flag : Text → List Row → Bool
flag name rows = is_used (first_of name rows)

-- what hex, \e or \0 mean
abbrev pub decoded : Result (Option (List ℕ)) ScriptFault → Option (Option (List ℕ))
decoded (Ok bytes) = Some bytes
decoded (Err fault) = None

-- The data that are given: a word as it is, or hex; or null, if this is said and no word is given.
abbrev pub data_given : (word : Option Text) → (is_null is_hex : Bool) → Option (Option (List ℕ))
data_given None true is_hex = Some None
data_given None false is_hex = None
data_given (Some word) true is_hex = None
data_given (Some word) false false = Some (Some word)
data_given (Some word) false true = decoded (data_at word)

-- The data that are given, or a file is named alone: then there are none yet.
abbrev pub data_with : (file word : Option Text) → (is_null is_hex : Bool) → Option (Option (List ℕ))
data_with None word is_null is_hex = data_given word is_null is_hex
data_with (Some file) None false false = Some None
data_with (Some file) _ _ _ = None

abbrev pub data_in : List Row → Option (Option (List ℕ))
data_in rows = data_with (first_of (codes "from") rows) (first_of (codes "DATA") rows) (flag (codes "null") rows) (flag (codes "hex") rows)

-- the version that a node is to have: any, if none is given
abbrev pub version_read : Option Text → Option ℤ
version_read None = Some (negsuc 0)
version_read (Some word) = option_map pos (natural_of 2147483647 word)

abbrev pub version_in : List Row → Option ℤ
version_in rows = version_read (first_of (codes "version") rows)

-- how many levels below a node are gone through: if none is given, as many as the longest path has bytes, and so all
abbrev pub depth_read : Option Text → Option ℕ
depth_read None = Some LONGEST_PATH
depth_read (Some word) = natural_of 4294967295 word

-- the number of a mode: whether the name ends with a number
abbrev pub mode_in : List Row → ℕ
mode_in rows = if flag (codes "sequential") rows then 2 else 0

-- the call that a verb makes of a path
abbrev pub call_for : Verb → Text → List Row → Option Call
call_for verb.Get path rows = Some (GetData path false)
call_for verb.List path rows = Some (GetChildren path false)
call_for verb.Stat path rows = Some (Exists path false)
call_for verb.Set path rows = option_and_then (λ bytes. option_map (SetData path bytes) (version_in rows)) (data_in rows)
call_for verb.Create path rows = option_map (λ bytes. Create path bytes (mode_in rows)) (data_in rows)
call_for verb.Delete path rows = option_map (Delete path) (version_in rows)

-- JSON if this is asked for, and else this
abbrev pub form_or_json : Form → List Row → Form
form_or_json form rows = if flag (codes "json") rows then Json else form

-- how data are printed
abbrev pub data_form : List Row → Form
data_form rows = if flag (codes "raw") rows then Raw else (if flag (codes "hex") rows then Hex else Plain)

-- how the answer is printed
abbrev pub form_for : Verb → List Row → Form
form_for verb.Get rows = form_or_json (data_form rows) rows
form_for verb.List rows = form_or_json Plain rows
form_for verb.Stat rows = form_or_json Plain rows
form_for verb.Create rows = form_or_json Plain rows
form_for verb.Set rows = Quiet
form_for verb.Delete rows = Plain

-- ---- how a call ends

abbrev pub status_of : CallEnd → Status
status_of ends.Done = status.Done
status_of ends.NoNode = status.NoNode
status_of ends.Refused = status.Refused
status_of ends.Unconnected = status.Unconnected
status_of ends.Unanswered = status.Unanswered
status_of ends.More = status.More
status_of ends.Memory = status.Memory
status_of ends.Stream = status.Stream

-- a call is not done, or may not be, or is not asked since its data were not read
abbrev pub IsUndone : Status → Type 0
IsUndone status.NoNode = ⊤
IsUndone status.Refused = ⊤
IsUndone status.Unconnected = ⊤
IsUndone status.Unanswered = ⊤
IsUndone status.Unread = ⊤
IsUndone _ = ⊥

-- A call is done, and this is printed of its answer.
pub record PrintsAnswer (A : Type 0) (far : FarEnd) (call : Call) (form : Form) (chroot : Text) (text : List ℕ) : Type 0 where
  pub coming : Coming
  pub comes : ComesOf A far call coming
  pub done : end_of coming ≡ ends.Done
  pub prints : Prints form chroot coming text

-- A call is not done, or may not be, and ends so, and this is told.
pub record TellsWhy (A : Type 0) (far : FarEnd) (call : Call) (name : Text) (status : Status) (text : List ℕ) : Type 0 where
  pub coming : Coming
  pub comes : ComesOf A far call coming
  pub ends : status ≡ status_of (end_of coming)
  pub tells : text ≡ told (is_read call) name coming
