-- What a command line asks for, by the definition that `clap` gives of a simple command's matches.
use Rattle.std.specs.Prelude.{◌≡◌, ◌≢◌, ◌⊎◌, ◌*◌, ◌==◌, ◌&&◌, bytes_eq, ℕ, ℤ, pos, Bool, true, false, not, is_some, if◌then◌else◌, List, []}
use Rattle.std.specs.Prelude.{◌∷◌, ◌++◌, map, codes, Option, Some, None}
use Rattle.std.specs.Prelude.{option_and_then, option_map, unwrap_or, string_bytes}
use Rattle.std.specs.Borrow.{Bor}
use Rattle.std.specs.List.{list_all}
use Rattle.clap.specs.Words.{App, IsAmong, Row, Rule, Text, all_of, fault_of, first_of, new_app, new_rule, subcommand_of, with_rule}
use Rattle.clap.specs.Words.{with_subcommand}
use Rattle.clap.specs.Simple.{on_top}
use Rattle.clap.specs.declared.builder.action.ArgAction.TheVariants as action
use Rattle.clap.specs.declared.builder.value_parser.ValueParser.TheVariants as parser
use Rattle.clap.specs.declared.error.kind.ErrorKind.{ErrorKind}
use Rattle.clap.specs.declared.error.kind.ErrorKind.TheVariants as kinds
use Rattle.zk_nodes.specs.PathFault.{fault_of as path_fault}
use Rattle.zk_nodes.specs.declared.side.Side.{Side}
use Rattle.zk_nodes.specs.declared.side.Side.TheVariants.{Data, Child}
use Rattle.script_live.specs.Addresses.{is_address}
use Rattle.script_words.specs.Numbers.{natural_of}
use Rattle.zk_conversation.specs.Calls.{Call}
use Rattle.zk_conversation.specs.Views.{call_view}
use Rattle.shell_ask.specs.declared.plan.Form.{Form}
use Rattle.shell_ask.specs.declared.plan.Form.TheVariants.{Plain}
use Rattle.shell_watch.specs.Watching.{aims_of}
use Rattle.shell_watch.specs.declared.plan.Style.{Style}
use Rattle.shell_watch.specs.declared.plan.Style.TheVariants as style
use Rattle.shell_commands.specs.declared.command.Command.{Command}
use Rattle.shell_commands.specs.declared.command.NodeQuestion.{NodeQuestion}
use Rattle.shell_commands.specs.declared.command.Scope.{Scope}
use Rattle.shell_commands.specs.declared.command.Tour.{Tour}
use Rattle.shell_commands.specs.declared.command.Command.TheVariants.{Show, History, Replay, Rehearse, Live, Watch, Ask, Tree}
use Rattle.shell_commands.specs.declared.line_fault.LineFault.{LineFault}
use Rattle.shell_commands.specs.declared.line_fault.LineFault.TheVariants.{Help, Refused, Memory}
use Rattle.shell_commands.specs.declared.kind.FrameKind.TheVariants as kind
use Rattle.shell_commands.specs.Kinds.{kind_word}
use Rattle.shell_commands.specs.declared.verb.Verb.{Verb}
use Rattle.shell_commands.specs.Asks.{AreServers, absolute, call_for, depth_read, form_for, form_or_json, verb_word, with_reads}
use Rattle.shell_commands.specs.Asks.{with_writes, flag, flag_rule, servers_rule}

-- the kinds that `show` knows, in the order in which help lists them
abbrev pub kind_words : List Text
kind_words =
    kind_word kind.Connect ∷ (kind_word kind.Accepted ∷ (kind_word kind.Request ∷ (kind_word kind.Notice
    ∷ (kind_word kind.ReplyExists ∷ (kind_word kind.ReplySetData ∷ (kind_word kind.ReplyGetData
    ∷ (kind_word kind.ReplyGetChildren ∷ (kind_word kind.ReplyGetChildren2 ∷ (kind_word kind.ReplyCreate
    ∷ (kind_word kind.ReplyHeader ∷ []))))))))))

-- one of these names, and it must be given
abbrev pub kind_rule : Bor (List (Bor Text)) → Rule
kind_rule names = record (new_rule (codes "KIND")) { required = true; parser = Some (parser.Names names) }

-- any text, and it must be given
abbrev pub hex_rule : Rule
hex_rule = record (new_rule (codes "HEX")) { required = true }

abbrev pub show_app : Bor (List (Bor Text)) → App
show_app names = with_rule (with_rule (new_app (codes "show")) (kind_rule names)) hex_rule

abbrev pub history_app : App
history_app = new_app (codes "history")

abbrev pub replay_app : App
replay_app = new_app (codes "replay")

abbrev pub rehearse_app : App
rehearse_app = new_app (codes "rehearse")

-- one word or more, and one must be given
abbrev pub address_rule : Rule
address_rule = record (new_rule (codes "ADDRESS")) { required = true; action = Some action.Append }

abbrev pub live_app : App
live_app = with_rule (new_app (codes "live")) address_rule

-- an option with a value
abbrev pub option_rule : Text → Rule
option_rule name = record (new_rule name) { long = Some name; value_names = 1 }

-- with a path, and it may be used several times
abbrev pub path_rule : Text → Rule
path_rule name = record (option_rule name) { action = Some action.Append }

-- milliseconds, 30,000 of them if no number is given
abbrev pub timeout_rule : Rule
timeout_rule = record (option_rule (codes "timeout")) { defaults = codes "30000" ∷ [] }

-- seconds
abbrev pub duration_rule : Rule
duration_rule = option_rule (codes "for")

-- a number of nodes, 1,000 if no number is given
abbrev pub bound_rule : Rule
bound_rule = record (option_rule (codes "most")) { defaults = codes "1000" ∷ [] }

-- what is watched
abbrev pub scope_app : App
scope_app =
    with_rule (with_rule
    (with_rule (with_rule (with_rule (new_app (codes "watch")) servers_rule) (path_rule (codes "data"))) (path_rule (codes "children")))
    (path_rule (codes "tree"))) bound_rule

abbrev pub watch_app : App
watch_app =
    with_rule (with_rule (with_rule (with_rule scope_app timeout_rule) duration_rule) (flag_rule (codes "text"))) (flag_rule (codes "json"))

-- the program without its subcommands: one must be given
abbrev pub shell_top : App
shell_top = on_top (λ s. record s { subcommand_required = true; has_version = true }) (new_app (codes "zk_shell"))

-- the program
abbrev pub shell_app : Bor (List (Bor Text)) → App
shell_app names =
    with_writes (with_reads (with_subcommand (with_subcommand (with_subcommand (with_subcommand (with_subcommand (with_subcommand shell_top
    (show_app names).top) history_app.top) replay_app.top) rehearse_app.top) live_app.top) watch_app.top))

-- the list is that of the kinds
abbrev pub AreKinds : Bor (List (Bor Text)) → Type 0
AreKinds names = map (λ n. n.now) names.now ≡ kind_words

-- these words were given, and each is an address
abbrev pub AreAddresses : List Text → List Row → Type 0
AreAddresses words rows = (all_of (codes "ADDRESS") rows ≡ Some words) × (list_all is_address words ≡ true)

-- the text of a path
abbrev pub is_path : Text → Bool
is_path text = not (is_some (path_fault text))

-- the values of an option, in the order in which they were given
abbrev pub given : Text → List Row → List Text
given id rows = unwrap_or (all_of id rows) []

-- the text of a path, which is one below a chroot too
abbrev pub is_below : (chroot path : Text) → Bool
is_below chroot path = is_path path && is_path (absolute chroot path)

-- a side of the node at each path below a chroot
abbrev pub aims_at : (chroot : Text) → Side → List Text → List (Side × Text)
aims_at chroot side paths = map (λ p. (side, absolute chroot p)) paths

-- Below a chroot, the data of the nodes that were given for them, and then the names below those that were given for these; each is a path.
abbrev pub AreAims : (chroot : Text) → List (Side × Text) → List Row → Type 0
AreAims chroot aims rows = (aims ≡ aims_at chroot Data (given (codes "data") rows) ++ aims_at chroot Child (given (codes "children") rows))
    × (list_all (is_below chroot) (given (codes "data") rows) ≡ true) × (list_all (is_below chroot) (given (codes "children") rows) ≡ true)

-- Below a chroot, the roots of the trees that were given; each is a path.
abbrev pub AreRoots : (chroot : Text) → List Text → List Row → Type 0
AreRoots chroot roots rows =
    (roots ≡ map (λ p. absolute chroot p) (given (codes "tree") rows)) × (list_all (is_below chroot) (given (codes "tree") rows) ≡ true)

-- the number, if it is not 0
abbrev pub above_zero : Option ℕ → Option ℕ
above_zero (Some n) = if n == 0 then None else Some n
above_zero None = None

-- the number that a word means, from 1 to the most
abbrev pub count_at : ℕ → Text → Option ℕ
count_at most word = above_zero (natural_of most word)

-- a timeout in milliseconds
abbrev pub timeout_at : Text → Option ℤ
timeout_at word = option_map pos (count_at 2147483647 word)

-- how long to watch, in milliseconds: the words say it in seconds, or not at all
abbrev pub duration_read : Option Text → Option (Option ℕ)
duration_read None = Some None
duration_read (Some word) = option_map (λ seconds. Some (1000 * seconds)) (count_at 4294967 word)

-- the timeout that was given, in milliseconds
abbrev pub IsTimeout : ℤ → List Row → Type 0
IsTimeout ms rows = option_and_then timeout_at (first_of (codes "timeout") rows) ≡ Some ms

-- how long to watch by what was given, in milliseconds
abbrev pub IsDuration : Option ℕ → List Row → Type 0
IsDuration ms rows = duration_read (first_of (codes "for") rows) ≡ Some ms

-- how a watch prints: as JSON if this is asked for
abbrev pub style_in : List Row → Style
style_in rows = if flag (codes "json") rows then style.Json else (if flag (codes "text") rows then style.Text else style.Hex)

-- how many nodes are printed, or watched of one tree, at most
abbrev pub most_at : Text → Option ℕ
most_at word = count_at 4294967295 word

-- the number of nodes that was given
abbrev pub IsMost : ℕ → List Row → Type 0
IsMost most rows = option_and_then most_at (first_of (codes "most") rows) ≡ Some most

-- sides of nodes, roots of trees, and the most nodes of one tree
pub record Sights : Type 0 where
  pub aims : List (Side × Text)
  pub roots : List Text
  pub most : ℕ

abbrev pub sights_of : Scope → Sights
sights_of scope = record { aims = aims_of scope.subjects.items; roots = scope.trees.items; most = scope.most }

-- what is watched below a chroot
abbrev pub AreSights : (chroot : Text) → Sights → List Row → Type 0
AreSights chroot sights rows = AreAims chroot sights.aims rows × AreRoots chroot sights.roots rows × IsMost sights.most rows

-- what `watch` was given: servers with their chroot, what to watch, a timeout, how long, and how to print
abbrev pub IsWatch : (addresses : List Text) → (chroot : Text) → Sights → ℤ → Option ℕ → Style → List Row → Type 0
IsWatch addresses chroot sights timeout_ms for_ms how rows =
    AreServers addresses chroot rows × AreSights chroot sights rows × IsTimeout timeout_ms rows
    × IsDuration for_ms rows × (how ≡ style_in rows)

-- how long to wait, in milliseconds: the words say it in seconds
abbrev pub wait_at : Text → Option ℕ
wait_at word = option_map (λ seconds. 1000 * seconds) (count_at 4294967 word)

-- the words name a node
pub record IsNode (chroot name : Text) (rows : List Row) : Type 0 where
  pub given : first_of (codes "PATH") rows ≡ Some name
  pub is : is_below chroot name ≡ true

-- What a command that asks for a node was given: servers with their chroot, the node, the call by its verb, the file whose bytes are its
-- data if one is named, how to print, and how long to wait.
abbrev pub IsAsked : Verb → (addresses : List Text) → (chroot name : Text) → Call → (from : Option Text)
    → Form → (wait_ms : ℕ) → List Row → Type 0
IsAsked verb addresses chroot name call from form wait_ms rows =
    AreServers addresses chroot rows × IsNode chroot name rows × (call_for verb (absolute chroot name) rows ≡ Some call)
    × (from ≡ first_of (codes "from") rows) × (form ≡ form_for verb rows)
    × (option_and_then wait_at (first_of (codes "wait") rows) ≡ Some wait_ms)

-- that is this question
abbrev pub AsksQuestion : Verb → NodeQuestion → List Row → Type 0
AsksQuestion verb question rows =
    IsAsked verb (map (λ a. a.now) question.addresses.items) (string_bytes question.chroot) question.name.now (call_view question.call)
    (option_map (λ f. f.now) question.from) question.form question.wait_ms rows

-- What `tree` was given: servers with their chroot, the root by its path and by its name below the chroot, how many levels and how many
-- nodes, how to print, and how long to wait.
abbrev pub IsTree : (addresses : List Text) → (chroot path name : Text) → (deepest most : ℕ) → Form → (wait_ms : ℕ) → List Row → Type 0
IsTree addresses chroot path name deepest most form wait_ms rows =
    AreServers addresses chroot rows × IsNode chroot name rows × (path ≡ absolute chroot name)
    × (depth_read (first_of (codes "depth") rows) ≡ Some deepest)
    × (option_and_then most_at (first_of (codes "most") rows) ≡ Some most) × (form ≡ form_or_json Plain rows)
    × (option_and_then wait_at (first_of (codes "wait") rows) ≡ Some wait_ms)

-- that is this tree
abbrev pub AsksTour : Tour → List Row → Type 0
AsksTour tour rows = (chroot : Text)
    × IsTree (map (λ a. a.now) tour.addresses.items) chroot tour.path tour.name tour.deepest tour.most tour.form tour.wait_ms rows

-- the subcommand that was found, with its values, is this command
abbrev pub IsFound : Command → Option (Text × List Row) → Type 0
IsFound (Show kind hex) found = (rows : List Row) × (found ≡ Some (codes "show", rows))
    × (first_of (codes "KIND") rows ≡ Some (kind_word kind)) × (first_of (codes "HEX") rows ≡ Some hex.now)
IsFound History found = (rows : List Row) × (found ≡ Some (codes "history", rows))
IsFound Replay found = (rows : List Row) × (found ≡ Some (codes "replay", rows))
IsFound Rehearse found = (rows : List Row) × (found ≡ Some (codes "rehearse", rows))
IsFound (Live addresses) found =
    (rows : List Row) × (found ≡ Some (codes "live", rows)) × AreAddresses (map (λ a. a.now) addresses.items) rows
IsFound (Watch addresses scope timeout_ms for_ms how) found = (rows : List Row) × (found ≡ Some (codes "watch", rows))
    × (chroot : Text) × IsWatch (map (λ a. a.now) addresses.items) chroot (sights_of scope) timeout_ms for_ms how rows
IsFound (Tree tour) found = (rows : List Row) × (found ≡ Some (codes "tree", rows)) × AsksTour tour rows
IsFound (Ask question) found = (verb : Verb) × (rows : List Row) × (found ≡ Some (verb_word verb, rows)) × AsksQuestion verb question rows

-- the words are those that ask for the frames of a capture: they have a meaning of their own, and all others are `clap`'s
abbrev pub asks_stream : List Text → Bool
asks_stream (program ∷ (command ∷ (option ∷ []))) = bytes_eq command (codes "show") && bytes_eq option (codes "--stream")
asks_stream words = false

-- the words ask for this command
abbrev pub AsksFor : List Text → Command → Type 0
AsksFor words command = (names : Bor (List (Bor Text))) × AreKinds names × IsFound command (subcommand_of (shell_app names) words)

-- the words ask for no command
abbrev pub AsksForNone : Option (Text × List Row) → Type 0
AsksForNone found = (command : Command) → IsFound command found → ⊥

-- Help is told if `clap` answers the words with help, and a refusal if it refuses them, or if they ask for no command.
abbrev pub IsDue : List Text → LineFault → Type 0
IsDue words (Help text) = (names : Bor (List (Bor Text))) × AreKinds names
    × ((kind : ErrorKind) × ((kind ≡ kinds.DisplayHelp) ⊎ (kind ≡ kinds.DisplayVersion)) × IsAmong kind (fault_of (shell_app names) words))
IsDue words (Refused text) = (names : Bor (List (Bor Text))) × AreKinds names
    × (((kind : ErrorKind) × (kind ≢ kinds.DisplayHelp) × (kind ≢ kinds.DisplayVersion) × IsAmong kind (fault_of (shell_app names) words))
    ⊎ AsksForNone (subcommand_of (shell_app names) words))
IsDue words Memory = Unit {0}
