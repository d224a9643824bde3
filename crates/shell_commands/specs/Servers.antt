-- The servers that a command line asks or watches if no word of it names any.
use Rattle.std.specs.Prelude.{◌≡◌, ◌&&◌, not, nat_eq, Bool, true, false, if◌then◌else◌, bytes_eq, List, [], ◌∷◌, codes, Option, Some, None}
use Rattle.std.specs.List.{list_any, starts_with}
use Rattle.clap.specs.Words.{Text}

-- the commands that ask or watch servers
abbrev pub node_commands : List Text
node_commands =
    codes "get" ∷ (codes "ls" ∷ (codes "stat" ∷ (codes "tree"
    ∷ (codes "set" ∷ (codes "create" ∷ (codes "delete" ∷ (codes "watch" ∷ [])))))))

-- the options of these that take a value: the next word
abbrev pub valued_options : List Text
valued_options =
    codes "--wait" ∷ (codes "--version" ∷ (codes "--from" ∷ (codes "--depth" ∷ (codes "--most" ∷ (codes "--data" ∷ (codes "--children"
    ∷ (codes "--tree" ∷ (codes "--timeout" ∷ (codes "--for" ∷ [])))))))))

abbrev pub takes_value : Text → Bool
takes_value word = list_any (bytes_eq word) valued_options

-- a dash, and something after it
abbrev pub is_option : Text → Bool
is_option word = starts_with nat_eq word (codes "-") && not (bytes_eq word (codes "-"))

-- A word is plain if it is no option, and no value of the one before it.
abbrev pub is_plain : (is_value : Bool) → Text → Bool
is_plain is_value word = not is_value && not (is_option word)

-- whether the next word is its value
abbrev pub leads : (is_value : Bool) → Text → Bool
leads is_value word = not is_value && takes_value word

-- the first plain word
abbrev pub first_plain : (is_value : Bool) → List Text → Option Text
first_plain is_value [] = None
first_plain is_value (word ∷ words) = if is_plain is_value word then Some word else first_plain (leads is_value word) words

-- The word is a path, or there is none: servers do not begin with a slash.
abbrev pub names_none : Option Text → Bool
names_none None = true
names_none (Some word) = starts_with nat_eq word (codes "/")

abbrev pub lacks_servers : (command : Text) → (words : List Text) → Bool
lacks_servers command words = list_any (bytes_eq command) node_commands && names_none (first_plain false words)

-- the words, with these servers after a command that asks or watches if none are named
abbrev pub served : (servers : Text) → List Text → List Text
served servers (program ∷ (command ∷ words)) =
    if lacks_servers command words then program ∷ (command ∷ (servers ∷ words)) else program ∷ (command ∷ words)
served servers words = words
