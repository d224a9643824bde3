-- What the words of a script mean.
use Rattle.std.specs.Prelude.{◌≡◌, ◌≢◌, ℕ, ℤ, pos, ◌&&◌, ◌==◌, Bool, nat_le, if◌then◌else◌, List, [], ◌∷◌, codes, Option, Some, None}
use Rattle.std.specs.Prelude.{Result, Ok, Err, bytes_eq}
use Rattle.std.specs.List.{list_all}
use Rattle.std.specs.Str.{is_utf8}
use Rattle.hex.specs.Hex.{decode_of}
use Rattle.hex.specs.declared.error.FromHexError.{FromHexError}
use Rattle.zk_nodes.specs.Path.{Text}
use Rattle.zk_nodes.specs.PathFault.{fault_of}
use Rattle.zk_nodes.specs.declared.path_fault.PathFault.{PathFault}
use Rattle.zk_nodes.specs.declared.side.Side.{Side}
use Rattle.zk_nodes.specs.declared.side.Side.TheVariants.{Data, Child}
use Rattle.script_words.specs.declared.script_fault.ScriptFault.{ScriptFault}
use Rattle.script_words.specs.declared.script_fault.ScriptFault.TheVariants.{Words, Number, Hex, Path, Memory}
use Rattle.script_words.specs.declared.texts.Place.TheVariants.{Plain}
use Rattle.script_words.specs.Numbers.{natural_of}
use Rattle.script_words.specs.Texts.{unescape}

infixl 10 ◌>>=◌
abbrev pub ◌>>=◌ : {A B : Type 0} → Result A ScriptFault → (A → Result B ScriptFault) → Result B ScriptFault
(Ok x) >>= f = f x
(Err e) >>= f = Err e

-- what a word names in a table
abbrev pub named : {X : Type 0} → List (Text × X) → Text → Option X
named [] word = None
named (row ∷ rows) word = if bytes_eq word row.0 then Some row.1 else named rows word

-- the one word that there is
abbrev pub only : List Text → Result Text ScriptFault
only (word ∷ []) = Ok word
only words = Err Words

-- what a keyword means with no words after it
abbrev pub alone : {X : Type 0} → X → List Text → Result X ScriptFault
alone value [] = Ok value
alone value words = Err Words

-- a number from 0 up to the greatest of 64 bits with a sign
abbrev pub number_read : Option ℕ → Result ℤ ScriptFault
number_read (Some n) = Ok (pos n)
number_read None = Err Number

abbrev pub time_at : List ℕ → Result ℤ ScriptFault
time_at word = number_read (natural_of 9223372036854775807 word)

-- the same, and not 0
abbrev pub zxid_read : Option ℕ → Result ℤ ScriptFault
zxid_read (Some n) = if n == 0 then Err Number else Ok (pos n)
zxid_read None = Err Number

abbrev pub zxid_at : List ℕ → Result ℤ ScriptFault
zxid_at word = zxid_read (natural_of 9223372036854775807 word)

abbrev pub hex_read : Result (List ℕ) FromHexError → Result (Option (List ℕ)) ScriptFault
hex_read (Ok bytes) = Ok (Some bytes)
hex_read (Err e) = Err Hex

-- null, no bytes, or hex
abbrev pub data_at : List ℕ → Result (Option (List ℕ)) ScriptFault
data_at word = if bytes_eq word (codes "\\0") then Ok None
    else (if bytes_eq word (codes "\\e") then Ok (Some []) else hex_read (decode_of word))

abbrev pub text_read : Option (List ℕ) → Result (List ℕ) ScriptFault
text_read (Some text) = if is_utf8 text then Ok text else Err Words
text_read None = Err Words

-- the empty text, or what the bytes and the escapes mean
abbrev pub text_at : List ℕ → Result (List ℕ) ScriptFault
text_at word = if bytes_eq word (codes "\\e") then Ok [] else text_read (unescape Plain word)

abbrev pub path_read : Option PathFault → List ℕ → Result (List ℕ) ScriptFault
path_read None text = Ok text
path_read (Some fault) text = Err (Path fault)

-- a text that is a path
abbrev pub path_at : List ℕ → Result (List ℕ) ScriptFault
path_at text = path_read (fault_of text) text

-- the side that a word names
abbrev pub side_read : List ℕ → Result Side ScriptFault
side_read word = if bytes_eq word (codes "data") then Ok Data else (if bytes_eq word (codes "names") then Ok Child else Err Words)

-- printable, and no space
abbrev pub is_printable : ℕ → Bool
is_printable b = nat_le 33 b && nat_le b 126

abbrev pub is_printed : List ℕ → Bool
is_printed word = list_all is_printable word

-- What a call returned, seen by view, is what the words mean, unless memory ran out.
abbrev pub Reads : {X Y : Type 0} → (X → Y) → Result X ScriptFault → Result Y ScriptFault → Type 0
Reads view (Ok x) read = read ≡ Ok (view x)
Reads view (Err e) read = e ≢ Memory → read ≡ Err e
