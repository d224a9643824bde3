-- What is printed of a record: a line for each field, in wire order.
use Rattle.std.specs.Prelude.{ℕ, pos, ◌+◌, List, [], ◌∷◌, ◌++◌, length, codes, Option, Some, None}
use Rattle.std.specs.List.{flat_map}
use Rattle.std.specs.Fmt.{decimal, signed_decimal}
use Rattle.hex.specs.Hex.{encode_lower}
use Rattle.zk_jute.specs.Layout.{Layout, int, long, boolean, buffer, ustring, vector, ◌⨾◌, Value}
use Rattle.zk_jute.specs.Spelling.{int_bytes}
use Rattle.script_words.specs.Words.{text_word, bytes_word, boolean_word}
use Rattle.script_words.specs.Lines.{line}

infixr 5 ◌&◌
-- the names of a record's fields: of one field, of a list of records with those of each record, of one field after another
pub data Names : Type 0 where
  none : Names
  one : List ℕ → Names
  each : List ℕ → Names → Names
  ◌&◌ : Names → Names → Names

-- how many there are, or null
abbrev pub count_line : {X : Type 0} → List ℕ → Option (List X) → List ℕ
count_line name None = line name (codes "\\0")
count_line name (Some values) = line name (decimal (length values))

-- a line for each text, with its number after a dot
abbrev pub numbered_lines : List ℕ → ℕ → List (Option (List ℕ)) → List ℕ
numbered_lines name k [] = []
numbered_lines name k (text ∷ texts) = line (name ++ 46 ∷ decimal k) (text_word text) ++ numbered_lines name (k + 1) texts

abbrev pub text_lines : List ℕ → Option (List (Option (List ℕ))) → List ℕ
text_lines name None = []
text_lines name (Some texts) = numbered_lines name 0 texts

abbrev pub record_lines : {X : Type 0} → (X → List ℕ) → Option (List X) → List ℕ
record_lines lines None = []
record_lines lines (Some values) = flat_map lines values

-- the lines of a value, whose fields have these names
abbrev pub lines_of : (layout : Layout) → Names → Value layout → List ℕ
lines_of int (one name) z = line name (signed_decimal z)
lines_of long (one name) z = line name (signed_decimal z)
lines_of boolean (one name) flag = line name (boolean_word flag)
lines_of buffer (one name) bytes = line name (bytes_word bytes)
lines_of ustring (one name) text = line name (text_word text)
lines_of (vector ustring) (one name) texts = count_line name texts ++ text_lines name texts
lines_of (vector element) (each name names) values = count_line name values ++ record_lines (lines_of element names) values
lines_of (first ⨾ second) (before & behind) value = lines_of first before value.0 ++ lines_of second behind value.1
lines_of layout names value = []

-- the frame of a payload
abbrev pub frame_of : List ℕ → List ℕ
frame_of payload = int_bytes (pos (length payload)) ++ payload

-- the lines of a record, how many bytes stood after it, and the frame of the record alone
abbrev pub print_of : List ℕ → List ℕ → List ℕ → List ℕ
print_of lines spelled ignored =
    lines ++ (line (codes "ignored") (decimal (length ignored)) ++ line (codes "frame") (encode_lower (frame_of spelled)))
