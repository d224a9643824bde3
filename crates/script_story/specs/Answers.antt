-- The lines that answer look-ups of a history.
use Rattle.std.specs.Prelude.{◌≡◌, ℕ, ℤ, List, [], ◌∷◌, ◌++◌, length, codes}
use Rattle.std.specs.Fmt.{decimal, signed_decimal}
use Rattle.zk_nodes.specs.Path.{Text}
use Rattle.zk_nodes.specs.History.{View, Absence, Contents, Children}
use Rattle.script_words.specs.Values.{AreNames, names_text, spaced, stat_words}
use Rattle.script_words.specs.Words.{bytes_word}

-- what is printed of the data that there are to see
unfoldable pub data_text : View → List ℕ
data_text Absence = codes "data absent\n"
data_text (Contents content stat) = codes "data " ++ (bytes_word content ++ (stat_words stat ++ 10 ∷ []))
data_text (Children names pzxid) = []

-- how many names there are, each of them, and the pzxid
abbrev pub names_line : List Text → ℤ → List ℕ
names_line names pzxid =
    codes "names" ++ (spaced (decimal (length names)) ++ (names_text names ++ (spaced (signed_decimal pzxid) ++ 10 ∷ [])))

-- What is printed of the names that there are to see.
abbrev pub TellsNames : View → List ℕ → Type 0
TellsNames Absence text = text ≡ codes "names absent\n"
TellsNames (Contents content stat) text = ⊥
TellsNames (Children is_name pzxid) text = (names : List Text) × AreNames names is_name × (text ≡ names_line names pzxid)
