-- Values as words, a space before each.
use Rattle.std.specs.Prelude.{◌≡◌, ℕ, ℤ, Bool, List, ◌∷◌, ◌++◌, bytes_eq, Some}
use Rattle.std.specs.Cmp.Lexicographic.{slice_cmp}
use Rattle.std.specs.Fmt.{signed_decimal}
use Rattle.std.specs.List.{flat_map, list_any}
use Rattle.std.specs.List.Sorted.{IsStrictlySortedBy}
use Rattle.std.specs.Ordering.{nat_cmp}
use Rattle.zk_nodes.specs.Path.{Text}
use Rattle.zk_nodes.specs.declared.data_stat.DataStat.{DataStat}
use Rattle.script_words.specs.Words.{text_word}

-- a word with a space before it
unfoldable pub spaced : List ℕ → List ℕ
spaced word = 32 ∷ word

-- numbers, a space before each
abbrev pub numbers_text : List ℤ → List ℕ
numbers_text numbers = flat_map (λ n. spaced (signed_decimal n)) numbers

-- the five with which a Stat begins: czxid, mzxid, ctime, mtime and version
unfoldable pub front_words : DataStat → List ℕ
front_words s =
    spaced (signed_decimal s.czxid)
    ++ (spaced (signed_decimal s.mzxid) ++ (spaced (signed_decimal s.ctime) ++ (spaced (signed_decimal s.mtime)
    ++ spaced (signed_decimal s.version))))

-- these, owner and length
abbrev pub stat_words : DataStat → List ℕ
stat_words s = front_words s ++ (spaced (signed_decimal s.ephemeral_owner) ++ spaced (signed_decimal s.data_length))

-- a name's word with a space before it
abbrev pub name_text : Text → List ℕ
name_text name = spaced (text_word (Some name))

abbrev pub names_text : List Text → List ℕ
names_text names = flat_map name_text names

-- These are the names, each once, in the order of their bytes.
pub record AreNames (names : List Text) (is_name : Text → Bool) : Type 0 where
  pub ascending : IsStrictlySortedBy (slice_cmp nat_cmp) names
  pub same : (name : Text) → list_any (bytes_eq name) names ≡ is_name name
