-- The good answers of a client, each compared with the history at its last seen zxid.
use Rattle.std.specs.Prelude.{◌≡◌, ◌↔◌, IsTrue, ℕ, Bool, true, false, ◌&&◌, List, [], ◌∷◌, ◌++◌, codes, Option, Some, None, bytes_eq}
use Rattle.std.specs.FinSet as set
use Rattle.zk_nodes.specs.Path.{Text, path_of}
use Rattle.zk_nodes.specs.History.{View as Sight, Absence, Contents, Children, tree_at, view}
use Rattle.zk_history.specs.HistoryView.{HistoryView as History, history_of, natural}
use Rattle.zk_nodes.specs.Names.{Names as NameSet}
use Rattle.zk_nodes.specs.declared.side.Side.{Side}
use Rattle.zk_nodes.specs.declared.side.Side.TheVariants.{Data, Child}
use Rattle.zk_cache.specs.Kept.{Answer, Absent, Known, Full, Names, same_fields}
use Rattle.zk_cache.specs.declared.held.Kept.{Kept}
use Rattle.zk_cache.specs.declared.held.Mark.{Mark}
use Rattle.zk_cache.specs.declared.held.Mark.TheVariants.{Good, Stale}
use Rattle.zk_turns.specs.View.{View}
use Rattle.script_words.specs.Lines.{TellsInOrder}
use Rattle.script_words.specs.Values.{name_text}

-- both null, or the same bytes
abbrev pub same_content : Option (List ℕ) → Option (List ℕ) → Bool
same_content None None = true
same_content (Some kept) (Some told) = bytes_eq kept told
same_content kept told = false

-- whether an answer is what there is to see: the same fields, and the same data where they were read
abbrev pub agrees : Answer → Sight → Bool
agrees Absent Absence = true
agrees (Known stat) (Contents content told) = same_fields stat told
agrees (Full bytes stat) (Contents content told) = same_content bytes content && same_fields stat told
agrees answer sight = false

-- the names that there are to see, each of them and no other
abbrev pub HasNames : NameSet → (Text → Bool) → Type 0
HasNames names is_name = (name : Text) → set.contains names name ≡ is_name name

-- the same names and the same pzxid as there are to see
abbrev pub AreSame : Names → Sight → Type 0
AreSame kept Absence = ⊥
AreSame kept (Contents content told) = ⊥
AreSame kept (Children is_name pzxid) = HasNames kept.names is_name × (kept.pzxid ≡ pzxid)

-- Names are said to agree exactly if they are those that there are to see.
abbrev pub AgreesNames : Names → Sight → Bool → Type 0
AgreesNames kept sight agrees = IsTrue agrees ↔ AreSame kept sight

abbrev pub verdict : Bool → List ℕ
verdict true = codes " agrees\n"
verdict false = codes " differs\n"

-- the line of a good answer
abbrev pub verdict_line : Side → Text → Bool → List ℕ
verdict_line Data path agrees = codes "good data" ++ (name_text path ++ verdict agrees)
verdict_line Child path agrees = codes "good child" ++ (name_text path ++ verdict agrees)

-- what there is to see of a path at the last seen zxid
abbrev pub sight : Side → View → History → Text → Sight
sight side client history path = view side (tree_at (history_of history) (natural client.saved.last)) (path_of path)

-- a text if the answer is good, and nothing if it is stale
abbrev pub if_good : Mark → List ℕ → List ℕ
if_good Good text = text
if_good Stale text = []

abbrev pub kept_verdict : Option (Kept Answer) → Text → Sight → List ℕ
kept_verdict None path told = []
kept_verdict (Some kept) path told = if_good kept.mark (verdict_line Data path (agrees kept.answer told))

-- what is printed of the data of a path: nothing, unless there is a good answer
abbrev pub data_verdict : View → History → Text → List ℕ
data_verdict client history path = kept_verdict (client.cache.nodes path) path (sight Data client history path)

abbrev pub TellsNamesLine : Mark → Names → Text → Sight → List ℕ → Type 0
TellsNamesLine Good answer path told text = (agrees : Bool) × AgreesNames answer told agrees × (text ≡ verdict_line Child path agrees)
TellsNamesLine Stale answer path told text = text ≡ []

abbrev pub TellsKeptNames : Option (Kept Names) → Text → Sight → List ℕ → Type 0
TellsKeptNames None path told text = text ≡ []
TellsKeptNames (Some kept) path told text = TellsNamesLine kept.mark kept.answer path told text

-- What is printed of the names below a path: nothing, unless there is a good answer.
abbrev pub TellsNamesVerdict : View → History → Text → List ℕ → Type 0
TellsNamesVerdict client history path text = TellsKeptNames (client.cache.children path) path (sight Child client history path) text

-- What is printed of a path: data before names.
abbrev pub TellsPath : View → History → Text → List ℕ → Type 0
TellsPath client history path text =
    (names : List ℕ) × TellsNamesVerdict client history path names × (text ≡ data_verdict client history path ++ names)

abbrev pub TellsPaths : View → History → List Text → List ℕ → Type 0
TellsPaths client history paths text = TellsInOrder (TellsPath client history) paths text

-- What is printed of an answer that agrees with what there is to see: nothing, unless it is good.
abbrev pub agreeing : {A : Type 0} → Side → Option (Kept A) → Text → List ℕ
agreeing side None path = []
agreeing side (Some kept) path = if_good kept.mark (verdict_line side path true)

-- the same of a path on both sides: data before names
abbrev pub agreeing_path : View → Text → List ℕ
agreeing_path client path = agreeing Data (client.cache.nodes path) path ++ agreeing Child (client.cache.children path) path

-- the same of paths, one after the other
abbrev pub agreeing_paths : View → List Text → List ℕ
agreeing_paths client [] = []
agreeing_paths client (path ∷ paths) = agreeing_path client path ++ agreeing_paths client paths
