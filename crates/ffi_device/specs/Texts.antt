-- Texts that follow one another, each after its length.
use Rattle.std.specs.Prelude.{◌≡◌, ℕ, IsSome, List, Some}
use Rattle.std.specs.List.{flat_map, AllByRecursion}
use Rattle.zk_jute.specs.Layout.{ustring}
use Rattle.zk_jute.specs.Spelling.{Fits, spelling}
use Rattle.zk_nodes.specs.Path.{Text}
use Rattle.zk_nodes.specs.PathFault.{IsPath, fault_of}
use Rattle.zk_turns.specs.Meaning.{Among}

-- Each of the texts is spelled as zookeeper.jute spells a ustring, and this is all of them.
pub record AreTexts (texts : List (List ℕ)) (spelled : List ℕ) : Type 0 where
  pub fits : AllByRecursion (λ text. Fits ustring (Some text)) texts
  pub is : spelled ≡ flat_map (λ text. spelling ustring (Some text)) texts

-- No texts are spelled so.
abbrev pub AreNoTexts : List ℕ → Type 0
AreNoTexts spelled = (texts : List (List ℕ)) → ¬ (AreTexts texts spelled)

-- The texts are spelled so, and each is a path.
pub record ArePaths (paths : List Text) (spelled : List ℕ) : Type 0 where
  pub texts : AreTexts paths spelled
  pub each : AllByRecursion IsPath paths

-- Paths are spelled so.
abbrev pub SpellsPaths : List ℕ → Type 0
SpellsPaths spelled = (paths : List Text) × ArePaths paths spelled

-- Texts are spelled so, of which this one is no path.
pub record SpellsNoPath (spelled : List ℕ) : Type 0 where
  pub texts : List (List ℕ)
  pub are : AreTexts texts spelled
  pub text : List ℕ
  pub among : Among text texts
  pub fault : IsSome (fault_of text)
