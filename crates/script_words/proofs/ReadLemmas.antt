-- What words stand for, seen by a view.
use Rattle.std.proofs.Common.{List, [], ◌∷◌, refl}
use Rattle.zk_nodes.specs.Path.{Text}
use Rattle.script_words.specs.Reads.{Reads, alone}

-- a keyword alone stands for the same, seen before or after
pub alone_reads : {X Y : Type 0} (view : X → Y) (value : X) (words : List Text) → Reads view (alone value words) (alone (view value) words)
alone_reads view value [] = refl
alone_reads view value (word ∷ words) = λ _. refl
