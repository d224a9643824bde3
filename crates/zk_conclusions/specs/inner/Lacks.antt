-- What contracts of private functions say: nobody has to believe it.
use Rattle.std.specs.Prelude.{◌≡◌, false, List, [], ◌⊎◌}
use Rattle.zk_turns.specs.View.{Cache}
use Rattle.zk_nodes.specs.Path.{Text}
use Rattle.zk_cache.specs.Kept.{is_marked_good}
use Rattle.zk_conclusions.specs.inner.Walks.{HasChildren}

-- the children that good names make, and none where the names are not good
abbrev pub FindsChildren : Cache → Text → List Text → Type 0
FindsChildren cache path children = HasChildren cache path children ⊎ ((is_marked_good (cache.children path) ≡ false) × (children ≡ []))
