-- The loop over the names: those so far are the texts.
use Rattle.std.proofs.Common.{◌≡◌, map, take}
use Rattle.zk_cache.specs.Spelled.{texts_from, AreSpelledFrom}
use Rattle.zk_cache.specs.inner.Contents.{name_in}
use Rattle.zk_cache.proofs.joined_texts.JoinedTexts.of_names.Given as goal

abbrev pub invariant-loop-name : goal.invariant-loop-name
invariant-loop-name g l =
    AreSpelledFrom l.spelled.items 0 l.ends.items
    × (texts_from l.spelled.items 0 l.ends.items ≡ map name_in (take l.name-index l.names))
