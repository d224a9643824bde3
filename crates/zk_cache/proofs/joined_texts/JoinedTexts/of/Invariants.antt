-- The loop over the texts: those so far are the texts.
use Rattle.std.proofs.Common.{◌≡◌, map, take}
use Rattle.zk_cache.specs.Spelled.{texts_from, AreSpelledFrom}
use Rattle.zk_cache.proofs.joined_texts.JoinedTexts.of.Given as goal

abbrev pub invariant-loop-segment : goal.invariant-loop-segment
invariant-loop-segment g l =
    AreSpelledFrom l.spelled.items 0 l.ends.items
    × (texts_from l.spelled.items 0 l.ends.items ≡ map (λ text. text.now) (take l.segment-index l.texts))
