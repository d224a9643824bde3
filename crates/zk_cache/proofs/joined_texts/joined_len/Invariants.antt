-- The loop over the texts: the count is that of those so far, where that can be counted.
use Rattle.std.proofs.Common.{◌≡◌, ◌+◌, ◌<◌, ◌^◌, length, take}
use Rattle.std.specs.List.{sum_by}
use Rattle.zk_cache.proofs.joined_texts.joined_len.Given as goal

abbrev pub invariant-loop-text : goal.invariant-loop-text
invariant-loop-text l =
    sum_by (λ text. 4 + length text.now) (take l.text-index l.texts) < 2 ^ 64
    → l.count ≡ sum_by (λ text. 4 + length text.now) (take l.text-index l.texts)
