-- The loop over the names: the count is that of those so far, where that can be counted.
use Rattle.std.proofs.Common.{◌≡◌, ◌+◌, ◌<◌, ◌^◌, length, take}
use Rattle.std.specs.List.{sum_by}
use Rattle.zk_cache.specs.inner.Contents.{name_in}
use Rattle.zk_cache.proofs.joined_texts.names_len.Given as goal

abbrev pub invariant-loop-name : goal.invariant-loop-name
invariant-loop-name l =
    sum_by (λ name. 4 + length (name_in name)) (take l.name-index l.names) < 2 ^ 64
    → l.count ≡ sum_by (λ name. 4 + length (name_in name)) (take l.name-index l.names)
