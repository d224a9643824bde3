-- The loop over the trees: `count` is the fold over those before the index. At the end it is the fold over all.
use Rattle.std.proofs.Common.{◌≡◌, ◌+◌, ◌-◌, ◌^◌, fold, length, min, take}
use Rattle.zk_trees.proofs.trees.sides_in.Given as goal

-- those so far
abbrev pub invariant-loop-tree : goal.invariant-loop-tree
invariant-loop-tree g l =
    l.count ≡ fold (λ count tree. min (count + length tree.members.items) (2 ^ 64 - 1)) 0 (take l.tree-index l.trees)
