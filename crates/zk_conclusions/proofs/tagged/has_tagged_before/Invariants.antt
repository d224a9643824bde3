-- The loop over the places: none of the names so far has the tag and is before `own`.
use Rattle.std.proofs.Common.{◌≡◌, ◌&&◌, false, take}
use Rattle.std.specs.List.{list_any}
use Rattle.zk_conclusions.specs.Numbers.{is_before}
use Rattle.zk_conclusions.specs.Tags.{has_tag}
use Rattle.zk_conclusions.proofs.tagged.has_tagged_before.Given as goal

abbrev pub invariant-loop-place : goal.invariant-loop-place
invariant-loop-place g l = list_any (λ name. has_tag l.tag name && is_before name l.own) (take l.place l.names) ≡ false
