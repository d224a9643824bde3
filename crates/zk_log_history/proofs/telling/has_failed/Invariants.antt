-- No part before this one has failed.
use Rattle.std.proofs.Common.{◌≡◌, drop, map}
use Rattle.std.specs.List.{list_any}
use Rattle.zk_log.specs.Views.{part_of}
use Rattle.zk_log.specs.Following.{is_failed}
use Rattle.zk_log_history.proofs.telling.has_failed.Given as goal

abbrev pub invariant-loop-part : goal.invariant-loop-part
invariant-loop-part g l = list_any is_failed (map part_of (drop l.part-index l.parts)) ≡ list_any is_failed (map part_of l.parts)
