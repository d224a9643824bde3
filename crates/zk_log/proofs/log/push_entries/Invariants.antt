-- The entries so far, before what reading the other records gives, are what reading all gives.
use Rattle.std.proofs.Common.{◌≡◌, ◌-◌, map, pos}
use Rattle.zk_log.specs.Reading.{entries_at}
use Rattle.zk_log.specs.Views.{placed_of}
use Rattle.zk_log.proofs.Entries.{put_all}
use Rattle.zk_log.proofs.log.push_entries.Given as goal

abbrev pub invariant-loop : goal.invariant-loop
invariant-loop g l = put_all (map placed_of l.entries.items) (entries_at (l.most - l.counter) l.end l.low l.rest)
    ≡ entries_at l.most l.end (pos 0) l.bytes
