-- The entries that are read, with the dbid, which fits.
use Rattle.std.proofs.Common.{ap}
use Rattle.std.specs.Int.{w64}
use Rattle.std.proofs.lemmas.Int.{to_z-of_z}
use Rattle.zk_log.specs.Reading.{with_entries}
use Rattle.zk_log.proofs.log.read_log.Goals as goal

pub returns : goal.returns
returns g c = rw (to_z-of_z w64 c.args.dbid c.ranges.dbid) (ap (with_entries c.args.dbid) c.in-Ok.ensures)
