-- An empty map has no path: `none_in`.
use Rattle.std.proofs.Common.{false}
use Rattle.zk_follow.specs.declared.reported.Reported.{Reported}
use Rattle.zk_follow.proofs.Paths.{none_in}
use Rattle.zk_follow.proofs.reported.Reported.new.Goals as goal

pub returns : goal.returns
returns g c =
    let made : Reported g.row.A.Denot = record { is_few = false; paths = c.new.result } in
    none_in made c.new.ensures.empty
