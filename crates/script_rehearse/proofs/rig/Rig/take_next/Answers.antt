-- The line takes what the bench takes, part by part as `take` ensures, and prints nothing.
use Rattle.std.proofs.Common.{refl}
use Rattle.script_rehearse.proofs.rig.Rig.take_next.Goals as goal

pub returns-clause-ok : goal.returns-clause-ok
returns-clause-ok g c =
    let takes = c.in_ok-take.ensures in (
      (record {
        taken = takes.taken;
        elsewhere = takes.elsewhere;
        apart = takes.apart;
        ready = takes.ready;
        advances = takes.advances;
        rest = takes.rest;
      }),
      refl,
      c.new.ensures.bytes,
    )
