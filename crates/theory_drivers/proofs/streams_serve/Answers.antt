-- Over streams it is as by what the driver wrote and read, which is what they took and gave: `streams_serve`.
use Rattle.theory_drivers.proofs.Served.{streams_serve}
use Rattle.theory_drivers.proofs.streams_serve.Goals as goal

pub returns : goal.returns
returns g c = streams_serve
