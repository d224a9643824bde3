-- The client in the driver was served from the history, by what was written and read: `bytes_serve`, over the driver's steps.
use Rattle.theory_drivers.proofs.Served.{bytes_serve}
use Rattle.theory_drivers.proofs.bytes_serve.Goals as goal

pub returns : goal.returns
returns g c = bytes_serve
