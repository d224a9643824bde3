-- Each good answer of the client in the driver is the history's at its last seen zxid: `streams_cohere`.
use Rattle.theory_drivers.proofs.Served.{streams_cohere}
use Rattle.theory_drivers.proofs.streams_cohere.Goals as goal

pub returns : goal.returns
returns g c = streams_cohere
