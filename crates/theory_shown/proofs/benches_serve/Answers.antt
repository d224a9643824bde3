-- What a bench does beside a driver is what servers of the model do, act by act and deed by deed (`benches_meet`), so the laws of drivers
-- over such servers tell the rest; and a ready bench can receive (`benches_receive`) and wait (`benches_wait`).
use Rattle.theory_drivers.specs.Worlds.{ByDriver, ByStream}
use Rattle.theory_shown.proofs.Benched.{benches_cohere, benches_cohere_bytes, benches_meet, benches_receive, benches_serve}
use Rattle.theory_shown.proofs.Benched.{benches_serve_bytes}
use Rattle.theory_shown.proofs.Waiting.{benches_wait}
use Rattle.theory_shown.proofs.benches_serve.Goals as goal

pub returns-clause-meets : goal.returns-clause-meets
returns-clause-meets g c = benches_meet ByStream

pub returns-clause-meets_bytes : goal.returns-clause-meets_bytes
returns-clause-meets_bytes g c = benches_meet ByDriver

pub returns-clause-served : goal.returns-clause-served
returns-clause-served g c = benches_serve g.row.A.Denot g.S.Stream.far

pub returns-clause-served_bytes : goal.returns-clause-served_bytes
returns-clause-served_bytes g c = benches_serve_bytes g.row.A.Denot g.S.Stream.far

pub returns-clause-coheres : goal.returns-clause-coheres
returns-clause-coheres g c = benches_cohere g.row.A.Denot g.S.Stream.far

pub returns-clause-coheres_bytes : goal.returns-clause-coheres_bytes
returns-clause-coheres_bytes g c = benches_cohere_bytes g.row.A.Denot g.S.Stream.far

pub returns-clause-receives : goal.returns-clause-receives
returns-clause-receives g c = benches_receive g.row.A.Denot g.S.Stream.far

pub returns-clause-waits : goal.returns-clause-waits
returns-clause-waits g c = benches_wait g.row.A.Denot g.S.Stream.far
