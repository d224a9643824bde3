-- Good answers that a watch prints of are the history's: by induction over its moves (`prints_cohere`), and so by what streams know.
use Rattle.theory_shown.proofs.Watched.{ended_cohere, ends_cohere, prints_cohere, streams_cohere}
use Rattle.theory_shown.proofs.watches_cohere.Goals as goal

pub returns-clause-printed : goal.returns-clause-printed
returns-clause-printed g c = streams_cohere g.row.A.Denot g.S.Stream.far

pub returns-clause-over : goal.returns-clause-over
returns-clause-over g c = ended_cohere g.row.A.Denot g.S.Stream.far

pub returns-clause-printed_bytes : goal.returns-clause-printed_bytes
returns-clause-printed_bytes g c = prints_cohere g.row.A.Denot g.S.Stream.far

pub returns-clause-over_bytes : goal.returns-clause-over_bytes
returns-clause-over_bytes g c = ends_cohere g.row.A.Denot g.S.Stream.far
