-- Runs beside a bench are runs beside servers of the model, so what a watch prints agrees with its history (`watch_agrees`).
use Rattle.theory_drivers.specs.Worlds.{ByDriver, ByStream}
use Rattle.theory_shown.proofs.Agreeing.{watch_agrees, watch_end_agrees}
use Rattle.theory_shown.proofs.Watched.{ended_cohere, ends_cohere, prints_cohere, streams_cohere}
use Rattle.theory_shown.proofs.watches_agree.Goals as goal

pub returns-clause-printed : goal.returns-clause-printed
returns-clause-printed g c =
    watch_agrees g.row.A.Denot g.S.Stream.far ByDriver c.args.bench.now (prints_cohere g.row.A.Denot g.S.Stream.far) c.known_of.ensures

pub returns-clause-over : goal.returns-clause-over
returns-clause-over g c =
    watch_end_agrees g.row.A.Denot g.S.Stream.far ByDriver c.args.bench.now (ends_cohere g.row.A.Denot g.S.Stream.far) c.known_of.ensures

pub returns-clause-printed_known : goal.returns-clause-printed_known
returns-clause-printed_known g c =
    watch_agrees g.row.A.Denot g.S.Stream.far ByStream c.args.bench.now (streams_cohere g.row.A.Denot g.S.Stream.far) c.known_of.ensures

pub returns-clause-over_known : goal.returns-clause-over_known
returns-clause-over_known g c =
    watch_end_agrees g.row.A.Denot g.S.Stream.far ByStream c.args.bench.now (ended_cohere g.row.A.Denot g.S.Stream.far) c.known_of.ensures
