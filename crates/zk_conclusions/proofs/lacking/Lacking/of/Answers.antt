-- What is lacking is what the filters leave of the shown paths (`lacking_of`): nothing exactly where there is a walk (`empty_is_walk`).
use Rattle.std.proofs.Common.{ap, ◌∙◌}
use Rattle.std.specs.List.{filter}
use Rattle.zk_client.specs.Clients.{view_of}
use Rattle.zk_conclusions.specs.Lacks.{lacks_data, lacks_names}
use Rattle.zk_conclusions.proofs.Sought.{lacking_of, empty_is_walk}
use Rattle.zk_conclusions.proofs.lacking.Lacking.of.Goals as goal

pub returns-clause-data : goal.returns-clause-data
returns-clause-data g c =
    let cache = (view_of c.args.client.now).cache in
    lacking_of cache c.args.root.now (lacks_data cache) c.in_ok-paths.paths.items c.in_ok-data.data.items c.in_ok-paths.ensures.shown
    (c.in_ok-data.ensures.some ∙ ap (filter (lacks_data cache)) c.as_slice.ensures.value)

pub returns-clause-names : goal.returns-clause-names
returns-clause-names g c =
    let cache = (view_of c.args.client.now).cache in
    lacking_of cache c.args.root.now (lacks_names cache) c.in_ok-paths.paths.items c.in_ok-names.names.items c.in_ok-paths.ensures.shown
    (c.in_ok-names.ensures.some ∙ ap (filter (lacks_names cache)) c.as_slice-2.ensures.value)

pub returns-clause-empty : goal.returns-clause-empty
returns-clause-empty g c =
    empty_is_walk (view_of c.args.client.now).cache c.args.root.now c.in_ok-paths.paths.items c.in_ok-data.data.items
    c.in_ok-names.names.items c.args.most c.in_ok-paths.ensures.shown c.in_ok-paths.ensures.most
    (returns-clause-data g c) (returns-clause-names g c)

pub returns-clause-fits : goal.returns-clause-fits
returns-clause-fits g c =
    record { paths = c.in_ok-paths.paths.items; shown = c.in_ok-paths.ensures.shown; fits = c.in_ok-paths.ensures.most }
