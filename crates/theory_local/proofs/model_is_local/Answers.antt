-- Servers of the model keep to it at any paths, entry by entry (`local_serving`, `local_served`, `serving_fewer`); the laws of `zk_laws`
-- are the local ones at all paths (`coherent_everywhere`, `quiet_everywhere`, `true_everywhere`).
use Rattle.theory_local.specs.LocalSteps.{IsOf}
use Rattle.theory_local.proofs.Following.{local_serving, local_served, local_items, local_wire, serving_fewer, true_everywhere}
use Rattle.theory_local.proofs.Everywhere.{coherent_everywhere, quiet_everywhere}
use Rattle.theory_local.proofs.model_is_local.Goals as goal

pub returns-clause-serving : goal.returns-clause-serving
returns-clause-serving c paths h start entries may = local_serving h (IsOf paths) start entries may

pub returns-clause-served : goal.returns-clause-served
returns-clause-served c paths h start items served = local_served h (IsOf paths) start items served

pub returns-clause-items : goal.returns-clause-items
returns-clause-items c entries = local_items entries

pub returns-clause-wire : goal.returns-clause-wire
returns-clause-wire c h entries = local_wire h entries

pub returns-clause-fewer : goal.returns-clause-fewer
returns-clause-fewer c paths some h start entries fewer may = serving_fewer (IsOf paths) (IsOf some) fewer h start entries may

pub returns-clause-coherence : goal.returns-clause-coherence
returns-clause-coherence c h is start items view s served = coherent_everywhere h is start items view s served

pub returns-clause-quiet : goal.returns-clause-quiet
returns-clause-quiet c h is start entries view may s quiet = quiet_everywhere h is start entries view may s quiet

pub returns-clause-everywhere : goal.returns-clause-everywhere
returns-clause-everywhere c paths tree cache all true = true_everywhere (IsOf paths) tree cache all true
