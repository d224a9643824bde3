-- By the input: the schedule gets one entry more, and the relation to what is shown of the servers is kept (lemmas of `Entries`).
use Rattle.theory_serving.proofs.Entries.{opened_served, bytes_served, cut_served, moment_served, call_served, forget_served, halt_served}
use Rattle.theory_serving.proofs.client_goes_on.Goals as goal

pub returns-clause-opened : goal.returns-clause-opened
returns-clause-opened c start items view place outputs old new s stands low hears =
    opened_served start items old s view place outputs new stands low hears

pub returns-clause-received : goal.returns-clause-received
returns-clause-received c start items view bytes rest outputs old new s stands e hears =
    bytes_served start items old s view bytes rest outputs new stands e hears

pub returns-clause-cut : goal.returns-clause-cut
returns-clause-cut c start items outputs old new s same = cut_served start items old s outputs new same

pub returns-clause-told : goal.returns-clause-told
returns-clause-told c start items view moment outputs old new s stands hears =
    moment_served start items old s view moment outputs new stands hears

pub returns-clause-asked : goal.returns-clause-asked
returns-clause-asked c start items view ticket call outputs old new s stands hears =
    call_served start items old s view ticket call outputs new stands hears

pub returns-clause-forgets : goal.returns-clause-forgets
returns-clause-forgets c start items shown s = forget_served start items shown s

pub returns-clause-halts : goal.returns-clause-halts
returns-clause-halts c start items old new s same = halt_served start items old s new same
