-- Steps of a server are entries after the schedule (`takes_served`, `processes_served`); where it rests, that stays (`rests_served`).
use Rattle.theory_serving.proofs.Entries.{takes_served, processes_served, rests_served}
use Rattle.theory_serving.proofs.servers_go_on.Goals as goal

pub returns-clause-takes : goal.returns-clause-takes
returns-clause-takes c start items steps old new s going up t = takes_served start items old s steps new going up t

pub returns-clause-processes : goal.returns-clause-processes
returns-clause-processes c start items view old new s from timed stands going up some does =
    processes_served start items old s view from timed stands going up new some does

pub returns-clause-rests : goal.returns-clause-rests
returns-clause-rests c start items old new s g rests = rests_served start items old s new g rests
