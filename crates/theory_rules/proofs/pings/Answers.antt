-- What a moment makes a client say: by its state and the two tests of the clock, with arithmetic on thirds of the timeout (`Ticked`).
use Rattle.theory_rules.proofs.pings.Goals as goal
use Rattle.theory_rules.proofs.Ticked.{ping_sent, given_up, nothing_sent, nothing_connecting, nothing_elsewhere}

pub returns-clause-ping : goal.returns-clause-ping
returns-clause-ping c = ping_sent

pub returns-clause-silence : goal.returns-clause-silence
returns-clause-silence c = given_up

pub returns-clause-nothing : goal.returns-clause-nothing
returns-clause-nothing c = nothing_sent

pub returns-clause-connecting : goal.returns-clause-connecting
returns-clause-connecting c = nothing_connecting

pub returns-clause-elsewhere : goal.returns-clause-elsewhere
returns-clause-elsewhere c = nothing_elsewhere
