-- A payload begins with the spelling of its record, so it is read again: `call_read`, `part_read`, `connect_read` and `ping_read`.
use Rattle.zk_turns.proofs.Spelt.{call_read, connect_read, part_read, ping_read}
use Rattle.zk_turns.proofs.requests_read.Goals as goal

pub returns-clause-call : goal.returns-clause-call
returns-clause-call c xid call end rest fits = call_read xid call end rest fits

pub returns-clause-part : goal.returns-clause-part
returns-clause-part c relative known missing parents end rest fits = part_read relative known missing parents end rest fits

pub returns-clause-connect : goal.returns-clause-connect
returns-clause-connect c last timeout session password end rest fits = connect_read last timeout session password end rest fits

pub returns-clause-ping : goal.returns-clause-ping
returns-clause-ping c end rest fits = ping_read end rest fits
