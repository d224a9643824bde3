-- A whole payload is the first frame's, by arithmetic on lengths (`taken_first`), and it is read as the message that it spells.
use Rattle.zk_laws.proofs.Framed.{taken_first, reads_accepted, reads_expired, reads_notice, reads_pong, reads_part, reads_reply}
use Rattle.theory_messages.proofs.taken_as_sent.Goals as goal

pub returns-clause-frame : goal.returns-clause-frame
returns-clause-frame c most held coming payload more taken short whole cut = taken_first most held coming payload more taken short whole cut

pub returns-clause-accepted : goal.returns-clause-accepted
returns-clause-accepted c pending last xid payload is = reads_accepted pending last xid payload is

pub returns-clause-expired : goal.returns-clause-expired
returns-clause-expired c pending last xid payload is = reads_expired pending last xid payload is

pub returns-clause-notice : goal.returns-clause-notice
returns-clause-notice c pending last xid notice payload is = reads_notice pending last xid notice payload is

pub returns-clause-pong : goal.returns-clause-pong
returns-clause-pong c pending last xid payload is = reads_pong pending last xid payload is

pub returns-clause-part : goal.returns-clause-part
returns-clause-part c pending last is_last zxid payload is = reads_part pending last is_last zxid payload is

pub returns-clause-reply : goal.returns-clause-reply
returns-clause-reply c pending last n ticket question zxid result payload code is behind =
    reads_reply pending last n ticket question zxid result payload code is behind
