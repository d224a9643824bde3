-- The words of a reply with another xid are those that `write` writes: its clause, rewritten by the case of the fault.
use Rattle.zk_conversation.proofs.fault.TalkFaultDisplay.fmt.Goals as goal

pub returns-in-OtherXid-clause-writes : goal.returns-in-OtherXid-clause-writes
returns-in-OtherXid-clause-writes g c = λ plain ok. rw c.in-OtherXid.is (c.write-in-OtherXid.ensures.writes plain ok)
