-- The law is `to-the-oldest`: by the cases of the reading, of which only that of the oldest request gives a reply.
use Rattle.zk_conversation.proofs.LawProofs.{to-the-oldest}
use Rattle.zk_conversation.proofs.laws.replies_go_to_the_oldest.Goals as goal

pub returns : goal.returns
returns c = to-the-oldest
