-- The law is `in-order`: by induction over what is pending, with the case whether the first is a call.
use Rattle.zk_conversation.proofs.LawProofs.{in-order}
use Rattle.zk_conversation.proofs.laws.tickets_come_in_order.Goals as goal

pub returns : goal.returns
returns c = in-order
