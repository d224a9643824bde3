-- The payload of a ping is small (`ping-small`), and its frame is what `request_frame` ensures, with `ping_payload` unfolded.
use Rattle.zk_conversation.specs.Calls.{ping_payload}
use Rattle.zk_conversation.proofs.Requests.{ping-small}
use Rattle.zk_conversation.proofs.conversation.Conversation.ping.Goals as goal

pub request_frame-requires : goal.request_frame-requires
unfolding ping_payload
request_frame-requires g c = ping-small

pub returns : goal.returns
unfolding ping_payload
returns g c = c.request_frame.ensures
