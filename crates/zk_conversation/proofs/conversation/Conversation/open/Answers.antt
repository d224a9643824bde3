-- A short password makes a small payload (`connect-small`), so the frame is the one that `framed` ensures, with `connect_payload` unfolded.
use Rattle.zk_conversation.specs.Calls.{connect_payload}
use Rattle.zk_conversation.proofs.Requests.{connect-small}
use Rattle.zk_conversation.proofs.conversation.Conversation.open.Goals as goal

pub framed-requires : goal.framed-requires
unfolding connect_payload
framed-requires g c =
    let connect = c.args.connect.now in
    connect-small connect.last_zxid_seen connect.time_out connect.session_id connect.password.now c.requires.short

pub returns-clause-frame : goal.returns-clause-frame
unfolding connect_payload
returns-clause-frame g c = c.in_ok-frame.ensures
