-- While there is a connection nothing is taken: `untouched`, since the phase is not `Closed`.
use Rattle.std.proofs.Common.{ap, ◌∙◌}
use Rattle.zk_conversation.specs.Pending.{Talk}
use Rattle.zk_conversation.proofs.Requests.{IsUntouched, untouched}
use Rattle.zk_conversation.proofs.conversation.Conversation.take_pending.Goals as goal

pub returns-in_default : goal.returns-in_default
returns-in_default g c =
    let talk = c.args.self.now in
    let same : IsUntouched talk =
    untouched talk.phase talk.pending talk.xid (λ e. c.in_default.not-Closed (ap (λ (t : Talk). t.phase) c.self.view_is ∙ e)) in
    record { ticket = same.ticket; rest = same.rest }
