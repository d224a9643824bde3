-- What `payload_length` gives is the payload's length under any xid, and was tested; that few calls are pending is found by `rules`.
use Rattle.std.proofs.Common.{◌≤◌, pos, subst, sym, rules}
use Rattle.zk_limits.specs.declared.limits.TheConstants.{LONGEST_OUTGOING}
use Rattle.zk_conversation.proofs.conversation.Conversation.ask.Goals as goal

pub returns-clause-fits : goal.returns-clause-fits
returns-clause-fits g c =
    let length = c.payload_length.ensures (pos c.args.self.now.xid) in
    (subst (λ n. n ≤ LONGEST_OUTGOING) (sym length) c.if-payload_length-gt-LONGEST_OUTGOING.false, search rules)
