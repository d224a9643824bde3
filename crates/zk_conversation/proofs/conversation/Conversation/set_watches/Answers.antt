-- The part's payload is that of its lent texts (`part-lent`): so it is small (`small`), and framed as `request_frame` ensures.
use Rattle.zk_conversation.proofs.Requests.{small, part-lent}
use Rattle.zk_conversation.proofs.conversation.Conversation.set_watches.Goals as goal

pub request_frame-requires : goal.request_frame-requires
request_frame-requires g c =
    let part = c.args.part.now in
    small _ (rw
    (part-lent (λ s. s.now) part.relative_zxid part.data_watches.now part.exist_watches.now part.child_watches.now) at c.requires.small)

pub returns-clause-frame : goal.returns-clause-frame
returns-clause-frame g c =
    let part = c.args.part.now in
    rw (part-lent (λ s. s.now) part.relative_zxid part.data_watches.now part.exist_watches.now part.child_watches.now) c.in_ok-frame.ensures
