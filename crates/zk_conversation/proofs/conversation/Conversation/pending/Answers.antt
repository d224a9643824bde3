-- A close is pending exactly where more than 0 are counted: `any-count`, with the counts of the invariant.
use Rattle.std.proofs.Common.{map, ap, sym, ◌∙◌, ltb}
use Rattle.zk_conversation.specs.declared.counts.Counts.{Counts}
use Rattle.zk_conversation.specs.Pending.{Talk, is_close, is_close_pending}
use Rattle.zk_conversation.specs.Views.{pending_view}
use Rattle.zk_conversation.proofs.Counting.{any-count}
use Rattle.zk_conversation.proofs.conversation.Conversation.pending.Goals as goal

pub returns-clause-close : goal.returns-clause-close
returns-clause-close g c =
    ap (λ (n : Counts). ltb 0 n.closes) c.self.invariant.counted
    ∙ sym (any-count is_close (map pending_view c.self.inside.pending.items))
    ∙ ap (λ (t : Talk). is_close_pending t.pending) c.self.view_is
