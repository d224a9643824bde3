-- `reply_reads` goes both ways: what is read is spelled so, and what is spelled so is read, so a call gives the same reply (`is_the_one`),
-- or fails for memory alone (`is_memory`).
use Rattle.std.proofs.lemmas.Result.{err_from_is_err_and}
use Rattle.std.proofs.Common.{ap, ◌∙◌}
use Rattle.zk_jute.proofs.Taking.{is_memory, is_the_one}
use Rattle.zk_records.specs.Reply.{reply_at}
use Rattle.zk_records.specs.inner.ReplyLaws.{reply_reads}
use Rattle.zk_records.proofs.reply.take_reply.Goals as goal

pub returns-in_err-reply-clause-only : goal.returns-in_err-reply-clause-only
returns-in_err-reply-clause-only g c value rest fits e =
    let p = err_from_is_err_and c.from_residual.result c.from_residual.ensures.1 in
    rw (p.1, p.2) (is_memory _ _ _ c.in_err-reply.ensures.gives (ap (reply_at _ _) e ∙ (reply_reads _ _).again value rest fits))

pub returns-clause-found : goal.returns-clause-found
returns-clause-found g c = let t = (reply_reads _ _).takes _ _ c.args.at.now.bytes c.in_ok-reply.ensures.gives in (t.1, t.0.parts)

pub returns-clause-only : goal.returns-clause-only
returns-clause-only g c value rest fits e =
    is_the_one _ _ _ _ _ c.in_ok-reply.ensures.gives (ap (reply_at _ _) e ∙ (reply_reads _ _).again value rest fits)
