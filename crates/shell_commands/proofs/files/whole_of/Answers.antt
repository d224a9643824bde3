-- Of the input's first 1,048,576 bytes, fewer than that are all of them (`are_whole`); more than 1,048,575 show that the input is too long
-- (`are_more`).
use Rattle.std.proofs.Common.{arith}
use Rattle.std.proofs.lemmas.Result.{IfErr-weaker, IfOk-weaker}
use Rattle.shell_commands.proofs.FileLemmas.{are_more, are_whole}
use Rattle.shell_commands.proofs.files.whole_of.Goals as goal

pub returns-in-Ok-clause-whole : goal.returns-in-Ok-clause-whole
returns-in-Ok-clause-whole g c =
    let first = rw (c.take-first.ensures.limit, c.take-first.ensures.inner) at c.in-Ok.ensures.whole in
    IfOk-weaker c.within.result _ _ (λ same is. rw is.0
    (are_whole 1048576 (g.R.Read.remaining c.args.input) c.in-Ok.bytes.items first (omega (arith, is.1)), is.1)) c.within.ensures.ok

pub returns-in-Ok-clause-long : goal.returns-in-Ok-clause-long
returns-in-Ok-clause-long g c =
    let first = rw (c.take-first.ensures.limit, c.take-first.ensures.inner) at c.in-Ok.ensures.whole in
    IfErr-weaker c.within.result _ _
    (λ fault is _. are_more 1048576 1048575 (g.R.Read.remaining c.args.input) c.in-Ok.bytes.items first is.1) c.within.ensures.err
