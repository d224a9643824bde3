-- Where the xid is the oldest request's, what is read is its reply: `oldest-read`; xid and err are the same as machine integers.
use Rattle.std.proofs.Common.{◌≡◌, w32, arith}
use mir.Val.{to_z, of_z}
use Rattle.std.proofs.lemmas.Int.{ints}
use Rattle.zk_conversation.specs.Views.{pending_view, result_view}
use Rattle.zk_conversation.proofs.Replies.{oldest-read}
use Rattle.zk_conversation.proofs.arriving.read_oldest.Goals as goal

pub returns-in-Ok-clause-gives : goal.returns-in-Ok-clause-gives
returns-in-Ok-clause-gives g c = λ more.
    let same : c.args.oldest.now.xid ≡ c.args.header.xid = omega (arith, ints) in
    let err : to_z w32 (of_z w32 c.args.header.err) ≡ c.args.header.err = omega (arith, ints) in
    oldest-read (pending_view c.args.oldest.now) c.args.header _ _ (result_view c.in-Ok.found) more same (rw err at c.in-Ok.ensures.gives)
