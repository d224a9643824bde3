-- The xid is below 2^31 (the invariant), so it is the same as an int; the rest is what `frame` and `awaits` ensure, rewritten.
use Rattle.std.proofs.Common.{◌≡◌, pos, w32, arith}
use mir.Val.{to_z}
use Rattle.std.proofs.lemmas.Int.{ints}
use Rattle.zk_conversation.proofs.conversation.Conversation.send.Goals as goal

pub returns-clause-frame : goal.returns-clause-frame
returns-clause-frame g c =
    let below = c.self.invariant.below in
    let xid : to_z w32 c.self.inside.xid ≡ pos c.self.inside.xid = omega (arith, ints) in
    rw (← c.self.view_is) (rw xid at c.in_ok-frame.ensures)

pub returns-clause-xid : goal.returns-clause-xid
returns-clause-xid g c = let below = c.self.invariant.below in rw (← c.self.view_is) (omega (arith, ints))

pub returns-clause-ok : goal.returns-clause-ok
returns-clause-ok g c = rw (← c.into_question.ensures) c.in_ok-awaits.ensures.ok
