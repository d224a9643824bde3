-- It reads the length and the xid of a frame at once (`head_heard`), or passes over some bytes of a frame and reads the one after them
-- (`one_more_heard`).
use Rattle.std.proofs.Common.{refl, sym, ap, ◌∙◌, arith}
use Rattle.zk_agent.specs.Waits.{waited_of}
use Rattle.zk_agent.specs.inner.Waits.{heard_head}
use Rattle.zk_agent.proofs.Heads.{head_heard}
use Rattle.zk_agent.proofs.Passing.{one_more_heard}
use Rattle.zk_agent.proofs.waits.Waits.read_some.Goals as goal

pub returns-in-Some-clause-heard : goal.returns-in-Some-clause-heard
returns-in-Some-clause-heard g c =
    let waited = waited_of c.args.self.now in
    let found = c.in-Some.ensures in
    c.read_head.ensures ∙ ap (λ n. heard_head n waited) found.number
    ∙ sym (head_heard waited c.args.bytes.now found.begins found.fits (λ i. omega (arith, c.type_inv.bytes i)))

pub returns-clause-heard : goal.returns-clause-heard
returns-clause-heard g c =
    let waited = waited_of c.args.self.now in
    let passed = c.pass-passed.ensures in
    one_more_heard waited c.args.bytes.now c.pass-passed.result _ (record waited { came = c.pass-passed.new.self })
    (waited_of c.read_byte.new.self) passed.inside passed.fits (ap (λ came. record waited { came = came }) passed.place) refl
    c.read_byte.ensures
