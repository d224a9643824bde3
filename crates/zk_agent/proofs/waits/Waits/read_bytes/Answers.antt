-- One turn reads some bytes more: all up to there are heard then (`some_more_heard`).
use Rattle.std.proofs.Common.{◌≡◌, ◌≤◌, ◌-◌, drop, length, length-drop, subst, take, take_all, arith}
use Rattle.zk_agent.specs.Waits.{heard_bytes, waited_of}
use Rattle.zk_agent.proofs.Passing.{some_more_heard}
use Rattle.zk_agent.proofs.waits.Waits.read_bytes.Goals as goal

pub loop-at-preserved : goal.loop-at-preserved
loop-at-preserved g c =
    let at = c.loop-at.at in
    let bytes = c.args.bytes.now in
    let count = c.read_some-count.result in
    let here = waited_of c.loop-at.self in
    let after = waited_of c.read_some-count.new.self in
    let rest : take (length bytes - at) (drop at bytes) ≡ drop at bytes =
    take_all (length bytes - at) (drop at bytes) (omega (arith, length-drop at bytes)) in
    let some : count ≤ length (drop at bytes) = subst (λ l. count ≤ length l) rest c.read_some-count.ensures.fits in
    record {
      fits = omega (arith, length-drop at bytes, c.loop-at.invariant.fits, some);
      heard = some_more_heard (waited_of c.args.self.now) here after bytes at count c.loop-at.invariant.heard
          (subst (λ l. after ≡ heard_bytes here (take count l)) rest c.read_some-count.ensures.heard);
    }
