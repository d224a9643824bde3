-- One more output is noted after those before it (`reported_more`); after the loop all are (`take_all`).
use Rattle.std.proofs.Common.{◌≤◌, arith, length, subst}
use Rattle.std.proofs.lemmas.List.{take_all}
use Rattle.zk_client.specs.Views.{said}
use Rattle.zk_follow.specs.inner.Reported.{AreReported}
use Rattle.zk_follow.proofs.Paths.{reported_more}
use Rattle.zk_follow.proofs.reported.Reported.of.Goals as goal

pub loop-output-init : goal.loop-output-init
loop-output-init g c = c.new-reported.ensures

pub loop-output-preserved : goal.loop-output-preserved
loop-output-preserved g c =
    reported_more c.loop-output.reported c.note.new.self c.args.outputs.now c.loop-output.output-index c.output-item.result
    c.loop-output-test.true c.output-item.is c.in_ok-note.ensures c.loop-output.invariant

pub returns : goal.returns
returns g c = λ few.
    let past : length c.args.outputs.now ≤ c.loop-output.output-index = omega (arith, c.loop-output-test.false) in
    subst (λ outputs. AreReported c.loop-output.reported (said outputs)) (take_all c.loop-output.output-index c.args.outputs.now past)
    c.loop-output.invariant
