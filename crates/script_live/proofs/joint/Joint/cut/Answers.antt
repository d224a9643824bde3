-- Letting the stream go changes neither client nor outputs, so `step` does as if from before: `same_fails`, and `cut_so` for the bytes.
use Rattle.std.proofs.Common.{rules, refl, false, None}
use Rattle.script_live.specs.Trails.{trail_of}
use Rattle.script_live.proofs.TrailLemmas.{same_fails}
use Rattle.zk_client.specs.Views.{said}
use Rattle.script_live.specs.Flowing.{flow_of}
use Rattle.script_live.proofs.Flowed.{cut_so}
use Rattle.script_live.proofs.joint.Joint.cut.Goals as goal

pub returns-in_err-step-clause-err : goal.returns-in_err-step-clause-err
returns-in_err-step-clause-err g c =
    let failed = same_fails c.in_err-step.field-0.0 (trail_of c.args.self.now c.args.outputs.now.items)
    (record (trail_of c.args.self.now c.args.outputs.now.items) { is_open = false })
    (trail_of c.step.new.self c.step.new.outputs.items) refl refl c.in_err-step.ensures.err in
    search rules

pub returns-clause-flows : goal.returns-clause-flows
returns-clause-flows g c =
    let know = flow_of g.S.Read.remaining g.S.Write.contents in
    let ended = know (record c.args.self.now { stream = None }) in
    cut_so (said c.args.outputs.now.items) (said c.step.new.outputs.items) (know c.args.self.now) ended
    (know c.step.new.self) refl refl refl c.in_ok-step.ensures.flows
