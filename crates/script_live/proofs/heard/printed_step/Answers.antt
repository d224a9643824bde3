-- The input is heard and what is said to it printed: `heard` and `hands_so`, from what `Joint::step` and `push_told` ensure.
use Rattle.std.proofs.Common.{ap}
use Rattle.std.specs.Prelude.{string_bytes}
use Rattle.zk_client.specs.Views.{input_view, said}
use Rattle.script_live.specs.Trails.{trail_of}
use Rattle.script_live.specs.Heard.{TellsEach}
use Rattle.script_live.proofs.HeardLemmas.{heard}
use Rattle.script_live.specs.Flowing.{flow_of}
use Rattle.script_live.proofs.Printing.{hands_so}
use Rattle.script_live.proofs.heard.printed_step.Goals as goal

pub returns-clause-ok : goal.returns-clause-ok
returns-clause-ok g c =
    let old = (trail_of c.args.joint.now c.new-outputs.result.items) in
    let new = (trail_of c.step.new.self c.step.new.outputs.items) in
    let told = c.in_ok-push_told.ensures in
    let tells : TellsEach (said c.step.new.outputs.items) told.0 = rw (← c.as_slice.ensures.value) told.1 in
    heard old new (input_view c.args.input) (string_bytes c.args.text.now) told.0 (string_bytes c.push_told.new.text)
    (ap said c.new-outputs.ensures.items)
    c.in-Ok.ensures.ok tells told.2

pub returns-clause-flows : goal.returns-clause-flows
returns-clause-flows g c =
    let know = flow_of g.S.Read.remaining g.S.Write.contents in
    let told = c.in_ok-push_told.ensures in
    let tells : TellsEach (said c.step.new.outputs.items) told.0 = rw (← c.as_slice.ensures.value) told.1 in
    hands_so (input_view c.args.input) (said c.new-outputs.result.items) (said c.step.new.outputs.items) (know c.args.joint.now)
    (know c.step.new.self) (string_bytes c.args.text.now) told.0
    (string_bytes c.push_told.new.text) (ap said c.new-outputs.ensures.items) c.in-Ok.ensures.flows tells told.2
