-- The end is heard and its lines printed: `heard` and `prints_end`, from what `Joint::cut` and `push_told` ensure.
use Rattle.std.proofs.Common.{ap, false}
use Rattle.std.specs.Prelude.{string_bytes}
use Rattle.zk_turns.specs.Turns.{Cut}
use Rattle.zk_client.specs.Views.{said}
use Rattle.script_live.specs.Trails.{trail_of}
use Rattle.script_live.specs.Heard.{TellsEach}
use Rattle.script_live.specs.Flowing.{flow_of}
use Rattle.script_live.proofs.HeardLemmas.{heard}
use Rattle.script_live.proofs.Printing.{prints_end}
use Rattle.script_live.proofs.heard.cut.Goals as goal

pub returns-in-Ok-clause-ok : goal.returns-in-Ok-clause-ok
returns-in-Ok-clause-ok g c =
    let old = record (trail_of c.args.joint.now c.new-outputs.result.items) { is_open = false } in
    let new = (trail_of c.cut.new.self c.cut.new.outputs.items) in
    let told = c.in-Ok.ensures in
    let tells : TellsEach (said c.cut.new.outputs.items) told.0 = rw (← c.as_slice.ensures.value) told.1 in
    heard old new Cut (string_bytes c.args.text.now) told.0 (string_bytes c.push_told.new.text) (ap said c.new-outputs.ensures.items)
    c.in_default.ensures.ok tells told.2

pub returns-in-Ok-clause-flows : goal.returns-in-Ok-clause-flows
returns-in-Ok-clause-flows g c =
    let know = flow_of g.S.Read.remaining g.S.Write.contents in
    let told = c.in-Ok.ensures in
    let tells : TellsEach (said c.cut.new.outputs.items) told.0 = rw (← c.as_slice.ensures.value) told.1 in
    prints_end (said c.new-outputs.result.items) (said c.cut.new.outputs.items) (know c.args.joint.now) (know c.cut.new.self)
    (string_bytes c.args.text.now) told.0 (string_bytes c.push_told.new.text)
    (ap said c.new-outputs.ensures.items) c.in_default.ensures.flows tells told.2

pub returns-in-Ok-clause-shut : goal.returns-in-Ok-clause-shut
returns-in-Ok-clause-shut g c = c.in_default.ensures.flows.ends.2
