-- An input is handed on, then the connection may end; between the two is what `printed_step` leaves: by what the calls ensure. A halt at
-- the end is one after the input: `halts_second`.
use Rattle.std.proofs.Common.{rules}
use Rattle.std.specs.Prelude.{string_bytes}
use Rattle.zk_client.specs.Clients.{view_of}
use Rattle.zk_client.specs.Views.{input_view}
use Rattle.script_live.specs.Flowing.{flow_of}
use Rattle.script_live.specs.Heard.{tape}
use Rattle.script_live.proofs.HeardLemmas.{halts_second}
use Rattle.script_live.proofs.link.Link.step.Goals as goal

pub returns-clause-flows : goal.returns-clause-flows
returns-clause-flows g c = record {
  between = flow_of g.S.Read.remaining g.S.Write.contents c.printed_step.new.joint;
  text = string_bytes c.printed_step.new.text;
  hands = c.in_ok-heard.ensures.flows;
  goes_on = c.in_ok-end_if.ensures.flows;
}

pub returns-in_err-end_if-clause-halt : goal.returns-in_err-end_if-clause-halt
returns-in_err-end_if-clause-halt g c =
    let old = tape (view_of c.args.self.now.joint.client) (string_bytes c.args.text.now) in
    let between = tape (view_of c.printed_step.new.joint.client) (string_bytes c.printed_step.new.text) in
    let new = tape (view_of c.end_if.new.self.joint.client) (string_bytes c.end_if.new.text) in
    let halted = halts_second old between new (input_view c.args.input) c.in_err-end_if.field-0.0 c.in_ok-heard.ensures.ok
    c.in_err-end_if.ensures.halt in
    search rules
