-- A call is a step and a wait: `asks` joins them, `prints_after` what they print, and a halt is at the one or the other (`halts_asked`,
-- `halts_awaiting`).
use Rattle.std.proofs.Common.{rules}
use Rattle.std.specs.Prelude.{string_bytes}
use Rattle.zk_conversation.specs.Views.{call_view}
use Rattle.zk_turns.specs.Turns.{Call}
use Rattle.zk_client.specs.Clients.{view_of}
use Rattle.script_live.specs.Heard.{tape}
use Rattle.script_live.proofs.HeardLemmas.{asks, halts_asked, halts_awaiting}
use Rattle.script_live.specs.Flowing.{flow_of}
use Rattle.script_live.proofs.Printing.{prints_after, prints_hands}
use Rattle.script_live.proofs.link.Link.ask.Goals as goal

pub returns-clause-ok : goal.returns-clause-ok
returns-clause-ok g c =
    let sent = c.step.new in
    let new = c.wait.new in
    asks (tape (view_of c.args.self.now.joint.client) (string_bytes c.args.text.now))
    (tape (view_of sent.self.joint.client) (string_bytes sent.text))
    (tape (view_of new.self.joint.client) (string_bytes new.text))
    (Call c.args.asked.ticket (call_view c.args.asked.call)) c.in_ok-outputs.ensures.ok
    c.in_ok-wait.ensures.ok

pub returns-in_err-outputs-clause-halt : goal.returns-in_err-outputs-clause-halt
returns-in_err-outputs-clause-halt g c =
    let new = c.step.new in
    let halted = halts_asked (tape (view_of c.args.self.now.joint.client) (string_bytes c.args.text.now))
    (tape (view_of new.self.joint.client) (string_bytes new.text))
    (Call c.args.asked.ticket (call_view c.args.asked.call)) c.in_err-outputs.field-0.0 c.in_err-outputs.ensures.halt in
    search rules

pub returns-in_err-wait-clause-halt : goal.returns-in_err-wait-clause-halt
returns-in_err-wait-clause-halt g c =
    let sent = c.step.new in
    let new = c.wait.new in
    let halted = halts_awaiting (tape (view_of c.args.self.now.joint.client) (string_bytes c.args.text.now))
    (tape (view_of sent.self.joint.client) (string_bytes sent.text))
    (tape (view_of new.self.joint.client) (string_bytes new.text))
    (Call c.args.asked.ticket (call_view c.args.asked.call)) c.in_err-wait.field-0.0
    c.in_ok-outputs.ensures.ok c.in_err-wait.ensures.halt in
    search rules

pub returns-clause-flows : goal.returns-clause-flows
returns-clause-flows g c =
    let know = flow_of g.S.Read.remaining g.S.Write.contents in
    let sent = c.step.new in
    let new = c.wait.new in
    prints_after (know c.args.self.now.joint) (know sent.self.joint) (know new.self.joint) (string_bytes c.args.text.now)
    (string_bytes sent.text) (string_bytes new.text)
    (prints_hands (Call c.args.asked.ticket (call_view c.args.asked.call)) (know c.args.self.now.joint) (know sent.self.joint)
    (string_bytes c.args.text.now) (string_bytes sent.text) tt c.in_ok-outputs.ensures.flows)
    c.in_ok-wait.ensures.flows
