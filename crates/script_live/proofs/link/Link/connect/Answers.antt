-- What `end_if`, `hold`, `step` and `settle` ensure, in turn: `connects` joins what is heard, `halts_opened` and `halts_settling` the
-- halts, and `prints_after` what is printed. Where no address connects, that is printed: `fails`.
use Rattle.std.proofs.Common.{◌≡◌, [], ◌∷◌, ap, refl, rules, subst}
use Rattle.std.specs.Prelude.{is_some, string_bytes}
use Rattle.zk_turns.specs.Turns.{Cut, Opened}
use Rattle.zk_turns.specs.View.{View}
use Rattle.zk_client.specs.Clients.{view_of}
use Rattle.script_live.specs.Trails.{Trail}
use Rattle.script_words.specs.Stops.{IfHalted}
use Rattle.script_live.specs.Heard.{tape, HaltsAmong, Takes}
use Rattle.script_live.proofs.HeardLemmas.{connects, fails, halts_opened, halts_settling}
use Rattle.script_live.specs.Flowing.{flow_of}
use Rattle.script_live.specs.declared.link.Link.{Link}
use Rattle.script_live.proofs.Printing.{prints_after, prints_begin, shut_by}
use Rattle.script_live.proofs.link.Link.connect.Goals as goal

pub returns-clause-ok : goal.returns-clause-ok
returns-clause-ok g c =
    let ended = c.end_if.new in
    let began = c.step.new in
    let new = c.settle.new in
    let after = (tape (view_of began.self.joint.client) (string_bytes began.text)) in
    let same : view_of c.hold.new.self.client ≡ view_of ended.self.joint.client = ap (λ (t : Trail). t.view) c.hold.ensures.trail in
    connects (tape (view_of c.args.self.now.joint.client) (string_bytes c.args.text.now))
    (tape (view_of ended.self.joint.client) (string_bytes ended.text)) after
    (tape (view_of new.self.joint.client) (string_bytes new.text)) c.in_ok-end_if.ensures.ok
    (subst (λ (v : View). Takes (tape v (string_bytes ended.text)) Opened after) same c.in_ok-step.ensures.ok) c.in_ok-settle.ensures.ok
    c.in_ok-settle.ensures.settled

pub returns-in_default-clause-ok : goal.returns-in_default-clause-ok
returns-in_default-clause-ok g c =
    let ended = c.end_if.new in
    fails (tape (view_of c.args.self.now.joint.client) (string_bytes c.args.text.now)) (view_of ended.self.joint.client)
    (string_bytes ended.text) (string_bytes c.push_str.new.self) c.in_ok-end_if.ensures.ok c.in_ok-push_str.ensures.bytes

pub returns-in_err-step-clause-halt : goal.returns-in_err-step-clause-halt
returns-in_err-step-clause-halt g c =
    let ended = c.end_if.new in
    let new = c.step.new in
    let stop = c.in_err-step.field-0.0 in
    let after = (tape (view_of new.self.joint.client) (string_bytes new.text)) in
    let same : view_of c.hold.new.self.client ≡ view_of ended.self.joint.client = ap (λ (t : Trail). t.view) c.hold.ensures.trail in
    let halted = halts_opened (tape (view_of c.args.self.now.joint.client) (string_bytes c.args.text.now))
    (tape (view_of ended.self.joint.client) (string_bytes ended.text))
    after stop c.in_ok-end_if.ensures.ok
    (subst (λ (v : View). IfHalted (HaltsAmong (tape v (string_bytes ended.text)) (Opened ∷ Cut ∷ []) after) stop) same
    c.in_err-step.ensures.halt) in
    search rules

pub returns-in_err-settle-clause-halt : goal.returns-in_err-settle-clause-halt
returns-in_err-settle-clause-halt g c =
    let ended = c.end_if.new in
    let began = c.step.new in
    let new = c.settle.new in
    let between = (tape (view_of began.self.joint.client) (string_bytes began.text)) in
    let same : view_of c.hold.new.self.client ≡ view_of ended.self.joint.client = ap (λ (t : Trail). t.view) c.hold.ensures.trail in
    let halted = halts_settling (tape (view_of c.args.self.now.joint.client) (string_bytes c.args.text.now))
    (tape (view_of ended.self.joint.client) (string_bytes ended.text))
    between (tape (view_of new.self.joint.client) (string_bytes new.text)) c.in_err-settle.field-0.0 c.in_ok-end_if.ensures.ok
    (subst (λ (v : View). Takes (tape v (string_bytes ended.text)) Opened between) same c.in_ok-step.ensures.ok)
    c.in_err-settle.ensures.halt in
    search rules

pub returns-clause-flows : goal.returns-clause-flows
returns-clause-flows g c =
    let know = flow_of g.S.Read.remaining g.S.Write.contents in
    let old = c.args.self.now in
    let ended = c.end_if.new in
    let began = c.step.new in
    let new = c.settle.new in
    let shut =
    shut_by c.is_open-is_open.result (is_some old.joint.stream)
    (is_some ended.self.joint.stream) c.is_open-is_open.ensures c.in_ok-end_if.ensures.shut
    (λ stays. ap (λ (l : Link g.row.A.Denot g.row.S.Denot). is_some l.joint.stream) (c.end_if.ensures.same stays)) in
    prints_after (know old.joint) (know ended.self.joint) (know new.self.joint) (string_bytes c.args.text.now) (string_bytes ended.text)
    (string_bytes new.text) c.in_ok-end_if.ensures.flows
    (prints_after (know ended.self.joint) (know began.self.joint) (know new.self.joint) (string_bytes ended.text)
    (string_bytes began.text) (string_bytes new.text)
    (prints_begin (know ended.self.joint) (know c.hold.new.self) (know began.self.joint) (string_bytes ended.text)
    (string_bytes began.text) shut refl c.hold.ensures.flows c.in_ok-step.ensures.flows)
    c.in_ok-settle.ensures.flows)
