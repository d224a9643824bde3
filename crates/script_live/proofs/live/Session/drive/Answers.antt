-- By the kind of line: an end, a moment and a call print what the link ensures (`prints_from`); any other is a look (`prints_look`). A halt
-- is one of what the link halts at, with nothing printed before: `if_halted`.
use Rattle.std.proofs.Common.{◌≡◌, ℕ, List, [], ◌∷◌, refl, rules, subst}
use Rattle.std.specs.Prelude.{string_bytes}
use Rattle.zk_turns.specs.Turns.{Cut, Now}
use Rattle.zk_client.specs.Clients.{view_of}
use Rattle.script_replay.specs.Lines.{client_value_of}
use Rattle.script_replay.specs.declared.call_line.AskedCall.{AskedCall}
use Rattle.script_replay.specs.declared.client_line.ClientLine.{ClientLine}
use Rattle.script_replay.specs.declared.client_line.ClientLine.TheVariants as client
use Rattle.script_words.specs.Stops.{IfHalted}
use Rattle.script_live.specs.Flowing.{flow_of, IsLook}
use Rattle.script_live.specs.Heard.{tape, HaltsAmong}
use Rattle.script_live.proofs.HeardLemmas.{if_halted}
use Rattle.script_live.proofs.Printing.{prints_from, prints_hands, prints_look}
use Rattle.script_live.proofs.live.Session.drive.Goals as goal

is_look : {A : Type 0} (line : ClientLine A) → (line ≡ client.Cut → ⊥) → ((x : ℕ) → line ≡ client.Now x → ⊥)
    → ((x : AskedCall A) → line ≡ client.Call x → ⊥)
    → IsLook (client_value_of line)
is_look client.Cut not_cut not_now not_call = absurd (not_cut refl)
is_look (client.Now x) not_cut not_now not_call = absurd (not_now x refl)
is_look (client.Call x) not_cut not_now not_call = absurd (not_call x refl)
is_look (client.Peek side path) not_cut not_now not_call = tt
is_look client.Last not_cut not_now not_call = tt
is_look client.Saved not_cut not_now not_call = tt
is_look client.Forget not_cut not_now not_call = tt

pub returns-in_ok-cut-in-Cut-clause-prints : goal.returns-in_ok-cut-in-Cut-clause-prints
returns-in_ok-cut-in-Cut-clause-prints g c =
    let know = flow_of g.D.Stream.Read.remaining g.D.Stream.Write.contents in
    prints_from (know c.args.self.now.link.joint) (know c.cut.new.self.joint) (string_bytes c.new-text.result) (string_bytes c.cut.new.text)
    c.new-text.ensures.bytes c.in_ok-cut-in-Cut.ensures.flows

pub returns-in_ok-step-in-Now-clause-prints : goal.returns-in_ok-step-in-Now-clause-prints
returns-in_ok-step-in-Now-clause-prints g c =
    let know = flow_of g.D.Stream.Read.remaining g.D.Stream.Write.contents in
    let old = know c.args.self.now.link.joint in
    let new = know c.step.new.self.joint in
    let before = string_bytes c.new-text.result in
    let after = string_bytes c.step.new.text in
    prints_from old new before after c.new-text.ensures.bytes
    (prints_hands (Now c.in-Now.moment) old new before after tt c.in_ok-step-in-Now.ensures.flows)

pub returns-in_ok-ask-in-Call-clause-prints : goal.returns-in_ok-ask-in-Call-clause-prints
returns-in_ok-ask-in-Call-clause-prints g c =
    let know = flow_of g.D.Stream.Read.remaining g.D.Stream.Write.contents in
    prints_from (know c.args.self.now.link.joint) (know c.ask.new.self.joint) (string_bytes c.new-text.result) (string_bytes c.ask.new.text)
    c.new-text.ensures.bytes c.in_ok-ask-in-Call.ensures.flows

pub returns-in_default-clause-prints : goal.returns-in_default-clause-prints
returns-in_default-clause-prints g c =
    let old = flow_of g.D.Stream.Read.remaining g.D.Stream.Write.contents c.args.self.now.link.joint in
    let look = is_look c.args.line c.in_default.not-Cut c.in_default.not-Now c.in_default.not-Call in
    prints_look c.driven.result string_bytes (client_value_of c.args.line) old
    (record old { view = view_of c.driven.new.client }) look c.driven.ensures.ok refl refl

pub returns-in_err-step-in-Now-clause-halt : goal.returns-in_err-step-in-Now-clause-halt
returns-in_err-step-in-Now-clause-halt g c =
    let old = view_of c.args.self.now.link.joint.client in
    let new = view_of c.step.new.self.joint.client in
    let inputs = Now c.in-Now.moment ∷ Cut ∷ [] in
    let after = string_bytes c.step.new.text in
    let stop = c.in_err-step-in-Now.field-0.0 in
    let halted : IfHalted ((text : List ℕ) × HaltsAmong (tape old []) inputs (tape new text)) stop =
    if_halted (HaltsAmong (tape old []) inputs (tape new after)) ((text : List ℕ) × HaltsAmong (tape old []) inputs (tape new text)) stop
    (λ halts. (after, halts))
    (subst (λ (before : List ℕ). IfHalted (HaltsAmong (tape old before) inputs (tape new after)) stop) c.new-text.ensures.bytes
    c.in_err-step-in-Now.ensures.halt) in
    search rules
