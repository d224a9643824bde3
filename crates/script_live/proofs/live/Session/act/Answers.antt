-- A halt where a connection begins is one of what the link halts at, with nothing printed before: `if_halted`.
use Rattle.std.proofs.Common.{ℕ, List, [], rules, subst}
use Rattle.std.specs.Prelude.{string_bytes}
use Rattle.zk_client.specs.Clients.{view_of}
use Rattle.script_words.specs.Stops.{IfHalted}
use Rattle.script_live.specs.Heard.{tape, HaltsConnecting}
use Rattle.script_live.proofs.HeardLemmas.{if_halted}
use Rattle.script_live.proofs.live.Session.act.Goals as goal

pub returns-in_err-connect-in-Open-clause-halt : goal.returns-in_err-connect-in-Open-clause-halt
returns-in_err-connect-in-Open-clause-halt g c =
    let old = view_of c.args.self.now.link.joint.client in
    let new = view_of c.connect.new.self.joint.client in
    let after = string_bytes c.connect.new.text in
    let stop = c.in_err-connect-in-Open.field-0.0 in
    let halted : IfHalted ((text : List ℕ) × HaltsConnecting (tape old []) (tape new text)) stop =
    if_halted (HaltsConnecting (tape old []) (tape new after)) ((text : List ℕ) × HaltsConnecting (tape old []) (tape new text)) stop
    (λ halts. (after, halts))
    (subst (λ (before : List ℕ). IfHalted (HaltsConnecting (tape old before) (tape new after)) stop) c.new-text.ensures.bytes
    c.in_err-connect-in-Open.ensures.halt) in
    search rules
