-- Where nobody contends yet, nothing is asked or told: `stays_quiet`. Where nobody does any more, nothing is heard either: `nobody_went`.
use Rattle.std.proofs.Common.{subst, sym}
use Rattle.std.specs.Prelude.{OnOk}
use Rattle.ffi_device.specs.inner.Contending.{WentOn}
use Rattle.ffi_device.proofs.Nobody.{nobody_went}
use Rattle.ffi_device.proofs.OwnCalls.{stays_quiet}
use Rattle.ffi_device.proofs.device.Device.go_on.Goals as goal

pub returns-then-not-self-clause-went : goal.returns-then-not-self-clause-went
returns-then-not-self-clause-went c =
    let before = c.args.self.now in
    let after = record before { news = c.clear.new.self } in
    subst (λ b. WentOn b c.args.now before.contenders before.agent before.said.items after) (sym c.if-not-self.true)
    (stays_quiet c.args.now after c.clear.ensures.items)

pub returns-then-has_nobody-clause-went : goal.returns-then-has_nobody-clause-went
returns-then-has_nobody-clause-went c =
    let before = c.args.self.now in
    let after = record before { news = c.clear.new.self } in
    subst (λ b. WentOn b c.args.now before.contenders before.agent before.said.items after) (sym c.if-not-self.false)
    (nobody_went c.args.now after c.clear.ensures.items (c.has_nobody.ensures c.if-has_nobody.true))

pub returns-clause-went : goal.returns-clause-went
returns-clause-went c =
    let before = c.args.self.now in
    subst (λ b. OnOk c.contend_on.result (WentOn b c.args.now before.contenders before.agent before.said.items c.contend_on.new.self))
    (sym c.if-not-self.false) c.contend_on.ensures.went
