-- A welcome leads to the next view and a sound core: `welcomes`, from what `accepted`, `send_parts` and `sent_if` ensure.
use Rattle.std.proofs.Common.{[]}
use Rattle.zk_client.proofs.Welcomes.{welcomes}
use Rattle.zk_client.proofs.machine.Core.welcome.Goals as goal

pub returns-clause-sound : goal.returns-clause-sound
returns-clause-sound g c =
    let core = c.args.self.now in
    let all = welcomes {limits = core.limits} [] core.halted core.session core.conversation core.registry core.cache [] c.args.response.now
    c.accepted.new.self
    c.sent_if.new.session c.send_parts.new.conversation c.in_ok-any.any
    c.requires.state c.requires.goes_on c.requires.quiet c.requires.room c.requires.short c.in_ok-accepted.ensures.ok c.sent_if.ensures
    c.in_ok-any.ensures.any c.in_ok-any.ensures.phase c.in_ok-any.ensures.pending c.in_ok-any.ensures.xid in
    all.sound

pub returns-clause-next : goal.returns-clause-next
returns-clause-next g c = λ held pending.
    let core = c.args.self.now in
    let all = welcomes {limits = core.limits} held core.halted core.session core.conversation core.registry core.cache pending
    c.args.response.now
    c.accepted.new.self c.sent_if.new.session c.send_parts.new.conversation c.in_ok-any.any
    c.requires.state c.requires.goes_on c.requires.quiet c.requires.room c.requires.short c.in_ok-accepted.ensures.ok c.sent_if.ensures
    c.in_ok-any.ensures.any c.in_ok-any.ensures.phase c.in_ok-any.ensures.pending c.in_ok-any.ensures.xid in
    all.next
