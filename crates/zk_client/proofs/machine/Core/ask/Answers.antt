-- A call that is not refused may be sent: the connection talks, the payload fits, as no limit is above 2^30, and few
-- are pending, by what `refusal` ensures. The core is sound after it: `asked-sound`.
use Rattle.std.proofs.Common.{ap, ◌∙◌, [], arith}
use Rattle.std.proofs.lemmas.Result.{on_ok_weaker}
use Rattle.zk_turns.specs.Taken.{phase_of}
use Rattle.zk_conversation.specs.Views.{call_view}
use Rattle.zk_client.proofs.Asked.{asked-sound}
use Rattle.zk_client.proofs.machine.Core.ask.Goals as goal

pub send-requires-clause-talking : goal.send-requires-clause-talking
send-requires-clause-talking g c = let free = (c.in_default.ensures []).0 in c.requires.sound.phase ∙ ap phase_of free.talks

pub send-requires-clause-fits : goal.send-requires-clause-fits
send-requires-clause-fits g c =
    let free = (c.in_default.ensures []).0 in
    let most = c.args.self.now.limits.most_outgoing in
    omega (arith, free.fits, most)

pub send-requires-clause-few : goal.send-requires-clause-few
send-requires-clause-few g c = let free = (c.in_default.ensures []).0 in free.few

pub returns-clause-sound : goal.returns-clause-sound
returns-clause-sound g c =
    let free = (c.in_default.ensures []).0 in
    let core = c.args.self.now in
    let sound = asked-sound core.session c.sent.new.self core.conversation c.send.new.self core.registry c.args.ticket
    (call_view c.args.call) c.requires.sound free.talks free.room c.sent.ensures c.in_ok-asked.ensures.ok in
    on_ok_weaker c.say-2.result (λ _. sound) c.say-2.ensures
