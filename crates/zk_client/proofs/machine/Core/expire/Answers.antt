-- After an expiry nothing is kept and the session is over: `expired-view`, from what each of the called functions ensures.
use Rattle.zk_client.proofs.Ends.{expired-view}
use Rattle.std.proofs.lemmas.Result.{on_ok_weaker}
use Rattle.zk_client.proofs.machine.Core.expire.Goals as goal

pub returns-clause-next : goal.returns-clause-next
returns-clause-next g c =
    let core = c.args.self.now in
    on_ok_weaker c.say.result (λ _. λ held pending. expired-view held core.halted core.session core.conversation core.registry core.cache
    pending c.args.response.now c.accepted.new.self c.cut.new.self c.clear.new.self c.clear-2.new.self
    c.requires.state c.requires.over c.in_ok-accepted.ensures.ok c.cut.ensures c.requires.quiet c.clear.ensures c.clear-2.ensures)
    c.say.ensures
