-- A client without a connection holds what every session admits, whatever its limits, and stands where it stood, with these.
use Rattle.std.proofs.Common.{sym, subst}
use Rattle.zk_session.specs.declared.states.State.{State}
use Rattle.zk_turns.specs.Taken.{longest}
use Rattle.zk_client.specs.Sound.{IsReading}
use Rattle.zk_client.proofs.client.Client.with_limits.Goals as goal

pub invariant_of-result : goal.invariant_of-result
invariant_of-result g c =
    let client = c.args.self in
    record {
      sound = client.sound;
      reading = λ e. subst (λ (s : State). IsReading (longest c.args.limits s) client.reader) (sym c.requires)
          (subst (λ (s : State). IsReading (longest client.core.limits s) client.reader) c.requires (client.reading e));
      short = client.short;
    }
