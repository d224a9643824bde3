-- The part of setWatches that stands next may be set again: `restores`, as the payloads spell its notices and then the reply.
use Rattle.theory_rules.proofs.Taking.{restores}
use Rattle.theory_rules.proofs.parts_are_set.Goals as goal

pub returns : goal.returns
returns c = record {
  restores = λ h start entries is_last relative part xid sent zxid err behind a all tells can.
      restores h start entries is_last relative part xid sent zxid err behind a all tells can;
}
