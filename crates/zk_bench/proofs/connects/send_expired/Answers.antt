-- An answer with timeout 0 and no readOnly byte is the message that the session has expired, by `expires_so`.
use Rattle.std.proofs.Common.{ap, pos}
use Rattle.std.specs.Prelude.{int_lt}
use Rattle.zk_records.specs.Views.{response_of}
use Rattle.zk_bench.proofs.Admitted.{expires_so}
use Rattle.zk_bench.proofs.Stepped.{ok_so}
use Rattle.zk_bench.proofs.connects.send_expired.Goals as goal

pub returns-clause-sends : goal.returns-clause-sends
returns-clause-sends g c =
    ok_so c.send_response.result _ _ c.send_response.ensures.sends
    (λ sends. expires_so (response_of c.in_ok-response.response) c.args.out.now.items c.send_response.new.out.items
    sends c.in_ok-response.ensures.1 (ap (int_lt (pos 0)) c.in_ok-response.ensures.0))
