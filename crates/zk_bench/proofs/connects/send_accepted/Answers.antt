-- An answer with a timeout above 0 and no readOnly byte is the message that the client is accepted, by `accepts_so`.
use Rattle.std.proofs.Common.{rules, ap, pos, ◌∙◌, ◌≡◌, to_z, of_z, w32}
use Rattle.std.specs.Prelude.{int_lt}
use Rattle.zk_records.specs.Views.{response_of}
use Rattle.zk_bench.proofs.Admitted.{accepts_so}
use Rattle.zk_bench.proofs.Stepped.{ok_so}
use Rattle.zk_bench.proofs.connects.send_accepted.Goals as goal

pub returns-clause-sends : goal.returns-clause-sends
returns-clause-sends g c = λ up.
    let same : to_z w32 (of_z w32 c.args.time_out) ≡ c.args.time_out = search rules in
    ok_so c.send_response.result _ _ c.send_response.ensures.sends
    (λ sends. accepts_so (response_of c.in_ok-response.response) c.args.out.now.items c.send_response.new.out.items
    sends c.in_ok-response.ensures.1 (ap (int_lt (pos 0)) (c.in_ok-response.ensures.0 ∙ same) ∙ up))
