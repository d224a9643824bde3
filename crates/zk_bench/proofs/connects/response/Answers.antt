-- The answer to a ConnectRequest has the timeout that was given, and with sixteen bytes of password it can be told, by `response_fits`.
use Rattle.std.proofs.Common.{ℕ, refl, rules, ap, sym, subst, length, ◌≡◌, to_z, of_z, w32, w64}
use Rattle.std.specs.Prelude.{FitsSigned}
use Rattle.zk_bench.proofs.Staying.{response_fits}
use Rattle.zk_bench.proofs.connects.response.Goals as goal

pub returns : goal.returns
returns g c =
    let timeout : to_z w32 (of_z w32 c.args.time_out) ≡ c.args.time_out = search rules in
    let session : to_z w64 (of_z w64 c.args.session_id) ≡ c.args.session_id = search rules in (
      timeout,
      refl,
      response_fits _ _ _ _ (subst (FitsSigned w32) (sym timeout) c.ranges.time_out)
          (subst (FitsSigned w64) (sym session) c.ranges.session_id) c.new.ensures (ap (length {A = ℕ}) c.in_ok-passwd.ensures.items),
    )
