-- Flags from 0 to 3 have a mode, by `mode_there`: so the connection does not end for want of one.
use Rattle.std.proofs.Common.{rules, ◌≡◌, ◌∙◌, to_z, of_z, w32}
use Rattle.zk_bench.proofs.Called.{mode_there}
use Rattle.zk_bench.proofs.bench.Bench.mode_caught_up.Goals as goal

pub returns-in_default-clause-stays : goal.returns-in_default-clause-stays
returns-in_default-clause-stays g c = λ number flags low over.
    let ranged : to_z w32 (of_z w32 c.args.flags) ≡ c.args.flags = search rules in
    mode_there _ number low (ranged ∙ flags) c.in_default.ensures
