-- Plain bytes that begin with a slash are ASCII, by `is_ascii-plain`, and have no fault, by `fault_of-plain`.
use Rattle.std.proofs.Common.{◌≡◌, length, rules, arith}
use Rattle.zk_nodes.proofs.PlainLemmas.{fault_of-plain, is_ascii-plain}
use Rattle.zk_nodes.proofs.path.is_plain_path.Goals as goal

pub returns-then-bytes-eq47-clause-ascii : goal.returns-then-bytes-eq47-clause-ascii
returns-then-bytes-eq47-clause-ascii c =
    let some : length c.args.bytes.now ≡ 0 → ⊥ = search rules in
    λ yes. is_ascii-plain c.args.bytes.now (omega (arith, some)) (search rules) (c.is_plain.ensures yes)

pub returns-then-bytes-eq47-clause-path : goal.returns-then-bytes-eq47-clause-path
returns-then-bytes-eq47-clause-path c =
    λ yes. fault_of-plain c.args.bytes.now (search rules) (omega arith) (search rules) (c.is_plain.ensures yes)
