-- A node refused as `NotEmpty` has a child: its Stat counts the names below it, and a count other than 0 is of some (`has_children`).
use Rattle.std.proofs.Common.{arith}
use Rattle.std.proofs.lemmas.Int.{ints}
use Rattle.std.specs.FinSet as set
use Rattle.zk_nodes.specs.Path.{path_of}
use Rattle.ffi_server.specs.Refused.{tree_now}
use Rattle.ffi_server.proofs.Refusing.{has_children}
use Rattle.ffi_server.proofs.admitted.admit_deletion.Goals as goal

pub returns-then-stat-ne0-clause-refused : goal.returns-then-stat-ne0-clause-refused
returns-then-stat-ne0-clause-refused c = λ names has.
    has_children (tree_now c.args.history.now (path_of c.args.path.now)) (set.len names) c.in-Some.stat
    (c.in-Some.ensures.counted names has) (λ none. omega (arith, ints))
