-- Why something is not done: a node whose Stat tells children has some, and where memory ran out the connection is given up.
use Rattle.std.proofs.Common.{◌≡◌, ◌<◌, ℕ, zero, suc, pos, Option, Some, None, refl, sym, subst, arith}
use Rattle.std.specs.Prelude.{Ok, Err, option_map}
use Rattle.std.specs.Result.{IsErrAnd}
use Rattle.zk_nodes.specs.History.{Node}
use Rattle.zk_nodes.specs.declared.stat.Stat.{Stat}
use Rattle.zk_history.specs.Shown.{stat_of}
use Rattle.zk_bench.specs.Served.{Served}
use Rattle.ffi_server.specs.Moves.{Done, GaveUp, Processes, timed}
use Rattle.ffi_server.specs.declared.undone.Undone.{Undone}
use Rattle.ffi_server.specs.declared.undone.Undone.TheVariants.{Memory}

-- Where a Stat tells children, there are some.
pub has_children : (node : Option Node) (count : ℕ) (stat : Stat) → Some stat ≡ option_map (stat_of count) node
    → (stat.num_children ≡ pos 0 → ⊥) → 0 < count
has_children None count stat is some = absurd cc
has_children (Some node) zero stat is some = absurd (some (cc))
has_children (Some node) (suc count) stat is some = omega arith

-- where memory ran out, the connection is given up
pub gives_up : (done : Done) (now : ℕ) (before after : Served) → IsErrAnd done (λ why. why ≡ Memory) → GaveUp (timed now before) after
    → Processes now before done after
gives_up (Ok done) now before after is gone = absurd is
gives_up (Err why) now before after is gone = subst (λ (w : Undone). Processes now before (Err w) after) (sym is) (refl, gone)
