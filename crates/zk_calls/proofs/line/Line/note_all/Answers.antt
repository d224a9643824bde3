-- All calls count as handed over, as none of them waits for its turn: `none_passes`, and arithmetic on the length.
use Rattle.std.proofs.Common.{arith}
use Rattle.zk_calls.specs.Lines.{waits_turn}
use Rattle.zk_calls.proofs.Places.{none_passes}
use Rattle.zk_calls.proofs.line.Line.note_all.Goals as goal

pub invariant_of-self-clause-first_ones : goal.invariant_of-self-clause-first_ones
invariant_of-self-clause-first_ones g c = (
  omega (arith, c.len-self.ensures, c.args.self.now.entries.ok.0),
  λ k d below. none_passes waits_turn c.args.self.now.entries.items c.requires k d
      (omega (arith, below, c.len-self.ensures, c.args.self.now.entries.ok.0)),
)
