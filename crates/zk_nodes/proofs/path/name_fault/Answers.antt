-- The loop begins after the first slash: scanning the bytes from there on gives the first fault of the names, by `scan-path_of`.
use Rattle.std.proofs.Common.{arith}
use Rattle.zk_nodes.proofs.PathLemmas.{scan-path_of}
use Rattle.zk_nodes.proofs.path.name_fault.Goals as goal

pub loop-b-init : goal.loop-b-init
loop-b-init c = record {
  short = omega arith;
  rest = scan-path_of c.args.text.now c.requires.slash c.if-text-eq1.false c.requires.some;
}
