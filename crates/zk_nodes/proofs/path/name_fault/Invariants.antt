-- Scanning the bytes that are left, with the name's length and dots so far, gives the first fault of all names; at the end none is left,
-- and what the scan then tells is the answer.
use Rattle.std.proofs.Common.{◌≡◌, ◌≤◌, drop}
use Rattle.zk_nodes.specs.Path.{path_of}
use Rattle.zk_nodes.specs.PathFault.{fault_of_names}
use Rattle.zk_nodes.proofs.PathLemmas.{scan}
use Rattle.zk_nodes.proofs.path.name_fault.Given as goal

abbrev pub invariant-loop-b : goal.invariant-loop-b
invariant-loop-b l = record {
  short : l.length ≤ l.b-index;
  rest : scan l.length l.dots l.dotted (drop l.b-index l.b-items) ≡ fault_of_names (path_of l.fn.text);
}
