-- The loop over the bytes: those that are left may follow the label so far where all may begin a name.
use Rattle.std.proofs.Common.{◌≡◌, drop}
use Rattle.shell_commands.specs.Hosts.{are_labels}
use Rattle.shell_commands.proofs.host_name.are_labels.Given as goal

-- whether those that are left are labels is whether all are
abbrev pub invariant-loop-byte : goal.invariant-loop-byte
invariant-loop-byte l = are_labels l.length (drop l.byte-index l.bytes) ≡ are_labels 0 l.bytes
