-- Loop over the bytes: texts read and bytes left are all bytes, and `are_paths` is whether those are paths; at the end, whether all are.
use Rattle.std.proofs.Common.{length}
use Rattle.zk_jute.specs.Cursor.{bytes_left}
use Rattle.ffi_device.proofs.ReadTexts.{Read}
use Rattle.ffi_device.proofs.spelled_paths.check_paths.Given as goal

-- what was read and what is left make up the whole
abbrev pub invariant-loop-at : goal.invariant-loop-at
invariant-loop-at l = Read l.spelled (bytes_left l.at) l.are_paths

abbrev pub decreases-loop-at : goal.decreases-loop-at
decreases-loop-at l = length (bytes_left l.at)
