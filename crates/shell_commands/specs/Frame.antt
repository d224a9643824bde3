-- The payload of one whole frame, and what is wrong if there is none.
use Rattle.std.specs.Prelude.{ℕ, ℤ, pos, negsuc, List, length, Result, Ok, Err, nat_lt, if◌then◌else◌}
use Rattle.zk_jute.specs.declared.fault.TakeError.{TakeError}
use Rattle.zk_jute.specs.Layout.{int}
use Rattle.zk_jute.specs.Reading.{reading}
use Rattle.shell_commands.specs.declared.fault.ShowFault.{ShowFault}
use Rattle.shell_commands.specs.declared.fault.ShowFault.TheVariants.{Incomplete, Negative, TooLong, BytesAfter}
use Rattle.zk_limits.specs.declared.limits.TheConstants.{LONGEST_INCOMING}

-- the bytes after a length, which are to be as many as it says
abbrev pub payload_behind : ℤ → List ℕ → Result (List ℕ) ShowFault
payload_behind (negsuc n) bytes = Err Negative
payload_behind (pos n) bytes =
    if nat_lt LONGEST_INCOMING n then Err TooLong
    else if nat_lt (length bytes) n then Err Incomplete
    else if nat_lt n (length bytes) then Err BytesAfter
    else Ok bytes

abbrev pub payload_from : Result (ℤ × List ℕ) TakeError → Result (List ℕ) ShowFault
payload_from (Ok found) = payload_behind found.0 found.1
payload_from (Err e) = Err Incomplete

unfoldable pub payload_of : List ℕ → Result (List ℕ) ShowFault
payload_of frame = payload_from (reading int (length frame) frame)
