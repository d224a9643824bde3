-- Loop over the requests: the type found so far and those left give what all give. With none left that type is the answer.
use Rattle.std.proofs.Common.{◌≡◌, drop, None}
use Rattle.script_stream.specs.Asked.{last_type}
use Rattle.script_stream.proofs.asked.last_type.Given as goal

-- what was found, with the requests that are left, is what all of them give
abbrev pub invariant-loop-header : goal.invariant-loop-header
invariant-loop-header l = last_type l.found (drop l.header-index l.asked) l.xid ≡ last_type None l.asked l.xid
