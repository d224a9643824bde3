-- Why a read was refused, by the case of the refusal: rewritten with it, the members are what `put_code` or `put_coded` ensures.
use Rattle.std.proofs.Common.{rules}
use Rattle.shell_watch.proofs.turn_object.put_why.Goals as goal

pub returns-in-TooManyWatches : goal.returns-in-TooManyWatches
returns-in-TooManyWatches g c = rw c.in-TooManyWatches.is (search rules)

pub returns-in-TooLarge : goal.returns-in-TooLarge
returns-in-TooLarge g c = rw c.in-TooLarge.is (search rules)

pub returns-in-SessionClosed : goal.returns-in-SessionClosed
returns-in-SessionClosed g c = rw c.in-SessionClosed.is (search rules)

pub returns-in-Code : goal.returns-in-Code
returns-in-Code g c = rw c.in-Code.is (search rules)
