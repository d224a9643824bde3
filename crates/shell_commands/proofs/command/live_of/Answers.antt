-- The command of `live` has the addresses that are given: by what `addresses_of` ensures.
use Rattle.std.proofs.Common.{refl}
use Rattle.shell_commands.proofs.command.live_of.Goals as goal

pub returns-clause-ok : goal.returns-clause-ok
returns-clause-ok c = (c.in_ok-addresses.addresses, refl, c.in_ok-addresses.ensures.ok)
