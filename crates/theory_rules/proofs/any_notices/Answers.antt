-- Notices may come with any zxid, code and end, as each payload only has to tell its notice: `tells_of_changes`, `tells_of_parts`.
use Rattle.theory_rules.proofs.Taking.{tells_of_changes, tells_of_parts}
use Rattle.theory_rules.proofs.any_notices.Goals as goal

pub returns-clause-tells_of_changes : goal.returns-clause-tells_of_changes
returns-clause-tells_of_changes c h start entries stage sent payloads r on low all tells =
    tells_of_changes h start entries stage sent payloads r on low all tells

pub returns-clause-tells_of_parts : goal.returns-clause-tells_of_parts
returns-clause-tells_of_parts c h start entries is_last relative part xid sent payloads behind a all tells can =
    tells_of_parts h start entries is_last relative part xid sent payloads behind a all tells can
