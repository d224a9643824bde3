-- Bytes that are read spell the session (`found_saved`), and bytes that spell one are read, unless memory runs out (`only_saved`).
use Rattle.std.proofs.Common.{arith}
use Rattle.zk_jute.specs.Spelling.{IsBytes}
use Rattle.zk_client.proofs.PuttingAway.{only_saved, found_saved}
use Rattle.zk_client.proofs.saved_session.SavedSession.from_bytes.Goals as goal

pub returns-clause-found : goal.returns-clause-found
returns-clause-found g c =
    let fits : IsBytes c.args.bytes.now = λ i. let f = c.type_inv.bytes i in omega arith in
    found_saved c.args.bytes.now c.read.result fits c.read.ensures

pub returns-clause-only : goal.returns-clause-only
returns-clause-only g c value can e = only_saved value c.args.bytes.now c.read.result can e c.read.ensures
