-- A path fits a frame, by `made_fits`, so the answer with it ends no connection, by what `send_result` ensures.
use Rattle.std.proofs.lemmas.Str.{is_utf8-from_IsUtf8}
use Rattle.zk_bench.proofs.Staying.{made_fits}
use Rattle.zk_bench.proofs.bench.Bench.send_created.Goals as goal

pub returns-clause-stays : goal.returns-clause-stays
returns-clause-stays g c =
    λ is. c.send_result.ensures.stays (made_fits c.args.text.now is (is_utf8-from_IsUtf8 c.args.text.now c.utf8.text))
