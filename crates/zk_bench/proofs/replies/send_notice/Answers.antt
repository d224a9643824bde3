-- A notice of a path fits a frame, by `notice_fits`, so it ends no connection, by what `send_result` ensures.
use Rattle.std.proofs.Common.{rules}
use Rattle.std.proofs.lemmas.Str.{is_utf8-from_IsUtf8}
use Rattle.zk_bench.proofs.Staying.{notice_fits}
use Rattle.zk_bench.proofs.replies.send_notice.Goals as goal

pub returns-clause-stays : goal.returns-clause-stays
returns-clause-stays g c =
    λ is. c.send_result.ensures.stays (notice_fits _ c.args.path.now (search rules) is (is_utf8-from_IsUtf8 c.args.path.now c.utf8.path))
