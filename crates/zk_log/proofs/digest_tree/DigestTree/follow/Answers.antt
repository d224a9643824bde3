-- By the operation: the parts of a multi, by `multi_as`; what is neither a multi nor a close without paths, by `rest_as`.
use Rattle.std.proofs.Common.{rules, w64, FitsSigned}
use Rattle.std.proofs.lemmas.Result.{on_ok_weaker}
use Rattle.zk_log.specs.Following.{owned}
use Rattle.zk_log.proofs.FollowLaws.{through, same_stamp, multi_as, rest_as}
use Rattle.zk_log.proofs.digest_tree.DigestTree.follow.Goals as goal

pub returns-in-Multi : goal.returns-in-Multi
returns-in-Multi g c =
    let zxid : FitsSigned w64 c.args.entry.now.zxid = search rules in
    let time : FitsSigned w64 c.args.entry.now.time = search rules in
    let session : FitsSigned w64 c.args.entry.now.session = search rules in
    on_ok_weaker c.follow_parts.result
    (multi_as _ _ (owned c.args.entry.now.session c.args.self.now.nodes.entries) c.args.entry.now.txn c.in-Multi.parts
    c.or_empty.result.now _ _
    (same_stamp c.args.entry.now.zxid c.args.entry.now.time c.args.entry.now.session zxid time session) c.in-Multi.is c.or_empty.ensures)
    c.follow_parts.ensures

pub returns-in_default : goal.returns-in_default
returns-in_default g c =
    let zxid : FitsSigned w64 c.args.entry.now.zxid = search rules in
    let time : FitsSigned w64 c.args.entry.now.time = search rules in
    let session : FitsSigned w64 c.args.entry.now.session = search rules in
    through c.follow_txn.result c.map_err-in_default.result c.map_err-in_default.ensures.variant
    (rest_as _ _ (owned c.args.entry.now.session c.args.self.now.nodes.entries) c.args.entry.now.txn _ _
    (same_stamp c.args.entry.now.zxid c.args.entry.now.time c.args.entry.now.session zxid time session) c.in_default.not-Multi
    c.in_default.not-CloseSessionAlone)
    c.follow_txn.ensures
