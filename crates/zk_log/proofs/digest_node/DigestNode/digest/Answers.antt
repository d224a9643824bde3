-- By `digest_is`: the CRC goes on from field to field; and what it is of the whole, by `whole_is`.
use Rattle.std.proofs.Common.{◌≡◌, true, rules, ◌∙◌}
use Rattle.zk_log.proofs.CrcLaws.{digest_is, whole_is, long_passed, int_passed}
use Rattle.zk_log.proofs.digest_node.DigestNode.digest.Goals as goal

pub returns-clause-kept : goal.returns-clause-kept
returns-clause-kept c =
    let counted : c.args.self.now.counts ≡ true = search rules in
    digest_is c.args.self.now _ _ _ _ _ _ _ _ _ counted
    (long_passed c.args.self.now.czxid _ _ (search rules) c.long_after-czxid.ensures)
    (long_passed c.args.self.now.mzxid _ _ (search rules) c.long_after-mzxid.ensures)
    (long_passed c.args.self.now.pzxid _ _ (search rules) c.long_after-pzxid.ensures)
    (long_passed c.args.self.now.ctime _ _ (search rules) c.long_after-ctime.ensures)
    (long_passed c.args.self.now.mtime _ _ (search rules) c.long_after-mtime.ensures)
    (int_passed c.args.self.now.version _ _ (search rules) c.int_after-version.ensures)
    (int_passed c.args.self.now.cversion _ _ (search rules) c.int_after-cversion.ensures)
    (int_passed c.args.self.now.aversion _ _ (search rules) c.int_after-aversion.ensures)
    (long_passed c.args.self.now.owner _ _ (search rules) c.long_after.ensures)

pub returns-clause-whole : goal.returns-clause-whole
returns-clause-whole c = λ path content counted head. returns-clause-kept c ∙ whole_is c.args.self.now path content counted head
