-- Zxids rise, so the versions up to a zxid come first (`lower_passes`) and the point found parts them from the others: none is before it
-- (`version_at-none`), or the last one up to the zxid is right before it (`version_at-point`).
use Rattle.std.proofs.Common.{rules, of_calls, ◌≡◌, ◌+◌, ◌-◌, nat_le, None, sym, arith}
use Rattle.std.proofs.lemmas.Bool.Decides.{nat_tests}
use Rattle.std.proofs.lemmas.Fn.{always_returns_same}
use Rattle.zk_history.specs.declared.version.Version.{Version}
use Rattle.zk_history.proofs.VersionsLemmas.{lower_passes, version_at-none, version_at-point}
use Rattle.zk_history.proofs.versions.last_up_to.Goals as goal

pub returns-then-count-eq0 : goal.returns-then-count-eq0
returns-then-count-eq0 c =
    let vs = c.args.versions.now in
    let none : c.partition_point-count.result ≡ 0 = grind (arith, nat_tests) in
    let point = c.partition_point-count.ensures.partitioned (λ (v : Version). nat_le v.zxid c.args.z)
    (always_returns_same _ _ _ (λ a r f k. search (rules, of_calls)))
    (λ i j d l m up. lower_passes 0 c.requires.0 c.args.z vs i j d c.requires.1 l m up) in
    sym (version_at-none c.args.z vs None (λ i d l. point.1 i d (omega (arith, none)) l))

pub returns-else-count-eq0 : goal.returns-else-count-eq0
returns-else-count-eq0 c =
    let vs = c.args.versions.now in
    let k = c.partition_point-count.result - 1 in
    let some : (c.partition_point-count.result - 1) + 1 ≡ c.partition_point-count.result = grind (arith, nat_tests) in
    let bound = c.partition_point-count.ensures.bound in
    let point = c.partition_point-count.ensures.partitioned (λ (v : Version). nat_le v.zxid c.args.z)
    (always_returns_same _ _ _ (λ a r f k. search (rules, of_calls)))
    (λ i j d l m up. lower_passes 0 c.requires.0 c.args.z vs i j d c.requires.1 l m up) in
    sym (version_at-point c.args.z k vs None _ (omega (arith, some, bound)) (λ i d l. point.0 i d (omega arith) (omega (arith, some, l)))
    (λ i d l m. point.1 i d (omega (arith, some, l)) m))
