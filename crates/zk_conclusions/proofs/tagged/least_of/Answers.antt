-- A name that passes `is_least` is the least (`least_here`), one that doesn't leaves none found (`no_least_still`), and where none of all
-- is the least, none has the tag (`none_tagged`).
use Rattle.std.proofs.Common.{◌≡◌, ◌+◌, ◌≤◌, suc, true, length, sym, subst, arith}
use Rattle.zk_nodes.specs.Path.{Name}
use Rattle.zk_conclusions.specs.Standings.{IsFirstAmong}
use Rattle.zk_conclusions.specs.Tags.{IsLeastOf, has_tag}
use Rattle.zk_conclusions.proofs.Tags.{NoLeast, no_least_still, none_tagged, least_here}
use Rattle.zk_conclusions.proofs.tagged.least_of.Goals as goal

pub returns-then-is_least-clause-some : goal.returns-then-is_least-clause-some
returns-then-is_least-clause-some g c =
    let names = c.args.names.now in
    let lt : suc c.loop-place.place ≤ length names = omega (arith, c.loop-place-test.true, c.len-place-end.ensures) in
    subst (IsLeastOf names c.args.tag.now) (sym c.name_at-name.ensures)
    (least_here names c.args.tag.now c.loop-place.place lt
    (subst (λ (n : Name). (has_tag c.args.tag.now n ≡ true) × IsFirstAmong (has_tag c.args.tag.now) names n) c.name_at-name.ensures
    (c.is_least.ensures.0 c.if-is_least.true)))

pub loop-place-preserved : goal.loop-place-preserved
loop-place-preserved g c =
    let names = c.args.names.now in
    let lt : suc c.loop-place.place ≤ length names = omega (arith, c.loop-place-test.true, c.len-place-end.ensures) in
    let next : suc c.loop-place.place ≡ c.loop-place.place + 1 = omega arith in
    subst (NoLeast names c.args.tag.now) next (no_least_still names c.args.tag.now c.loop-place.place lt c.loop-place.invariant
    (λ least. (
    let k = c.is_least.ensures.1 (subst (λ (n : Name). (has_tag c.args.tag.now n ≡ true) × IsFirstAmong (has_tag c.args.tag.now) names n)
    (sym c.name_at-name.ensures) least) in
    let l = c.if-is_least.false in
    absurd cc)))

pub returns-clause-none : goal.returns-clause-none
returns-clause-none g c e =
    let end : length c.args.names.now ≤ c.loop-place.place = omega (arith, c.loop-place-test.false, c.len-place-end.ensures) in
    none_tagged c.args.names.now c.args.tag.now c.loop-place.place end c.loop-place.invariant
