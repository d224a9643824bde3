-- A name with the tag and before `own` is one of the names (`one_at`); one that is not leaves none before the next place (`none_up_to`).
use Rattle.std.proofs.Common.{◌&&◌, sym, ◌∙◌, arith}
use Rattle.zk_conclusions.specs.Numbers.{is_before}
use Rattle.zk_conclusions.specs.Tags.{has_tag}
use Rattle.zk_conclusions.proofs.Places.{none_up_to, one_at}
use Rattle.zk_conclusions.proofs.tagged.has_tagged_before.Goals as goal

pub returns-then-is_tagged_before : goal.returns-then-is_tagged_before
returns-then-is_tagged_before g c =
    sym (one_at (λ name. has_tag c.args.tag.now name && is_before name c.args.own.now) c.args.names.now c.loop-place.place
    c.name_at.result.now (omega (arith, c.loop-place-test.true, c.len-place-end.ensures)) c.name_at.ensures
    (sym c.is_tagged_before.ensures ∙ c.if-is_tagged_before.true))

pub loop-place-preserved : goal.loop-place-preserved
loop-place-preserved g c =
    none_up_to (λ name. has_tag c.args.tag.now name && is_before name c.args.own.now) c.args.names.now c.loop-place.place
    c.name_at.result.now (omega (arith, c.loop-place-test.true, c.len-place-end.ensures)) c.name_at.ensures c.loop-place.invariant
    (sym c.is_tagged_before.ensures ∙ c.if-is_tagged_before.false)
