-- A rival before `own` is one of the names (`one_at`); a name that is none leaves none before the next place (`none_up_to`).
use Rattle.std.proofs.Common.{◌&&◌, sym, ◌∙◌, arith}
use Rattle.zk_conclusions.specs.Kinds.{kind_of}
use Rattle.zk_conclusions.specs.Numbers.{is_before, is_rival}
use Rattle.zk_conclusions.proofs.Places.{none_up_to, one_at}
use Rattle.zk_conclusions.proofs.before.has_before.Goals as goal

pub returns-then-stands_before : goal.returns-then-stands_before
returns-then-stands_before g c =
    sym (one_at (λ name. is_rival (kind_of c.args.kind.now) name && is_before name c.args.own.now) c.args.names.now c.loop-place.place
    c.name_at.result.now (omega (arith, c.loop-place-test.true, c.len-place-end.ensures)) c.name_at.ensures
    (sym c.stands_before.ensures ∙ c.if-stands_before.true))

pub loop-place-preserved : goal.loop-place-preserved
loop-place-preserved g c =
    none_up_to (λ name. is_rival (kind_of c.args.kind.now) name && is_before name c.args.own.now) c.args.names.now c.loop-place.place
    c.name_at.result.now (omega (arith, c.loop-place-test.true, c.len-place-end.ensures)) c.name_at.ensures c.loop-place.invariant
    (sym c.stands_before.ensures ∙ c.if-stands_before.false)
