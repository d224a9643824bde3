-- A rival is one of the names (`one_is`); a name that is none leaves none before the next place (`none_more`).
use Rattle.std.proofs.Common.{sym, ◌∙◌, arith}
use Rattle.zk_conclusions.specs.inner.Holders.{is_rival}
use Rattle.zk_conclusions.proofs.Places.{is_there, none_more, one_is}
use Rattle.zk_conclusions.proofs.firsts.has_rival.Goals as goal

pub returns-in_default : goal.returns-in_default
returns-in_default g c =
    absurd (is_there c.args.names.now c.loop-at.at (omega (arith, c.loop-at-test.true, c.len-at-end.ensures.len)) c.in_default.ensures)

pub returns-then-is_rival : goal.returns-then-is_rival
returns-then-is_rival g c =
    sym (one_is (is_rival c.args.prefix.now c.args.own.now) c.args.names.now c.loop-at.at c.in-Some.name.now c.in-Some.ensures
    (sym c.is_rival.ensures ∙ c.if-is_rival.true))

pub loop-at-preserved : goal.loop-at-preserved
loop-at-preserved g c =
    none_more (is_rival c.args.prefix.now c.args.own.now) c.args.names.now c.loop-at.at c.in-Some.name.now c.in-Some.ensures
    c.loop-at.invariant (sym c.is_rival.ensures ∙ c.if-is_rival.false)
