-- A name that is too many is one of the names (`name_among`); one that is not leaves none before the next place (`none_up_to`).
use Rattle.std.proofs.Common.{Bool, sym, subst, ◌∙◌, arith}
use Rattle.zk_nodes.specs.Path.{Name}
use Rattle.zk_turns.specs.Meaning.{Among}
use Rattle.zk_conclusions.proofs.Places.{none_up_to}
use Rattle.zk_conclusions.proofs.Later.{name_among}
use Rattle.zk_contend.specs.Settling.{is_surplus}
use Rattle.zk_contend.specs.inner.Abouts.{IsSurplusOf}
use Rattle.zk_contend.proofs.settled.surplus_of.Goals as goal

pub returns-then-is_given_up-clause-some : goal.returns-then-is_given_up-clause-some
returns-then-is_given_up-clause-some g c =
    subst (λ (b : Bool). IsSurplusOf c.args.names.now c.args.tagged.now.tag.now c.args.tagged.now.least.now b c.least.result.now)
    (sym c.if-is_given_up.true) c.least.ensures

pub returns-then-is_surplus-clause-some : goal.returns-then-is_surplus-clause-some
returns-then-is_surplus-clause-some g c =
    subst (λ (b : Bool). IsSurplusOf c.args.names.now c.args.tagged.now.tag.now c.args.tagged.now.least.now b c.name_at-name.result.now)
    (sym c.if-is_given_up.false) (
      subst (λ (n : Name). Among n c.args.names.now) (sym c.name_at-name.ensures)
          (name_among c.args.names.now c.loop-place.place (omega (arith, c.loop-place-test.true, c.len-place-end.ensures))),
      sym c.is_surplus.ensures ∙ c.if-is_surplus.true,
    )

pub loop-place-preserved : goal.loop-place-preserved
loop-place-preserved g c =
    none_up_to (is_surplus c.args.tagged.now.tag.now c.args.tagged.now.least.now) c.args.names.now c.loop-place.place
    c.name_at-name.result.now (omega (arith, c.loop-place-test.true, c.len-place-end.ensures)) c.name_at-name.ensures
    c.loop-place.invariant (sym c.is_surplus.ensures ∙ c.if-is_surplus.false)
