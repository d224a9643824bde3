-- The client stands after the moment and then what is given: `both` and `stands_behind`, from the rules of the two turns; and where the
-- second halts, `halts_behind`.
use Rattle.std.proofs.Common.{ap, Result, Ok, Err}
use Rattle.std.specs.Prelude.{OnErr}
use Rattle.zk_client.specs.Views.{said}
use Rattle.zk_client.specs.inner.Given.{given_view}
use Rattle.zk_client.proofs.Behind.{on_ok, both, stands_behind, halts_behind}
use Rattle.zk_client.proofs.client.Client.take_at.Goals as goal

on_err : {T E : Type 0} (r : Result T E) (P Q : Type 0) → OnErr r P → (P → Q) → OnErr r Q
on_err (Ok x) P Q is follows = tt
on_err (Err e) P Q is follows = follows is

pub returns-clause-rule : goal.returns-clause-rule
returns-clause-rule g c = on_ok c.apply-2.result _ _ c.apply-2.ensures.rule (λ takes.
    both c.args.now (given_view c.args.given) _ _ _ _ _ _ (ap said c.requires) c.in_ok-apply.ensures.rule takes)

pub returns-clause-stands : goal.returns-clause-stands
returns-clause-stands g c = on_ok c.apply-2.result _ _ c.apply-2.ensures.rule (λ takes start items s.
    stands_behind c.args.now (given_view c.args.given) _ _ _ _ _ _ (ap said c.requires) c.in_ok-apply.ensures.rule takes start items s)

pub returns-clause-halt : goal.returns-clause-halt
returns-clause-halt g c = on_err c.apply-2.result _ _ c.apply-2.ensures.halt (λ halts.
    halts_behind c.args.now _ _ _ _ _ c.in_ok-apply.ensures.rule halts)
