-- Who has heard all, and is awake, has taken what was said: `taken_by`. Of others nothing is said, and none was refused: `unwoken`.
use Rattle.std.proofs.Common.{◌<◌, ◌∙◌, length, refl, subst, sym}
use Rattle.std.specs.Prelude.{All}
use Rattle.std.proofs.lemmas.Bool.Decides.{Decides-eqb}
use Rattle.zk_client.specs.Views.{said}
use Rattle.zk_follow.proofs.Taking.{none_taken, taken_but, taken_by, unwoken}
use Rattle.zk_follow.proofs.heard.take_all.Goals as goal

pub wake_each-requires-clause-below : goal.wake_each-requires-clause-below
wake_each-requires-clause-below g c =
    subst (λ n. All (λ at. at < n) c.args.places.now) (sym c.hear_all.auto.subjects) c.requires.below

pub wake_each-requires-clause-rest : goal.wake_each-requires-clause-rest
wake_each-requires-clause-rest g c =
    unwoken c.args.now (said c.args.outputs.now) c.args.subjects.now c.hear_all.new.subjects c.args.places.now c.in_ok-hear_all.ensures
    c.requires.rest

pub returns-clause-heard : goal.returns-clause-heard
returns-clause-heard g c =
    taken_by c.args.now (said c.args.outputs.now) c.args.subjects.now c.hear_all.new.subjects c.wake_each.new.subjects
    c.in_ok-hear_all.ensures c.wake_each.ensures

pub returns-clause-left : goal.returns-clause-left
returns-clause-left g c =
    taken_but c.args.now (said c.args.outputs.now) c.args.subjects.now c.wake_each.new.subjects c.args.places.now
    (taken_by c.args.now (said c.args.outputs.now) c.args.subjects.now c.hear_all.new.subjects c.wake_each.new.subjects
    c.in_ok-hear_all.ensures c.wake_each.ensures)
    c.requires.rest

pub returns-then-is_empty-clause-heard : goal.returns-then-is_empty-clause-heard
returns-then-is_empty-clause-heard g c =
    none_taken c.args.now (said c.args.outputs.now) c.args.subjects.now c.args.places.now
    ((Decides-eqb (length c.args.places.now) 0).0 (sym c.is_empty.ensures ∙ c.if-is_empty.true)) c.requires.rest

pub returns-then-is_empty-clause-left : goal.returns-then-is_empty-clause-left
returns-then-is_empty-clause-left g c = λ k d none. refl
