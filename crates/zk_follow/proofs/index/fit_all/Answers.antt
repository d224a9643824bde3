-- One more place is there, and those that were; what was quiet stays so, and what is new is awake: `awake_new`. Where the index is of all,
-- it has a bucket, since some place is in it: `sized_by`.
use Rattle.std.proofs.Common.{◌≡◌, ◌∙◌, ◌++◌, ap, arith, length, rules, sym, subst}
use Rattle.zk_follow.specs.Following.{is_among, is_quiet, is_still, AreQuietBut, AreStillBut}
use Rattle.zk_follow.proofs.Finding.{awake_new, woken_more}
use Rattle.zk_follow.proofs.Sized.{sized_by}
use Rattle.zk_follow.proofs.Placing.{among_before}
use Rattle.zk_follow.proofs.Still.{among_first, among_left}
use Rattle.zk_follow.proofs.index.fit_all.Goals as goal

pub loop-place-preserved : goal.loop-place-preserved
loop-place-preserved g c = record {
  had = λ at e. ap (is_among at) c.in_ok-push.ensures.items
      ∙ among_before at c.loop-place.place c.loop-place.awake.items (c.loop-place.invariant.had at e);
  woken = λ at above below. ap (is_among at) c.in_ok-push.ensures.items
      ∙ woken_more at c.loop-place.place c.loop-place.awake.items (c.loop-place.invariant.woken at above) below;
}

pub returns-clause-still : goal.returns-clause-still
returns-clause-still g c = λ view still.
    awake_new (is_still view) c.count-known.result c.fit.new.self.count c.args.subjects.now c.args.awake.now.items c.loop-place.awake.items
    c.loop-place.invariant.had
    (λ at above below. c.loop-place.invariant.woken at above (omega (arith, below, c.loop-place-test.false, c.in_ok-fit.ensures.count)))
    (subst (λ n. AreStillBut view n c.args.subjects.now c.args.awake.now.items) (sym c.count-known.ensures) still)

pub returns-clause-rest : goal.returns-clause-rest
returns-clause-rest g c = λ view waiting quiet.
    let old = c.args.awake.now.items in
    let new = c.loop-place.awake.items in
    awake_new (is_quiet view) c.count-known.result c.fit.new.self.count c.args.subjects.now (old ++ waiting) (new ++ waiting)
    (λ at e. among_first at old new waiting (c.loop-place.invariant.had at) e)
    (λ at above below. among_left at new waiting
    (c.loop-place.invariant.woken at above (omega (arith, below, c.loop-place-test.false, c.in_ok-fit.ensures.count))))
    (subst (λ n. AreQuietBut view n c.args.subjects.now (old ++ waiting)) (sym c.count-known.ensures) quiet)

pub returns-then-known-subjects-clause-sized : goal.returns-then-known-subjects-clause-sized
returns-then-known-subjects-clause-sized g c =
    let whole : c.args.index.now.count ≡ length c.args.subjects.now = search rules in
    sized_by c.args.index.now c.args.subjects.now c.requires.found c.requires.some whole

pub returns-then-known-subjects-clause-still : goal.returns-then-known-subjects-clause-still
returns-then-known-subjects-clause-still g c = λ view still. still

pub returns-then-known-subjects-clause-rest : goal.returns-then-known-subjects-clause-rest
returns-then-known-subjects-clause-rest g c = λ view waiting quiet. quiet
