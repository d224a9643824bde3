-- Where all are moved, none is lost: `all_moved_to`. Where none is, by no output any may have become good.
use Rattle.std.proofs.Common.{◌≡◌, ◌∙◌, ◌||◌, Bool, refl, subst, sym, true, false}
use Rattle.zk_follow.specs.Following.{is_among}
use Rattle.zk_follow.proofs.Moving.{all_moved_to}
use Rattle.zk_follow.proofs.Rounds.{on_ok}
use Rattle.zk_follow.proofs.queue.stir.Goals as goal

pub returns-then-has_one_showing_any-clause-had : goal.returns-then-has_one_showing_any-clause-had
returns-then-has_one_showing_any-clause-had g c =
    on_ok c.pour.result (λ has at fits e. has at fits (all_moved_to at _ _ e)) c.pour.ensures

pub returns-then-has_one_showing_any-clause-kept : goal.returns-then-has_one_showing_any-clause-kept
returns-then-has_one_showing_any-clause-kept g c =
    on_ok c.pour.result (λ has at fits e. all_moved_to at _ _ (has at fits e)) c.pour.ensures

pub returns-then-has_one_showing_any-clause-stirred : goal.returns-then-has_one_showing_any-clause-stirred
returns-then-has_one_showing_any-clause-stirred g c = on_ok c.pour.result (λ has e. has) c.pour.ensures

pub returns-then-is_long-clause-had : goal.returns-then-is_long-clause-had
returns-then-is_long-clause-had g c =
    on_ok c.pour-then-is_long.result (λ has at fits e. has at fits (all_moved_to at _ _ e)) c.pour-then-is_long.ensures

pub returns-then-is_long-clause-kept : goal.returns-then-is_long-clause-kept
returns-then-is_long-clause-kept g c =
    on_ok c.pour-then-is_long.result (λ has at fits e. all_moved_to at _ _ (has at fits e)) c.pour-then-is_long.ensures

pub returns-then-is_long-clause-stirred : goal.returns-then-is_long-clause-stirred
returns-then-is_long-clause-stirred g c = on_ok c.pour-then-is_long.result (λ has e. has) c.pour-then-is_long.ensures

pub returns-clause-stirred : goal.returns-clause-stirred
returns-clause-stirred g c = λ e. absurd (
    let t : true ≡ false = sym e ∙ sym c.has_one_showing_any.ensures ∙ c.if-has_one_showing_any.false in
    cc
    )

or_none : (b : Bool) → (b || false) ≡ true → b ≡ true
or_none true e = refl
or_none false e = e

pub returns-then-is_unused-clause-stirred : goal.returns-then-is_unused-clause-stirred
returns-then-is_unused-clause-stirred g c = λ e at fits has.
    let awake = is_among at c.args.awake.now.items in
    or_none awake (subst (λ its. (awake || is_among at its) ≡ true) (c.is_unused.ensures c.if-is_unused.true) has)
