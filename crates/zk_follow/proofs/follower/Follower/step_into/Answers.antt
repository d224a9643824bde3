-- The slice of all subjects is written back.
use Rattle.std.proofs.Common.{◌≡◌, ◌∙◌, ◌++◌, ap, arith, drop, false, length, sym, subst}
use Rattle.std.specs.List.{All}
use Rattle.zk_client.specs.Clients.{view_of}
use Rattle.zk_client.specs.Views.{input_view, said}
use Rattle.zk_follow.specs.Following.{AreFollowed, IsAhead, IsCounted, Steps}
use Rattle.zk_follow.specs.Following.{AreQuietBut, AreStillBut}
use Rattle.zk_follow.specs.Owning.{AreOwn}
use Rattle.zk_follow.specs.Places.{AreFound}
use Rattle.zk_follow.proofs.Owned.{own_step}
use Rattle.zk_follow.proofs.Visiting.{whole_written, written_back}
use Rattle.zk_follow.proofs.follower.Follower.step_into.Goals as goal

pub returns-in-Ok-clause-followed : goal.returns-in-Ok-clause-followed
returns-in-Ok-clause-followed g c =
    let size : c.args.self.now.subjects.len ≡ length c.advance.new.subjects =
    omega (arith, c.advance.auto.subjects, c.as_mut_slice-subjects.ensures.len) in
    subst (AreFollowed c.args.now (view_of c.advance.new.client)) (sym (whole_written c.args.self.now.subjects.len c.advance.new.subjects
    (drop (length c.advance.new.subjects) c.args.self.now.subjects.items) size)) c.in-Ok.ensures.followed

pub returns-in-Ok-clause-ahead : goal.returns-in-Ok-clause-ahead
returns-in-Ok-clause-ahead g c =
    let size : c.args.self.now.subjects.len ≡ length c.advance.new.subjects =
    omega (arith, c.advance.auto.subjects, c.as_mut_slice-subjects.ensures.len) in
    written_back (λ subject. IsAhead c.args.now subject.progress) c.args.self.now.subjects.len c.advance.new.subjects
    (drop (length c.advance.new.subjects) c.args.self.now.subjects.items) size c.in-Ok.ensures.ahead

pub returns-in-Ok-clause-steps : goal.returns-in-Ok-clause-steps
returns-in-Ok-clause-steps g c =
    let size : c.args.self.now.subjects.len ≡ length c.advance.new.subjects =
    omega (arith, c.advance.auto.subjects, c.as_mut_slice-subjects.ensures.len) in
    let old = view_of c.args.self.now.client in
    let input = input_view c.args.input in
    let given = said c.advance.new.outputs.items in
    subst (Steps c.args.now old input c.args.self.now.subjects.items (view_of c.advance.new.client) given)
    (sym (whole_written c.args.self.now.subjects.len c.advance.new.subjects
    (drop (length c.advance.new.subjects) c.args.self.now.subjects.items) size))
    (subst (λ before. Steps c.args.now old input before (view_of c.advance.new.client) given c.advance.new.subjects)
    c.as_mut_slice-subjects.ensures.value c.in-Ok.ensures.steps)

pub invariant_of-self : goal.invariant_of-self
invariant_of-self g c =
    let size : c.args.self.now.subjects.len ≡ length c.advance.new.subjects =
    omega (arith, c.advance.auto.subjects, c.as_mut_slice-subjects.ensures.len) in
    let view = view_of c.advance.new.client in
    let whole = whole_written c.args.self.now.subjects.len c.advance.new.subjects
    (drop (length c.advance.new.subjects) c.args.self.now.subjects.items) size in
    let old = view_of c.args.self.now.client in
    let input = input_view c.args.input in
    let given = said c.advance.new.outputs.items in
    let items = c.args.self.now.subjects.items in
    let steps = subst (λ before. Steps c.args.now old input before view given c.advance.new.subjects)
    c.as_mut_slice-subjects.ensures.value c.in-Ok.ensures.steps in
    let own : c.may_be_foreign-is_foreign.result ≡ false → AreOwn c.advance.new.subjects view.pending = λ going.
    own_step c.args.now old input items view given c.advance.new.subjects steps
    (c.advance.auto.subjects ∙ ap length c.as_mut_slice-subjects.ensures.value)
    (c.may_be_foreign-is_foreign.ensures.input going) (c.args.self.now.own (c.may_be_foreign-is_foreign.ensures.before going)) in
    record {
      counted = written_back (IsCounted view) c.args.self.now.subjects.len c.advance.new.subjects
          (drop (length c.advance.new.subjects) c.args.self.now.subjects.items) size c.in-Ok.ensures.counted;
      found = subst (AreFound c.advance.new.index) (sym whole) c.in-Ok.ensures.found;
      still = subst (λ subjects. AreStillBut view c.advance.new.index.count subjects c.advance.new.awake.items) (sym whole)
          c.in-Ok.ensures.still;
      rest = subst (λ subjects. AreQuietBut view c.advance.new.index.count subjects
          (c.advance.new.awake.items ++ c.advance.new.waiting.items)) (sym whole) c.in-Ok.ensures.rest;
      own = λ still. subst (λ subjects. AreOwn subjects view.pending) (sym whole)
          (c.is_foreign_still-self.ensures c.advance.new.subjects own still);
    }

pub returns-in-Err-clause-broke : goal.returns-in-Err-clause-broke
returns-in-Err-clause-broke g c = c.in-Err.ensures.broke

pub advance-requires-clause-counted : goal.advance-requires-clause-counted
advance-requires-clause-counted g c =
    subst (All (IsCounted (view_of c.args.self.now.client))) (sym c.as_mut_slice-subjects.ensures.value) c.args.self.now.counted

pub advance-requires-clause-own : goal.advance-requires-clause-own
advance-requires-clause-own g c = λ going.
    subst (λ all. AreOwn all (view_of c.args.self.now.client).pending) (sym c.as_mut_slice-subjects.ensures.value)
    (c.args.self.now.own (c.may_be_foreign-is_foreign.ensures.before going))
