-- The subjects are written back with what was told (`whole_written`), which changes nothing of whether they are counted: `All_changed`.
use Rattle.std.proofs.Common.{◌≡◌, ◌∙◌, ◌++◌, ap, arith, drop, length, map, subst, sym}
use Rattle.std.specs.Prelude.{All}
use Rattle.zk_client.specs.Clients.{view_of}
use Rattle.zk_follow.specs.Following.{told_of, IsCounted}
use Rattle.zk_follow.specs.Owning.{AreOwn}
use Rattle.zk_follow.proofs.Owned.{own_told}
use Rattle.zk_follow.proofs.Telling.{All_changed}
use Rattle.zk_follow.proofs.Visiting.{whole_written}
use Rattle.zk_follow.specs.Following.{AreQuietBut, AreStillBut}
use Rattle.zk_follow.specs.Places.{AreFound}
use Rattle.zk_follow.proofs.follower.Follower.report_all.Goals as goal

pub invariant_of-self : goal.invariant_of-self
invariant_of-self g c =
    let view = view_of c.args.self.now.client in
    let size : c.args.self.now.subjects.len ≡ length c.tell_all.new.subjects =
    omega (arith, c.tell_all.auto.subjects, c.as_mut_slice-subjects.ensures.len) in
    let whole =
    whole_written c.args.self.now.subjects.len c.tell_all.new.subjects
    (drop (length c.tell_all.new.subjects) c.args.self.now.subjects.items) size in
    let written =
    whole
    ∙ c.in-Ok.ensures.told ∙ ap (map (told_of view)) c.as_mut_slice-subjects.ensures.value in
    record {
      counted = subst (All (IsCounted view)) (sym written)
          (All_changed (IsCounted view) (told_of view) c.args.self.now.subjects.items (λ subject counted. counted) c.args.self.now.counted);
      found = subst (AreFound c.tell_all.new.index) (sym whole) c.in-Ok.ensures.found;
      still = subst (λ subjects. AreStillBut view c.tell_all.new.index.count subjects c.tell_all.new.awake.items) (sym whole)
          c.in-Ok.ensures.still;
      rest = subst (λ subjects. AreQuietBut view c.tell_all.new.index.count subjects
          (c.tell_all.new.awake.items ++ c.tell_all.new.waiting.items)) (sym whole) c.in-Ok.ensures.rest;
      own = λ going. subst (λ all. AreOwn all view.pending) (sym written)
          (own_told view c.args.self.now.subjects.items view.pending (c.args.self.now.own going));
    }

pub tell_all-requires-clause-found : goal.tell_all-requires-clause-found
tell_all-requires-clause-found g c =
    subst (AreFound c.args.self.now.index) (sym c.as_mut_slice-subjects.ensures.value) c.args.self.now.found

pub tell_all-requires-clause-still : goal.tell_all-requires-clause-still
tell_all-requires-clause-still g c =
    subst (λ subjects. AreStillBut (view_of c.args.self.now.client) c.args.self.now.index.count subjects c.args.self.now.awake.items)
    (sym c.as_mut_slice-subjects.ensures.value) c.args.self.now.still

pub tell_all-requires-clause-rest : goal.tell_all-requires-clause-rest
tell_all-requires-clause-rest g c =
    subst (λ subjects. AreQuietBut (view_of c.args.self.now.client) c.args.self.now.index.count subjects
    (c.args.self.now.awake.items ++ c.args.self.now.waiting.items)) (sym c.as_mut_slice-subjects.ensures.value) c.args.self.now.rest

pub returns-in-Ok-clause-told : goal.returns-in-Ok-clause-told
returns-in-Ok-clause-told g c =
    let size : c.args.self.now.subjects.len ≡ length c.tell_all.new.subjects =
    omega (arith, c.tell_all.auto.subjects, c.as_mut_slice-subjects.ensures.len) in
    whole_written c.args.self.now.subjects.len c.tell_all.new.subjects
    (drop (length c.tell_all.new.subjects) c.args.self.now.subjects.items) size
    ∙ c.in-Ok.ensures.told ∙ ap (map (told_of (view_of c.args.self.now.client))) c.as_mut_slice-subjects.ensures.value
