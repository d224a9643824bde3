-- One place more is gone over: `bucket_more`. After the loop all are, and who has the path is at one of them.
use Rattle.std.proofs.Common.{◌≤◌, ◌<◌, ◌∙◌, ap, arith, get_or, length}
use Rattle.std.specs.Prelude.{bytes_eq}
use Rattle.std.proofs.lemmas.List.{take_all}
use Rattle.zk_turns.proofs.Lists.{same_text}
use Rattle.zk_follow.specs.declared.subject.Subject.{Subject}
use Rattle.zk_follow.specs.Following.{is_among}
use Rattle.zk_follow.specs.Places.{has_place, key_of}
use Rattle.zk_follow.proofs.Beside.{bucket_more}
use Rattle.zk_follow.proofs.Placing.{in_bucket}
use Rattle.zk_follow.proofs.index.Index.add_by_path.Goals as goal

pub loop-place-preserved : goal.loop-place-preserved
loop-place-preserved g c = record {
  below = λ all. c.in_ok-add_if.ensures.below (c.loop-place.invariant.below all);
  had = λ at fits e. c.in_ok-add_if.ensures.had at fits (c.loop-place.invariant.had at fits e);
  each = bucket_more (λ (s : Subject _). bytes_eq c.args.path.now s.path) c.args.subjects.now c.args.self.now.count
      c.at-places.result.now c.loop-place.place-index c.loop-place.all.items c.add_if.new.all.items c.loop-place-test.true
      c.in_ok-add_if.ensures.had
      (λ d fits e.
      let within : get_or c.at-places.result.now c.loop-place.place-index 0 < length c.args.subjects.now =
      omega (arith, fits, c.requires.found.0) in
      c.in_ok-add_if.ensures.here (c.has_path-is_sought.ensures within d ∙ e) fits)
      c.loop-place.invariant.each;
}

pub returns-clause-each : goal.returns-clause-each
returns-clause-each g c = λ k d fits e.
    let places = c.at-places.result.now in
    let past : length places ≤ c.loop-place.place-index = omega (arith, c.loop-place-test.false) in
    let same = same_text c.args.path.now (get_or c.args.subjects.now k d).path e in
    let there = ap (λ key. has_place c.args.self.now.keys key k) (c.key_of.ensures ∙ ap key_of same) ∙ (c.requires.found.1 k d fits).1 in
    let among = in_bucket c.args.self.now.keys c.key_of.result k places c.at-places.ensures there in
    c.loop-place.invariant.each k d fits (ap (is_among k) (take_all c.loop-place.place-index places past) ∙ among) e
