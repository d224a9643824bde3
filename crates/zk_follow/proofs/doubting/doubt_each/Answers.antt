-- Each turn takes one more subject in its place: `map_over_more`, with what `doubt` ensures; the index is in range by arithmetic.
use Rattle.std.proofs.Common.{◌<◌, ◌∙◌, ap, arith, get_or, length, set}
use Rattle.std.proofs.lemmas.List.{get_or_default}
use Rattle.std.proofs.lemmas.List.Edits.{map_over_more}
use Rattle.zk_follow.specs.Following.{doubted}
use Rattle.zk_follow.proofs.doubting.doubt_each.Goals as goal

pub loop-subject-preserved : goal.loop-subject-preserved
loop-subject-preserved g c =
    let index = c.loop-subject.subject-index in
    let subjects = c.loop-subject.subjects in
    let item = get_or subjects index c.subject-item.result in
    let within : index < length c.args.subjects.now = omega (arith, c.loop-subject-test.true) in
    let fits : index < length subjects = omega (arith, c.loop-subject-test.true, c.loop-subject.auto.subjects) in
    ap (set subjects index) c.doubt.ensures
    ∙ map_over_more doubted c.args.subjects.now subjects index item within c.loop-subject.invariant
    (get_or_default subjects index c.subject-item.result item fits)
