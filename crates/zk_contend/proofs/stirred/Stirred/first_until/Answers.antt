-- One more moment is looked at: `first_more`; at the end all are (`take_all`).
use Rattle.std.proofs.Common.{◌<◌, ◌≤◌, ◌∙◌, ap, arith, length, nat_eq}
use Rattle.std.proofs.lemmas.List.{take_all}
use Rattle.indexmap.specs.IndexMap.{get}
use Rattle.zk_contend.specs.Collections.{sooner, until_of}
use Rattle.zk_contend.specs.inner.Stirred.{first_of}
use Rattle.zk_contend.proofs.Folds.{fold_next}
use Rattle.zk_contend.proofs.stirred.Stirred.first_until.Goals as goal

pub loop-place-preserved : goal.loop-place-preserved
loop-place-preserved g c =
    let awake = c.args.self.now.awake.items in
    let all = get nat_eq c.args.all.now in
    let within : c.loop-place.place < length awake =
    omega (arith, c.loop-place-test.true, c.len-place-end.ensures, c.args.self.now.awake.ok.0) in
    fold_next (λ first ticket. sooner first (until_of (all ticket))) _ awake c.loop-place.place c.index.result.now c.loop-place.first
    c.sooner-first.result within c.index.ensures c.loop-place.invariant
    (c.sooner-first.ensures ∙ ap (sooner c.loop-place.first) c.until_of.ensures)

pub returns : goal.returns
returns g c =
    let awake = c.args.self.now.awake.items in
    let past : length awake ≤ c.loop-place.place =
    omega (arith, c.loop-place-test.false, c.len-place-end.ensures, c.args.self.now.awake.ok.0) in
    c.loop-place.invariant ∙ ap (first_of (get nat_eq c.args.all.now)) (take_all c.loop-place.place awake past)
