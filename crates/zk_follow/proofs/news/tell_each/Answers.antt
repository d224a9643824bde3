-- Each turn tells of one subject more: `told_more`. Between two places there is nothing to tell, and after the last one: `told_end`.
use Rattle.std.proofs.Common.{◌≡◌, ◌<◌, ◌∙◌, ◌++◌, ap, arith, get_or, length, refl, subst, sym, rules}
use Rattle.std.specs.List.{flat_map}
use Rattle.std.proofs.lemmas.List.{append-nil, length-set, take_all}
use Rattle.std.proofs.lemmas.Bool.Decides.{Decides-eqb}
use Rattle.zk_client.specs.Clients.{view_of}
use Rattle.zk_client.specs.Views.{said}
use Rattle.zk_follow.specs.Following.{news_in, told_of}
use Rattle.zk_follow.proofs.Skipping.{still_told_each, told_more, told_end}
use Rattle.zk_follow.proofs.Telling.{whole_mapped}
use Rattle.zk_follow.proofs.news.tell_each.Goals as goal

pub loop-place-init : goal.loop-place-init
loop-place-init g c = record { size = refl; told = record { subjects = refl; all = sym (append-nil c.args.all.now.items) } }

pub bounds-subjects-place : goal.bounds-subjects-place
bounds-subjects-place g c =
    let fits = c.requires.below c.loop-place.place-index 0 c.loop-place-test.true in
    omega (arith, fits, c.loop-place.invariant.size)

pub loop-place-preserved : goal.loop-place-preserved
loop-place-preserved g c =
    let view = view_of c.args.client.now in
    let outputs = said c.args.outputs.now in
    let subjects = c.loop-place.subjects in
    let place = get_or c.args.places.now c.loop-place.place-index 0 in
    let item = get_or subjects place c.index-subjects-place.result in
    record {
      size = length-set subjects place c.report.new.self ∙ c.loop-place.invariant.size;
      told = told_more (told_of view) (news_in view outputs) c.args.subjects.now subjects c.args.all.now.items c.loop-place.all.items
          c.args.places.now c.loop-place.place-index c.requires.ascend c.requires.below
          (still_told_each view outputs c.args.subjects.now c.args.places.now c.requires.told) c.loop-place-test.true
          c.report.new.all.items item
          c.report.new.self c.loop-place.invariant.size (ap (get_or subjects place) c.index-subjects-place.is) c.report.ensures.told
          c.in_ok-report.ensures.news c.loop-place.invariant.told;
    }

pub returns-clause-told : goal.returns-clause-told
returns-clause-told g c =
    let end : c.loop-place.place-index ≡ length c.args.places.now =
    omega (arith, c.loop-place-test.false, c.loop-place.auto.place-index-end) in
    let view = view_of c.args.client.now in
    let outputs = said c.args.outputs.now in
    let whole = told_end (told_of view) (news_in view outputs) c.args.subjects.now c.loop-place.subjects
    c.args.all.now.items c.loop-place.all.items c.args.places.now c.loop-place.place-index c.requires.ascend c.requires.below
    (still_told_each view outputs c.args.subjects.now c.args.places.now c.requires.told) end c.loop-place.invariant.told in
    whole.subjects ∙ whole_mapped (told_of (view_of c.args.client.now)) c.args.subjects.now (length c.args.subjects.now) (omega arith)

pub returns-clause-news : goal.returns-clause-news
returns-clause-news g c =
    let first = c.args.subjects.now in
    let end : c.loop-place.place-index ≡ length c.args.places.now =
    omega (arith, c.loop-place-test.false, c.loop-place.auto.place-index-end) in
    let view = view_of c.args.client.now in
    let outputs = said c.args.outputs.now in
    let news = news_in view outputs in
    let whole = told_end (told_of view) news first c.loop-place.subjects c.args.all.now.items c.loop-place.all.items c.args.places.now
    c.loop-place.place-index c.requires.ascend c.requires.below
    (still_told_each view outputs first c.args.places.now c.requires.told) end c.loop-place.invariant.told in
    subst (λ all. c.loop-place.all.items ≡ c.args.all.now.items ++ flat_map news all)
    (take_all (length first) first (omega arith)) whole.all

pub returns-then-is_empty-clause-told : goal.returns-then-is_empty-clause-told
returns-then-is_empty-clause-told g c =
    let end : 0 ≡ length c.args.places.now =
    sym ((Decides-eqb (length c.args.places.now) 0).0 (sym c.is_empty.ensures ∙ c.if-is_empty.true)) in
    let view = view_of c.args.client.now in
    let outputs = said c.args.outputs.now in
    let first = c.args.subjects.now in
    let whole = told_end (told_of view) (news_in view outputs) first first c.args.all.now.items c.args.all.now.items c.args.places.now 0
    c.requires.ascend c.requires.below (still_told_each view outputs first c.args.places.now c.requires.told) end
    (record { subjects = refl; all = sym (append-nil c.args.all.now.items) }) in
    whole.subjects ∙ whole_mapped (told_of view) first (length first) (omega arith)

pub returns-then-is_empty-clause-news : goal.returns-then-is_empty-clause-news
returns-then-is_empty-clause-news g c =
    let end : 0 ≡ length c.args.places.now =
    sym ((Decides-eqb (length c.args.places.now) 0).0 (sym c.is_empty.ensures ∙ c.if-is_empty.true)) in
    let view = view_of c.args.client.now in
    let outputs = said c.args.outputs.now in
    let first = c.args.subjects.now in
    let given = c.args.all.now.items in
    let whole = told_end (told_of view) (news_in view outputs) first first given given c.args.places.now 0
    c.requires.ascend c.requires.below (still_told_each view outputs first c.args.places.now c.requires.told) end
    (record { subjects = refl; all = sym (append-nil given) }) in
    subst (λ all. given ≡ given ++ flat_map (news_in view outputs) all) (take_all (length first) first (omega arith)) whole.all

pub offset_bounds-subjects-place : goal.offset_bounds-subjects-place
offset_bounds-subjects-place g c =
    let fits = c.requires.below c.loop-place.place-index 0 c.loop-place-test.true in
    let less : get_or c.args.places.now c.loop-place.place-index 0 < length c.loop-place.subjects =
    omega (arith, fits, c.loop-place.invariant.size) in
    search rules
