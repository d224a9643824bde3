-- First each takes what was said, so that all that are being read are counted before one more is; then they are visited.
use Rattle.std.proofs.Common.{◌<◌, ◌∙◌, arith, get_or, length, subst, sym}
use Rattle.std.specs.Prelude.{All}
use Rattle.std.proofs.lemmas.List.Elements.{All-map}
use Rattle.zk_client.specs.Clients.{view_of}
use Rattle.zk_client.specs.Views.{said}
use Rattle.zk_follow.specs.Following.{heard_all, taken, IsAhead, IsCounted}
use Rattle.zk_follow.specs.inner.Places.{AreSameBut, IsAscending}
use Rattle.zk_follow.specs.inner.Resting.{AreLeft}
use Rattle.zk_follow.proofs.Asking.{woken_ahead, woken_counted}
use Rattle.zk_follow.proofs.Breaking.{beside}
use Rattle.zk_follow.proofs.Rounds.{left_by_both, on_ok, rest_same}
use Rattle.zk_follow.proofs.Still.{left_due, left_unmoved}
use Rattle.zk_follow.proofs.Visiting.{all_visited, read_all}
use Rattle.zk_follow.proofs.follower.visit_all.Goals as goal

pub take_all-requires-clause-ascend : goal.take_all-requires-clause-ascend
take_all-requires-clause-ascend g c = subst IsAscending (sym c.as_slice.ensures.value) c.requires.ascend

pub take_all-requires-clause-below : goal.take_all-requires-clause-below
take_all-requires-clause-below g c =
    subst (All (λ at. at < length c.args.subjects.now)) (sym c.as_slice.ensures.value) c.requires.below

pub take_all-requires-clause-rest : goal.take_all-requires-clause-rest
take_all-requires-clause-rest g c =
    left_unmoved c.args.now (view_of c.args.client.now) (said c.args.outputs.now) c.args.subjects.now c.as_slice.result.now
    (subst (AreLeft (view_of c.args.client.now) (said c.args.outputs.now) c.args.subjects.now) (sym c.as_slice.ensures.value)
    c.requires.left)

pub count_reads-reads-requires-clause-ascend : goal.count_reads-reads-requires-clause-ascend
count_reads-reads-requires-clause-ascend g c = subst IsAscending (sym c.as_slice-2.ensures.value) c.requires.ascend

pub count_reads-reads-requires-clause-below : goal.count_reads-reads-requires-clause-below
count_reads-reads-requires-clause-below g c =
    subst (All (λ at. at < length c.take_all.new.subjects)) (sym c.as_slice-2.ensures.value)
    (subst (λ n. All (λ at. at < n) c.args.places.now.items) (sym c.take_all.auto.subjects) c.requires.below)

pub count_reads-reads-requires-clause-due : goal.count_reads-reads-requires-clause-due
count_reads-reads-requires-clause-due g c =
    let view = view_of c.args.client.now in
    let places = c.args.places.now.items in
    let first = c.args.subjects.now in
    let middle = c.take_all.new.subjects in
    left_due view (said c.args.outputs.now) first middle c.as_slice-2.result.now c.take_all.auto.subjects
    (subst (AreLeft view (said c.args.outputs.now) first) (sym c.as_slice-2.ensures.value) c.requires.left)
    (subst (λ all. AreSameBut all first middle) (c.as_slice.ensures.value ∙ sym c.as_slice-2.ensures.value) c.in-Ok.ensures.left)

pub visit_due-requires-clause-below : goal.visit_due-requires-clause-below
visit_due-requires-clause-below g c =
    subst (λ n. All (λ at. at < n) c.args.places.now.items) (sym c.take_all.auto.subjects) c.requires.below

pub visit_due-requires-clause-rest : goal.visit_due-requires-clause-rest
visit_due-requires-clause-rest g c =
    rest_same (view_of c.args.client.now) c.args.subjects.now c.take_all.new.subjects c.args.places.now.items c.args.waiting.now.items
    c.take_all.auto.subjects
    (subst (λ all. AreSameBut all c.args.subjects.now c.take_all.new.subjects) c.as_slice.ensures.value c.in-Ok.ensures.left)
    c.requires.rest

pub visit_due-requires-clause-counted : goal.visit_due-requires-clause-counted
visit_due-requires-clause-counted g c =
    let now = c.args.now in
    let view = view_of c.args.client.now in
    let outputs = said c.args.outputs.now in
    let old = c.args.subjects.now in
    subst (All (IsCounted view)) (sym c.in-Ok.ensures.heard)
    (All-map (IsCounted view) (taken now outputs) old
    (λ k d within. woken_counted now view (heard_all now (get_or old k d) outputs) (c.requires.counted k d within)))

pub visit_due-requires-clause-ahead : goal.visit_due-requires-clause-ahead
visit_due-requires-clause-ahead g c =
    let now = c.args.now in
    let outputs = said c.args.outputs.now in
    let old = c.args.subjects.now in
    subst (All (λ subject. IsAhead now subject.progress)) (sym c.in-Ok.ensures.heard)
    (All-map (λ subject. IsAhead now subject.progress) (taken now outputs) old
    (λ k d within. woken_ahead now (heard_all now (get_or old k d) outputs).progress))

pub visit_due-requires-clause-count : goal.visit_due-requires-clause-count
visit_due-requires-clause-count g c = c.count_reads-reads.ensures

pub returns-in_default-clause-broke : goal.returns-in_default-clause-broke
returns-in_default-clause-broke g c = beside (view_of c.args.client.now)

pub returns-clause-had : goal.returns-clause-had
returns-clause-had g c =
    on_ok c.visit_due.result (λ had at fits e. had at (omega (arith, fits, c.take_all.auto.subjects)) e) c.visit_due.ensures.had

pub returns-clause-kept : goal.returns-clause-kept
returns-clause-kept g c =
    on_ok c.visit_due.result (λ kept at fits e. kept at (omega (arith, fits, c.take_all.auto.subjects)) e) c.visit_due.ensures.kept

pub returns-clause-left : goal.returns-clause-left
returns-clause-left g c =
    left_by_both c.visit_due.result c.args.subjects.now c.take_all.new.subjects c.visit_due.new.subjects
    c.as_slice.result.now c.args.places.now.items c.visit_due.new.places.items
    c.as_slice.ensures.value c.take_all.auto.subjects c.visit_due.auto.subjects c.in-Ok.ensures.left
    c.visit_due.ensures.had c.visit_due.ensures.left

pub returns-clause-reads : goal.returns-clause-reads
returns-clause-reads g c =
    read_all c.visit_due.result c.args.now (said c.args.outputs.now) c.args.subjects.now c.take_all.new.subjects
    (view_of c.args.client.now) (said c.args.made.now.items) (view_of c.visit_due.new.client) (said c.visit_due.new.made.items)
    c.visit_due.new.subjects c.in-Ok.ensures.heard c.visit_due.ensures.reads

pub returns-clause-visited : goal.returns-clause-visited
returns-clause-visited g c =
    all_visited c.visit_due.result c.args.now (said c.args.outputs.now) c.args.subjects.now c.take_all.new.subjects
    c.visit_due.new.subjects c.in-Ok.ensures.heard c.visit_due.ensures.seen
