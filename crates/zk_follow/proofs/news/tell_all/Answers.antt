-- Who is told of is found by the index (`told_by`), and who is not stays as it was (`told_but`).
use Rattle.std.proofs.Common.{◌≡◌, ◌<◌, ◌∙◌, ◌++◌, ◌==◌, ℕ, true, false, ap, arith, map, refl, sym, subst, length}
use Rattle.std.specs.List.{flat_map}
use Rattle.std.proofs.lemmas.Bool.Decides.{Decides-eqb, nat_tests}
use Rattle.std.proofs.lemmas.List.{append-nil, nil_from_length}
use Rattle.std.specs.Prelude.{All}
use Rattle.zk_client.specs.Clients.{view_of}
use Rattle.zk_client.specs.Views.{said}
use Rattle.zk_follow.specs.Following.{is_among, is_quiet, is_still, news_in, told_of}
use Rattle.zk_follow.specs.Places.{AreFound}
use Rattle.zk_follow.specs.inner.Places.{IsAscending}
use Rattle.zk_follow.specs.inner.Resting.{AreTold}
use Rattle.zk_follow.proofs.Finding.{found_told, told_but, told_by}
use Rattle.zk_follow.proofs.Silent.{nothing_new}
use Rattle.zk_follow.proofs.Still.{among_both, among_or, among_told}
use Rattle.zk_follow.proofs.news.tell_all.Goals as goal
use Rattle.zk_follow.proofs.news.tell_all.Goals.{In_ok-places}

-- who is awake is among those who are told of, and of others there is nothing to tell
had_awake : (g : _) (c : In_ok-places g) → (at : ℕ) → at < c.fit_all.new.index.count
    → is_among at c.fit_all.new.awake.items ≡ true → is_among at c.in_ok-places.places.items ≡ true
had_awake g c =
    subst (λ some. (at : ℕ) → at < c.fit_all.new.index.count → is_among at some ≡ true → is_among at c.in_ok-places.places.items ≡ true)
    c.as_slice-2.ensures.value c.in_ok-places.ensures.had

are_told : (g : _) (c : In_ok-places g)
    → AreTold (view_of c.args.client.now) (said c.args.outputs.now) c.args.subjects.now c.in_ok-places.places.items
are_told g c =
    told_by c.fit_all.new.index c.args.subjects.now c.in_ok-fit_all.ensures.count (view_of c.args.client.now) c.args.outputs.now
    c.fit_all.new.awake.items c.in_ok-places.places.items
    (c.in_ok-fit_all.ensures.still (view_of c.args.client.now) c.requires.still) (had_awake g c) c.in_ok-places.ensures.named

pub tell_each-requires-clause-ascend : goal.tell_each-requires-clause-ascend
tell_each-requires-clause-ascend g c = subst IsAscending (sym c.as_slice-3.ensures.value) c.in_ok-places.ensures.ascend

pub tell_each-requires-clause-below : goal.tell_each-requires-clause-below
tell_each-requires-clause-below g c =
    subst (All (λ at. at < length c.args.subjects.now)) (sym c.as_slice-3.ensures.value)
    (subst (λ count. All (λ at. at < count) c.in_ok-places.places.items) c.in_ok-fit_all.ensures.count c.in_ok-places.ensures.below)

pub tell_each-requires-clause-told : goal.tell_each-requires-clause-told
tell_each-requires-clause-told g c =
    subst (AreTold (view_of c.args.client.now) (said c.args.outputs.now) c.args.subjects.now) (sym c.as_slice-3.ensures.value)
    (are_told g (goal.at.tell_each-requires-clause-told g c).In_ok-places)

pub awake_among-requires : goal.awake_among-requires
awake_among-requires g c =
    subst (All (λ at. at < length c.tell_each.new.subjects)) (sym c.as_slice-4.ensures.value)
    (subst (λ count. All (λ at. at < count) c.in_ok-places.places.items)
    (c.in_ok-fit_all.ensures.count ∙ sym c.tell_each.auto.subjects) c.in_ok-places.ensures.below)

pub returns-clause-found : goal.returns-clause-found
returns-clause-found g c =
    subst (AreFound c.fit_all.new.index) (sym c.in_ok-tell_each.ensures.told)
    (found_told (view_of c.args.client.now) c.fit_all.new.index c.args.subjects.now c.in_ok-fit_all.ensures.found)

pub returns-clause-still : goal.returns-clause-still
returns-clause-still g c =
    let places = c.in_ok-places.places.items in
    let index = c.fit_all.new.index in
    let view = view_of c.args.client.now in
    let had = had_awake g (goal.at.returns-clause-still g c).In_ok-places in
    let told = are_told g (goal.at.returns-clause-still g c).In_ok-places in
    let awake = c.in_ok-awake.field-0.items in
    told_but (is_still view) view (said c.args.outputs.now) index.count c.args.subjects.now c.tell_each.new.subjects places
    c.fit_all.new.awake.items awake c.in_ok-fit_all.ensures.count c.in_ok-tell_each.ensures.told told
    (λ at fits e. among_or at places awake (had at fits e))
    (c.in_ok-fit_all.ensures.still view c.requires.still)
    (λ k d within among none. c.in_ok-awake.ensures.still k d within (ap (is_among k) c.as_slice-4.ensures.value ∙ among) none)

pub returns-clause-rest : goal.returns-clause-rest
returns-clause-rest g c =
    let places = c.in_ok-places.places.items in
    let index = c.fit_all.new.index in
    let view = view_of c.args.client.now in
    let had = had_awake g (goal.at.returns-clause-rest g c).In_ok-places in
    let told = are_told g (goal.at.returns-clause-rest g c).In_ok-places in
    let awake = c.in_ok-awake.field-0.items in
    let old = c.fit_all.new.awake.items in
    let waiting = c.args.waiting.now.items in
    let last = c.awake_among.new.waiting.items in
    told_but (is_quiet view) view (said c.args.outputs.now) index.count c.args.subjects.now c.tell_each.new.subjects places
    (old ++ waiting) (awake ++ last) c.in_ok-fit_all.ensures.count c.in_ok-tell_each.ensures.told told
    (λ at fits e. among_told at old waiting awake last places (had at fits) (c.in_ok-awake.ensures.kept at) e)
    (c.in_ok-fit_all.ensures.rest view waiting c.requires.rest)
    (λ k d within among none. c.in_ok-awake.ensures.quiet k d within (ap (is_among k) c.as_slice-4.ensures.value ∙ among)
    (sym (among_both k awake last) ∙ none))

pub returns-then-is_empty-clause-news : goal.returns-then-is_empty-clause-news
returns-then-is_empty-clause-news g c =
    let none : length c.args.subjects.now ≡ 0 =
    (Decides-eqb (length c.args.subjects.now) 0).0 (sym c.is_empty.ensures ∙ c.if-is_empty.true) in
    let news = news_in (view_of c.args.client.now) (said c.args.outputs.now) in
    subst (λ ss. c.args.all.now.items ≡ c.args.all.now.items ++ flat_map news ss) (sym (nil_from_length c.args.subjects.now none))
    (sym (append-nil c.args.all.now.items))

pub returns-then-is_empty-clause-told : goal.returns-then-is_empty-clause-told
returns-then-is_empty-clause-told g c =
    let none : length c.args.subjects.now ≡ 0 =
    (Decides-eqb (length c.args.subjects.now) 0).0 (sym c.is_empty.ensures ∙ c.if-is_empty.true) in
    subst (λ ss. ss ≡ map (told_of (view_of c.args.client.now)) ss) (sym (nil_from_length c.args.subjects.now none)) refl

pub fit_all-requires-clause-some : goal.fit_all-requires-clause-some
fit_all-requires-clause-some g c =
    let some : (length c.args.subjects.now == 0) ≡ false = sym c.is_empty.ensures ∙ c.if-is_empty.false in
    grind (arith, nat_tests)

pub returns-then-is_silent-clause-news : goal.returns-then-is_silent-clause-news
returns-then-is_silent-clause-news g c =
    let view = view_of c.args.client.now in
    let index = c.fit_all.new.index in
    let silent = nothing_new index c.args.subjects.now c.in_ok-fit_all.ensures.count view (said c.args.outputs.now)
    (c.is_silent.ensures.outputs c.if-is_silent.true) c.fit_all.new.awake.items
    (subst (λ its. length its ≡ 0) c.as_slice.ensures.value (c.is_silent.ensures.awake c.if-is_silent.true))
    (c.in_ok-fit_all.ensures.still view c.requires.still) in
    sym (ap (λ news. c.args.all.now.items ++ news) silent.1 ∙ append-nil c.args.all.now.items)

pub returns-then-is_silent-clause-told : goal.returns-then-is_silent-clause-told
returns-then-is_silent-clause-told g c =
    let view = view_of c.args.client.now in
    let index = c.fit_all.new.index in
    let silent = nothing_new index c.args.subjects.now c.in_ok-fit_all.ensures.count view (said c.args.outputs.now)
    (c.is_silent.ensures.outputs c.if-is_silent.true) c.fit_all.new.awake.items
    (subst (λ its. length its ≡ 0) c.as_slice.ensures.value (c.is_silent.ensures.awake c.if-is_silent.true))
    (c.in_ok-fit_all.ensures.still view c.requires.still) in
    sym silent.0

pub returns-then-is_silent-clause-still : goal.returns-then-is_silent-clause-still
returns-then-is_silent-clause-still g c = c.in_ok-fit_all.ensures.still (view_of c.args.client.now) c.requires.still

pub returns-then-is_silent-clause-rest : goal.returns-then-is_silent-clause-rest
returns-then-is_silent-clause-rest g c =
    c.in_ok-fit_all.ensures.rest (view_of c.args.client.now) c.args.waiting.now.items c.requires.rest
