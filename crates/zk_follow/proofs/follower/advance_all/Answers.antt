-- After the client's step each subject counts as it did, once it has heard the outputs; who is not visited is still (`stays_after`), and
-- quiet if it does not wait (`rests_after`), and so after the visits of others (`after_visits`).
use Rattle.std.proofs.lemmas.List.{map-append}
use Rattle.std.proofs.Common.{◌≡◌, ◌<◌, ◌∙◌, ◌++◌, true, ap, arith, get_or, length, refl, sym, subst}
use Rattle.std.specs.Prelude.{All}
use Rattle.zk_client.specs.Clients.{view_of}
use Rattle.zk_client.specs.Views.{input_view, output_view, said, turn_of}
use Rattle.zk_follow.specs.Following.{heard_all, how_many_reading, is_quiet, is_still, AreQuiet, AreQuietBut, AreStillBut, AreVisited}
use Rattle.zk_follow.specs.Following.{IsCounted}
use Rattle.zk_follow.specs.inner.Following.{Reads}
use Rattle.zk_follow.proofs.Visiting.{all_ahead, all_counted, going_at, steps}
use Rattle.zk_follow.proofs.Finding.{after_visits, found_visited}
use Rattle.zk_follow.proofs.Passing.{quiet_followed}
use Rattle.zk_follow.proofs.Resting.{quiet_parts}
use Rattle.zk_follow.proofs.Silent.{left_after, none_after, none_of_both, over_after, quiet_but, quiet_counted, quiet_still, rests_after}
use Rattle.zk_follow.proofs.Silent.{stays_after, steps_over}
use Rattle.zk_follow.proofs.Still.{among_all, among_left, quiet_on, still_on}
use Rattle.zk_follow.proofs.Breaking.{after_step, after_turns, beside, err_always, within_step}
use Rattle.zk_follow.proofs.follower.advance_all.Goals as goal
use Rattle.zk_follow.proofs.follower.advance_all.Goals.{After-is_nobody, After-is_over, In_ok-awake}

pub returns-in_default-clause-broke : goal.returns-in_default-clause-broke
returns-in_default-clause-broke g c =
    within_step c.args.now (view_of c.args.client.now) (view_of c.step_at_into.new.self) c.in_default.ensures.halt

pub returns-in_err-stir-clause-broke : goal.returns-in_err-stir-clause-broke
returns-in_err-stir-clause-broke g c =
    let here = view_of c.step_at_into.new.self in
    err_always c.from_residual.result (after_step c.args.now (view_of c.args.client.now)
    (turn_of c.args.input c.step_at_into.new.outputs.items) here here c.in-Ok.ensures.rule (beside here))

pub returns-in_err-awake-clause-broke : goal.returns-in_err-awake-clause-broke
returns-in_err-awake-clause-broke g c =
    let here = view_of c.step_at_into.new.self in
    err_always c.from_residual-in_err-awake.result (after_step c.args.now (view_of c.args.client.now)
    (turn_of c.args.input c.step_at_into.new.outputs.items) here here c.in-Ok.ensures.rule (beside here))

pub visit_all-requires-clause-counted : goal.visit_all-requires-clause-counted
visit_all-requires-clause-counted g c =
    subst (λ outputs. All (λ subject. IsCounted (view_of c.step_at_into.new.self) (heard_all c.args.now subject (said outputs)))
    c.args.subjects.now) (sym c.as_slice-heard.ensures.value)
    (all_counted c.args.now c.args.now (view_of c.args.client.now) (turn_of c.args.input c.step_at_into.new.outputs.items)
    (view_of c.step_at_into.new.self) c.in-Ok.ensures.rule c.args.subjects.now c.requires.counted)

pub visit_all-requires-clause-goes_on : goal.visit_all-requires-clause-goes_on
visit_all-requires-clause-goes_on g c =
    going_at c.args.now (view_of c.args.client.now) (turn_of c.args.input c.step_at_into.new.outputs.items)
    (view_of c.step_at_into.new.self) c.in-Ok.ensures.rule

pub visit_all-requires-clause-ascend : goal.visit_all-requires-clause-ascend
visit_all-requires-clause-ascend g c = c.in_ok-awake.ensures.ascend

pub visit_all-requires-clause-below : goal.visit_all-requires-clause-below
visit_all-requires-clause-below g c =
    subst (λ count. All (λ at. at < count) c.in_ok-awake.field-0.items) c.requires.count
    c.in_ok-awake.ensures.below

-- what the client's step leaves of those that the index does not find
places_rest : (g : _) (c : In_ok-awake g) → AreQuietBut (view_of c.step_at_into.new.self) c.args.index.now.count c.args.subjects.now
    (c.in_ok-awake.field-0.items ++ c.stir.new.waiting.items)
places_rest g c =
    rests_after c.args.index.now c.args.subjects.now c.requires.count c.args.is_foreign c.args.now (view_of c.args.client.now)
    (input_view c.args.input) c.as_slice-heard.result.now c.step_at_into.new.outputs.items c.as_slice-heard.ensures.value
    (view_of c.step_at_into.new.self) c.in-Ok.ensures.rule c.requires.asks c.requires.own
    c.in_ok-awake.field-0.items c.in_ok-awake.ensures.about c.in_ok-awake.ensures.beside
    c.args.awake.now.items c.args.waiting.now.items c.stir.new.awake.items c.stir.new.waiting.items
    c.as_slice-2.result.now c.as_slice-2.ensures.value c.in_ok-awake.ensures.had c.requires.rest c.in_ok-stir.ensures.kept

places_still : (g : _) (c : In_ok-awake g)
    → AreStillBut (view_of c.step_at_into.new.self) c.args.index.now.count c.args.subjects.now c.in_ok-awake.field-0.items
places_still g c =
    stays_after c.args.index.now c.args.subjects.now c.requires.count c.args.is_foreign c.args.now (view_of c.args.client.now)
    (input_view c.args.input) c.as_slice-heard.result.now c.step_at_into.new.outputs.items c.as_slice-heard.ensures.value
    (view_of c.step_at_into.new.self) c.in-Ok.ensures.rule c.requires.asks c.requires.own
    c.in_ok-awake.field-0.items c.in_ok-awake.ensures.about c.in_ok-awake.ensures.beside
    c.args.awake.now.items c.args.waiting.now.items c.stir.new.awake.items c.stir.new.waiting.items
    c.as_slice-2.result.now c.as_slice-2.ensures.value c.in_ok-awake.ensures.had c.requires.rest
    c.in_ok-stir.ensures.had c.in_ok-stir.ensures.stirred c.requires.still

pub visit_all-requires-clause-left : goal.visit_all-requires-clause-left
visit_all-requires-clause-left g c =
    left_after c.args.index.now c.args.subjects.now c.requires.count c.args.is_foreign c.args.now (view_of c.args.client.now)
    (input_view c.args.input) c.as_slice-heard.result.now c.step_at_into.new.outputs.items c.as_slice-heard.ensures.value
    (view_of c.step_at_into.new.self) c.in-Ok.ensures.rule c.requires.asks c.requires.own
    c.in_ok-awake.field-0.items c.in_ok-awake.ensures.about c.in_ok-awake.ensures.beside
    (places_still g (goal.at.visit_all-requires-clause-left g c).In_ok-awake)

pub visit_all-requires-clause-rest : goal.visit_all-requires-clause-rest
visit_all-requires-clause-rest g c =
    let rests = places_rest g (goal.at.visit_all-requires-clause-rest g c).In_ok-awake in
    λ k d within none. (quiet_parts (view_of c.step_at_into.new.self) (get_or c.args.subjects.now k d)
    (rests k d (omega (arith, within, c.requires.count)) none)).0

pub returns-in-Ok-append-clause-found : goal.returns-in-Ok-append-clause-found
returns-in-Ok-append-clause-found g c =
    found_visited c.args.now c.args.index.now (said c.as_slice-heard.result.now) c.args.subjects.now c.visit_all.new.subjects
    c.visit_all.auto.subjects c.in_ok-visit_all.ensures.visited c.requires.found

pub returns-in-Ok-append-clause-still : goal.returns-in-Ok-append-clause-still
returns-in-Ok-append-clause-still g c =
    let here = view_of c.step_at_into.new.self in
    let after = view_of c.visit_all.new.client in
    let new = c.visit_all.new.places.items in
    after_visits (is_still here) (is_still after) (λ s. still_on here after s c.in_ok-visit_all.ensures.asks) c.args.index.now.count
    c.args.subjects.now c.visit_all.new.subjects c.in_ok-awake.field-0.items new new
    (λ at fits. c.in_ok-visit_all.ensures.had at (omega (arith, fits, c.requires.count))) (λ at e. e)
    c.in_ok-visit_all.ensures.left (places_still g (goal.at.returns-in-Ok-append-clause-still g c).In_ok-awake)

pub returns-in-Ok-append-clause-rest : goal.returns-in-Ok-append-clause-rest
returns-in-Ok-append-clause-rest g c =
    let places = c.in_ok-awake.field-0.items in
    let waiting = c.stir.new.waiting.items in
    let here = view_of c.step_at_into.new.self in
    let after = view_of c.visit_all.new.client in
    let new = c.visit_all.new.places.items in
    let last = c.visit_all.new.waiting.items in
    after_visits (is_quiet here) (is_quiet after) (λ s. quiet_on here after s c.in_ok-visit_all.ensures.asks) c.args.index.now.count
    c.args.subjects.now c.visit_all.new.subjects (places ++ waiting) new (new ++ last)
    (λ at fits. among_all at places waiting new last (c.in_ok-visit_all.ensures.kept at (omega (arith, fits, c.requires.count))))
    (λ at. among_left at new last)
    c.in_ok-visit_all.ensures.left (places_rest g (goal.at.returns-in-Ok-append-clause-rest g c).In_ok-awake)

pub returns-in-Ok-append-clause-steps : goal.returns-in-Ok-append-clause-steps
returns-in-Ok-append-clause-steps g c =
    steps c.args.now (view_of c.args.client.now) (input_view c.args.input) (said c.step_at_into.new.outputs.items)
    (view_of c.step_at_into.new.self) c.args.subjects.now (view_of c.visit_all.new.client)
    (said c.visit_all.new.made.items) (said c.append.new.self.items) c.visit_all.new.subjects c.in-Ok.ensures.rule
    (subst (λ given. Reads c.args.subjects.now (view_of c.step_at_into.new.self) given (view_of c.visit_all.new.client)
    (said c.visit_all.new.made.items) (how_many_reading c.visit_all.new.subjects)) (ap said c.new-made.ensures.items)
    c.in_ok-visit_all.ensures.reads)
    (subst (λ outputs. AreVisited c.args.now (said outputs) c.args.subjects.now c.visit_all.new.subjects) c.as_slice-heard.ensures.value
    c.in_ok-visit_all.ensures.visited)
    c.visit_all.auto.subjects
    (ap said c.in-Ok-append.ensures.items ∙ map-append output_view c.step_at_into.new.outputs.items c.visit_all.new.made.items)

pub returns-in-Ok-append-clause-ahead : goal.returns-in-Ok-append-clause-ahead
returns-in-Ok-append-clause-ahead g c =
    all_ahead c.args.now c.ranges.now.fits
    (said c.step_at_into.new.outputs.items) c.args.subjects.now c.visit_all.new.subjects c.visit_all.auto.subjects
    (subst (λ outputs. AreVisited c.args.now (said outputs) c.args.subjects.now c.visit_all.new.subjects) c.as_slice-heard.ensures.value
    c.in_ok-visit_all.ensures.visited)

pub returns-in_err-visit_all-clause-broke : goal.returns-in_err-visit_all-clause-broke
returns-in_err-visit_all-clause-broke g c =
    err_always c.from_residual-in_err-visit_all.result (after_step c.args.now (view_of c.args.client.now)
    (turn_of c.args.input c.step_at_into.new.outputs.items) (view_of c.step_at_into.new.self) (view_of c.visit_all.new.client)
    c.in-Ok.ensures.rule c.in_err-visit_all.ensures.broke)

pub returns-clause-broke : goal.returns-clause-broke
returns-clause-broke g c =
    let reads = c.in_ok-visit_all.ensures.reads in
    let here = view_of c.step_at_into.new.self in
    let new = view_of c.visit_all.new.client in
    after_step c.args.now (view_of c.args.client.now) (turn_of c.args.input c.step_at_into.new.outputs.items) here new
    c.in-Ok.ensures.rule (after_turns reads.calls here new new reads.chain (beside new))

-- where no output is about a subject, and nobody was awake or waited
over : (g : _) (c : After-is_over g) → c.is_over.result ≡ true → AreQuiet (view_of c.step_at_into.new.self) c.args.subjects.now
    × AreVisited c.args.now (said c.step_at_into.new.outputs.items) c.args.subjects.now c.args.subjects.now
over g c is =
    over_after c.args.index.now c.args.subjects.now c.requires.count c.args.is_foreign c.args.now (view_of c.args.client.now)
    (input_view c.args.input) c.as_slice-heard.result.now c.step_at_into.new.outputs.items c.as_slice-heard.ensures.value
    (view_of c.step_at_into.new.self) c.in-Ok.ensures.rule c.requires.asks c.requires.own
    (c.is_over.ensures.heard is) (c.args.awake.now.items ++ c.args.waiting.now.items)
    (none_of_both c.args.awake.now.items c.args.waiting.now.items
    (subst (λ its. length its ≡ 0) c.as_slice.ensures.value (c.is_over.ensures.awake is)) (c.is_over.ensures.waiting is))
    c.requires.rest

pub returns-then-is_over-clause-followed : goal.returns-then-is_over-clause-followed
returns-then-is_over-clause-followed g c =
    quiet_followed c.args.now (view_of c.step_at_into.new.self) c.args.subjects.now
    (over g (goal.at.returns-then-is_over-clause-followed g c).After-is_over c.if-is_over.true).0

pub returns-then-is_over-clause-counted : goal.returns-then-is_over-clause-counted
returns-then-is_over-clause-counted g c =
    quiet_counted c.args.index.now c.args.subjects.now c.requires.count (view_of c.step_at_into.new.self)
    (over g (goal.at.returns-then-is_over-clause-counted g c).After-is_over c.if-is_over.true).0

pub returns-then-is_over-clause-still : goal.returns-then-is_over-clause-still
returns-then-is_over-clause-still g c =
    quiet_still c.args.index.now c.args.subjects.now c.requires.count (view_of c.step_at_into.new.self)
    (over g (goal.at.returns-then-is_over-clause-still g c).After-is_over c.if-is_over.true).0 c.args.awake.now.items

pub returns-then-is_over-clause-rest : goal.returns-then-is_over-clause-rest
returns-then-is_over-clause-rest g c =
    quiet_but c.args.index.now c.args.subjects.now c.requires.count (view_of c.step_at_into.new.self)
    (over g (goal.at.returns-then-is_over-clause-rest g c).After-is_over c.if-is_over.true).0
    (c.args.awake.now.items ++ c.args.waiting.now.items)

pub returns-then-is_over-clause-ahead : goal.returns-then-is_over-clause-ahead
returns-then-is_over-clause-ahead g c =
    all_ahead c.args.now c.ranges.now.fits (said c.step_at_into.new.outputs.items) c.args.subjects.now c.args.subjects.now refl
    (over g (goal.at.returns-then-is_over-clause-ahead g c).After-is_over c.if-is_over.true).1

pub returns-then-is_over-clause-steps : goal.returns-then-is_over-clause-steps
returns-then-is_over-clause-steps g c =
    steps_over c.args.now (view_of c.args.client.now) (input_view c.args.input) (said c.step_at_into.new.outputs.items)
    (view_of c.step_at_into.new.self) c.args.subjects.now c.in-Ok.ensures.rule
    (over g (goal.at.returns-then-is_over-clause-steps g c).After-is_over c.if-is_over.true).1

-- where the index finds none, and none waits
nobody : (g : _) (c : After-is_nobody g) → c.is_nobody.result ≡ true → AreQuietBut (view_of c.step_at_into.new.self)
    c.args.index.now.count c.args.subjects.now (c.in_ok-awake.field-0.items ++ c.stir.new.waiting.items)
    → AreQuiet (view_of c.step_at_into.new.self) c.args.subjects.now
    × AreVisited c.args.now (said c.step_at_into.new.outputs.items) c.args.subjects.now c.args.subjects.now
nobody g c is rests =
    let places = c.in_ok-awake.field-0.items in
    let none : length places ≡ 0 = subst (λ its. length its ≡ 0) c.as_slice-3.ensures.value (c.is_nobody.ensures.places is) in
    none_after c.args.index.now c.args.subjects.now c.requires.count c.args.is_foreign c.args.now (view_of c.args.client.now)
    (input_view c.args.input) c.as_slice-heard.result.now c.step_at_into.new.outputs.items c.as_slice-heard.ensures.value
    (view_of c.step_at_into.new.self) c.in-Ok.ensures.rule c.requires.asks c.requires.own
    places c.in_ok-awake.ensures.about c.in_ok-awake.ensures.beside none (places ++ c.stir.new.waiting.items)
    (none_of_both places c.stir.new.waiting.items none (c.is_nobody.ensures.waiting is)) rests

pub returns-then-is_nobody-clause-followed : goal.returns-then-is_nobody-clause-followed
returns-then-is_nobody-clause-followed g c =
    quiet_followed c.args.now (view_of c.step_at_into.new.self) c.args.subjects.now
    (nobody g (goal.at.returns-then-is_nobody-clause-followed g c).After-is_nobody c.if-is_nobody.true
    (places_rest g (goal.at.returns-then-is_nobody-clause-followed g c).In_ok-awake)).0

pub returns-then-is_nobody-clause-counted : goal.returns-then-is_nobody-clause-counted
returns-then-is_nobody-clause-counted g c =
    quiet_counted c.args.index.now c.args.subjects.now c.requires.count (view_of c.step_at_into.new.self)
    (nobody g (goal.at.returns-then-is_nobody-clause-counted g c).After-is_nobody c.if-is_nobody.true
    (places_rest g (goal.at.returns-then-is_nobody-clause-counted g c).In_ok-awake)).0

pub returns-then-is_nobody-clause-still : goal.returns-then-is_nobody-clause-still
returns-then-is_nobody-clause-still g c = places_still g (goal.at.returns-then-is_nobody-clause-still g c).In_ok-awake

pub returns-then-is_nobody-clause-rest : goal.returns-then-is_nobody-clause-rest
returns-then-is_nobody-clause-rest g c = places_rest g (goal.at.returns-then-is_nobody-clause-rest g c).In_ok-awake

pub returns-then-is_nobody-clause-ahead : goal.returns-then-is_nobody-clause-ahead
returns-then-is_nobody-clause-ahead g c =
    all_ahead c.args.now c.ranges.now.fits (said c.step_at_into.new.outputs.items) c.args.subjects.now c.args.subjects.now refl
    (nobody g (goal.at.returns-then-is_nobody-clause-ahead g c).After-is_nobody c.if-is_nobody.true
    (places_rest g (goal.at.returns-then-is_nobody-clause-ahead g c).In_ok-awake)).1

pub returns-then-is_nobody-clause-steps : goal.returns-then-is_nobody-clause-steps
returns-then-is_nobody-clause-steps g c =
    steps_over c.args.now (view_of c.args.client.now) (input_view c.args.input) (said c.step_at_into.new.outputs.items)
    (view_of c.step_at_into.new.self) c.args.subjects.now c.in-Ok.ensures.rule
    (nobody g (goal.at.returns-then-is_nobody-clause-steps g c).After-is_nobody c.if-is_nobody.true
    (places_rest g (goal.at.returns-then-is_nobody-clause-steps g c).In_ok-awake)).1
