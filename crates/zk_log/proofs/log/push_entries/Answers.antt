-- One more entry goes after those so far, by `goes_on`; zeros and a record that is cut off end them, by `ends_at` and `torn_at`; a fault is
-- that of the whole, by `fails_at` and `placed_fails`.
use Rattle.std.proofs.Common.{◌≡◌, ◌++◌, ◌∷◌, [], map, ap, sym, ◌∙◌, refl}
use Rattle.std.specs.Int.{w64}
use Rattle.std.proofs.lemmas.Int.{to_z-of_z}
use Rattle.std.proofs.lemmas.List.{map_push}
use Rattle.zk_log.specs.Views.{placed_of}
use Rattle.zk_log.proofs.Entries.{goes_on, ends_at, torn_at, fails_at, placed_fails, handed}
use Rattle.zk_log.proofs.log.push_entries.Goals as goal

pub returns-in_err-next_record : goal.returns-in_err-next_record
returns-in_err-next_record g c = handed _ _ _ _ c.from_residual.ensures.1
    (λ other. fails_at (map placed_of c.loop.entries.items) c.args.most c.loop.counter c.args.end _ _ c.loop.rest.now _ _
    c.loop-test.true c.saturating_sub-place.ensures c.in_err-next_record.ensures c.loop.invariant)

pub returns-in-End : goal.returns-in-End
returns-in-End g c =
    let found = rw c.in-End.is at c.in_ok-next_record.ensures in
    ends_at (map placed_of c.loop.entries.items) c.args.most c.loop.counter c.args.end _ _ c.loop.rest.now _ c.loop-test.true
    c.saturating_sub-place.ensures found c.loop.invariant

pub returns-in-Torn : goal.returns-in-Torn
returns-in-Torn g c =
    let found = rw c.in-Torn.is at c.in_ok-next_record.ensures in
    torn_at (map placed_of c.loop.entries.items) c.args.most c.loop.counter c.args.end _ _ c.loop.rest.now _ c.loop-test.true
    c.saturating_sub-place.ensures found c.loop.invariant

pub returns-in_err-one-in-Holds : goal.returns-in_err-one-in-Holds
returns-in_err-one-in-Holds g c =
    let found = rw c.in-Holds.is at c.in_ok-next_record.ensures in
    handed _ _ _ _ c.from_residual-in_err-one-in-Holds.ensures.1
    (λ other. placed_fails (map placed_of c.loop.entries.items) c.args.most c.loop.counter c.args.end _ _ c.loop.rest.now
    c.in-Holds.entry.now c.in-Holds.behind.now _ _ c.loop-test.true c.saturating_sub-place.ensures found
    (c.in_err-one-in-Holds.ensures.gives other) c.loop.invariant)

pub loop-preserved : goal.loop-preserved
loop-preserved g c =
    let one = c.in_ok-one-in-Holds.one in
    let found = rw c.in-Holds.is at c.in_ok-next_record.ensures in
    let pushed : map placed_of c.push.new.self.items ≡ map placed_of c.loop.entries.items ++ placed_of one ∷ [] =
    rw c.in_ok-push-in-Holds.ensures.items (map_push _ c.loop.entries.items one) in
    let same = to_z-of_z w64 one.entry.zxid c.in_ok-one-in-Holds.ensures.fits in
    rw (pushed, same) (goes_on (map placed_of c.loop.entries.items) (placed_of one) c.args.most c.loop.counter c.args.end _ _
    c.loop.rest.now c.in-Holds.entry.now c.in-Holds.behind.now _ c.loop-test.true c.saturating_sub-place.ensures found
    c.in_ok-one-in-Holds.ensures.gives c.loop.invariant)
