-- One more call stays (`left_one`), or its limit goes with it; after the loop no call is to come.
use Rattle.std.proofs.Common.{◌<◌, ◌≤◌, ◌∙◌, length, ap, sym, arith}
use Rattle.std.proofs.lemmas.List.{take_all}
use Rattle.zk_calls.specs.Lines.{left}
use Rattle.zk_calls.specs.Orders.{calls_at}
use Rattle.zk_calls.proofs.Soonest.{left_one, left_same, many, one_at, rest_less, rest_none}
use Rattle.zk_calls.proofs.ending.release.Goals.{then-is_ended, else-is_ended}
use Rattle.zk_calls.proofs.ending.release.Goals as goal

pub take-requires : goal.take-requires
take-requires g c = λ limit is.
    let entries = c.args.entries.now.items in
    let place = c.loop-place.place in
    let within : place < length entries = omega (arith, c.loop-place-test.true, c.len-place-end.ensures, c.args.entries.now.ok.0) in
    let entry = c.index-then-is_ended.result.now in
    omega (
      arith,
      c.loop-place.invariant limit,
      one_at limit entry.until is,
      rest_less c.args.ending limit entries place entry within c.index-then-is_ended.ensures,
    )

pub loop-place-preserved : goal.loop-place-preserved
loop-place-preserved g c = λ limit.
    let entries = c.args.entries.now.items in
    let place = c.loop-place.place in
    let ending = c.args.ending in
    let within : place < length entries = omega (arith, c.loop-place-test.true, c.len-place-end.ensures, c.args.entries.now.ok.0) in
    let entry = c.index.result.now in
    let before = c.loop-place.invariant limit in
    elim c.if-is_ended.branch [
      | then-is_ended w ↦
          let same = left_same ending limit entries place entry within c.index.ensures (sym c.is_ended.ensures ∙ w.if-is_ended.true) in
          let less = rest_less ending limit entries place w.index-then-is_ended.result.now within w.index-then-is_ended.ensures in
          ap (λ limits. calls_at limits limit) w.limits-is ∙ omega (arith, before, same, less, w.take.ensures limit)
      | else-is_ended w ↦
          let more = left_one ending limit entries place entry within c.index.ensures (sym c.is_ended.ensures ∙ w.if-is_ended.false) in
          let less = rest_less ending limit entries place entry within c.index.ensures in
          ap (λ limits. calls_at limits limit) w.limits-is ∙ omega (arith, before, more, less)
    ]

pub returns : goal.returns
returns g c = λ limit.
    let entries = c.args.entries.now.items in
    let place = c.loop-place.place in
    let past : length entries ≤ place = omega (arith, c.loop-place-test.false, c.len-place-end.ensures, c.args.entries.now.ok.0) in
    let none = rest_none limit entries place past in
    let all = ap (λ es. many limit (left c.args.ending es)) (take_all place entries past) in
    omega (arith, c.loop-place.invariant limit, none) ∙ all
