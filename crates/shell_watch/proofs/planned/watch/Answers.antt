-- The watcher begins with a new session, no connection, and nothing told or watched (`IsBegun`); by what `watch_for` ensures from there,
-- the text is that of a watch (`watched`, `printed`).
use Rattle.std.proofs.Common.{ap, arith, refl, subst, sym, false, true, of_z, to_z, w32, ◌≡◌, ◌<◌, ◌^◌, ℤ, pos, negsuc}
use Rattle.std.proofs.lemmas.Int.{ints}
use Rattle.std.specs.Prelude.{unsigned_abs, ◌≤ℤ◌, ◌<ℤ◌}
use Rattle.zk_agent.specs.Telling.{told_by}
use Rattle.shell_watch.specs.Watching.{aims_of, IsBegun}
use Rattle.shell_watch.specs.inner.Watching.{stand_of}
use Rattle.shell_watch.proofs.Ending.{printed, watched}
use Rattle.shell_watch.proofs.planned.watch.Goals as goal

-- a timeout above 0 and of 31 bits
asked : (z : ℤ) → pos 1 ≤ℤ z → z <ℤ pos 2147483648 → (0 < unsigned_abs z) × (unsigned_abs z < 2 ^ 31)
asked (pos n) above below = (omega (arith, ints, above), omega (arith, ints, below))
asked (negsuc n) above below = absurd (omega (arith, ints, above))

asks_some : (w z : ℤ) → w ≡ z → pos 1 ≤ℤ z → z <ℤ pos 2147483648 → (0 < unsigned_abs w) × (unsigned_abs w < 2 ^ 31)
asks_some w z same above below = subst (λ t. (0 < unsigned_abs t) × (unsigned_abs t < 2 ^ 31)) (sym same) (asked z above below)

pub returns-clause-over : goal.returns-clause-over
returns-clause-over g c = λ is.
    let first = stand_of g.D.Stream.Read.remaining g.D.Stream.Write.contents g.D.Stream.Stream.far g.D.Stream.Stream.state
    c.in-Ok.driver.engine c.new.result.items false
    c.args.plan.style (record { most = c.args.plan.most; bounded = 0; ticket = 1; is_growing = true }) in
    let asks =
    asks_some (to_z w32 (of_z w32 c.max.result)) c.max.result (omega (arith, ints)) (omega (arith, ints)) (omega (arith, ints)) in
    let begun : IsBegun c.args.plan.style c.args.plan.most first = record {
      timeout = unsigned_abs (to_z w32 (of_z w32 c.max.result));
      least = asks.0;
      below = asks.1;
      later = ap unsigned_abs c.in-Ok.ensures.timeout;
      client = c.in-Ok.ensures.client;
      followed = c.in-Ok.ensures.followed;
      channel = c.in-Ok.ensures.channel;
      told = ap told_by c.in-Ok.ensures.waiting;
      watched = c.new.ensures.items;
      accepted = refl;
      prints = refl;
      growth = refl;
    } in
    let told = rw (c.as_slice.ensures.value, c.as_slice-2.ensures.value) at (c.watch_for-end.ensures.over is) in (
      told.0,
      watched c.args.plan.style (aims_of c.args.plan.subjects.items) c.args.plan.trees.items c.args.plan.most first told.0
          c.args.plan.for_ms true begun told.1,
      told.2,
    )

pub returns-clause-never : goal.returns-clause-never
returns-clause-never g c = λ is.
    let first = stand_of g.D.Stream.Read.remaining g.D.Stream.Write.contents g.D.Stream.Stream.far g.D.Stream.Stream.state
    c.in-Ok.driver.engine c.new.result.items false
    c.args.plan.style (record { most = c.args.plan.most; bounded = 0; ticket = 1; is_growing = true }) in
    let asks =
    asks_some (to_z w32 (of_z w32 c.max.result)) c.max.result (omega (arith, ints)) (omega (arith, ints)) (omega (arith, ints)) in
    let begun : IsBegun c.args.plan.style c.args.plan.most first = record {
      timeout = unsigned_abs (to_z w32 (of_z w32 c.max.result));
      least = asks.0;
      below = asks.1;
      later = ap unsigned_abs c.in-Ok.ensures.timeout;
      client = c.in-Ok.ensures.client;
      followed = c.in-Ok.ensures.followed;
      channel = c.in-Ok.ensures.channel;
      told = ap told_by c.in-Ok.ensures.waiting;
      watched = c.new.ensures.items;
      accepted = refl;
      prints = refl;
      growth = refl;
    } in
    let told = rw (c.as_slice.ensures.value, c.as_slice-2.ensures.value) at (c.watch_for-end.ensures.never is) in (
      told.0,
      watched c.args.plan.style (aims_of c.args.plan.subjects.items) c.args.plan.trees.items c.args.plan.most first told.0
          c.args.plan.for_ms false begun told.1,
      told.2,
    )

pub returns-clause-printed : goal.returns-clause-printed
returns-clause-printed g c = λ is.
    let first = stand_of g.D.Stream.Read.remaining g.D.Stream.Write.contents g.D.Stream.Stream.far g.D.Stream.Stream.state
    c.in-Ok.driver.engine c.new.result.items false
    c.args.plan.style (record { most = c.args.plan.most; bounded = 0; ticket = 1; is_growing = true }) in
    let asks =
    asks_some (to_z w32 (of_z w32 c.max.result)) c.max.result (omega (arith, ints)) (omega (arith, ints)) (omega (arith, ints)) in
    let begun : IsBegun c.args.plan.style c.args.plan.most first = record {
      timeout = unsigned_abs (to_z w32 (of_z w32 c.max.result));
      least = asks.0;
      below = asks.1;
      later = ap unsigned_abs c.in-Ok.ensures.timeout;
      client = c.in-Ok.ensures.client;
      followed = c.in-Ok.ensures.followed;
      channel = c.in-Ok.ensures.channel;
      told = ap told_by c.in-Ok.ensures.waiting;
      watched = c.new.ensures.items;
      accepted = refl;
      prints = refl;
      growth = refl;
    } in
    let told = rw (c.as_slice.ensures.value, c.as_slice-2.ensures.value) at (c.watch_for-end.ensures.printed is) in (
      told.0,
      printed c.args.plan.style
          (aims_of c.args.plan.subjects.items) c.args.plan.trees.items c.args.plan.most first told.0 begun told.1,
      told.2,
    )
