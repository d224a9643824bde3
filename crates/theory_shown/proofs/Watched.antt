-- What a watch prints is the history's: move by move the watch's client stays served, so what it shows is what the history has.
use Rattle.std.proofs.Common.{List, [], ◌∷◌, ap, sym, subst}
use Rattle.std.specs.List.{FoldsTo}
use Rattle.zk_link.specs.FarEnds.{FarEnd}
use Rattle.zk_nodes.specs.History.{History, IsHistory}
use Rattle.zk_laws.specs.Headline.{IsCoherentWith}
use Rattle.theory_serving.specs.GoingOn.{GoesOn}
use Rattle.theory_serving.specs.Shown.{Shown}
use Rattle.zk_bench.proofs.Processed.{goes_further}
use Rattle.zk_driver.specs.Flowing.{Flow}
use Rattle.theory_drivers.specs.Worlds.{ByDriver, ByStream}
use Rattle.theory_drivers.proofs.Served.{begins_bound, held_where, Bound}
use Rattle.theory_drivers.proofs.Turned.{goes_nowhere}
use Rattle.shell_watch.specs.Watching.{flow_in, view_in, Does, Move, Stand}
use Rattle.theory_shown.specs.Watched.{AllCohere, EndsCohere, FollowsMeet, MovesMeet, PrintsCohere, RunMeets}
use Rattle.theory_shown.proofs.Going.{kept_coheres, run_bound, run_driver, run_on, same_on}

coheres : {A : Type 0} {far : FarEnd} (stand : Stand A far) (shown : Shown) (history : History)
    → Bound (flow_in stand) shown → GoesOn shown.history history → IsHistory history → IsCoherentWith history (view_in stand)
coheres stand shown history bound goes is =
    kept_coheres (view_in stand) stand.course.channel.is_open stand.course.channel.unsent
    (held_where stand.course.channel.is_open []) shown history bound.here goes is

-- ---- what goes on otherwise

-- Where each run is beside another world too, so are moves.
module _ {A World Other : Type 0} {far : FarEnd} (seen : World → Other) (Beside : (old new : Flow A far) → (before after : World) → Type 0)
    (Too : (old new : Flow A far) → (before after : Other) → Type 0)
    (each : (old new : Flow A far) (before after : World) → Beside old new before after → Too old new (seen before) (seen after)) where
  pub moves_too : (moves : List (Move A)) (old new : Stand A far) (does : FoldsTo Does old moves new) (before after : World)
      → MovesMeet Beside moves old new does before after → MovesMeet Too moves old new does (seen before) (seen after)
  moves_too [] old new does before after same = ap seen same
  moves_too (move ∷ moves) old new does before after meets = (
    seen meets.0,
    each (flow_in old) (flow_in does.0) before meets.0 meets.1,
    moves_too moves does.0 new does.2 meets.0 after meets.2,
  )

-- ---- moves

moves_on : {A : Type 0} {far : FarEnd} (moves : List (Move A)) (old new : Stand A far)
    (does : FoldsTo Does old moves new) (before after : Shown)
    → MovesMeet (RunMeets ByDriver) moves old new does before after → GoesOn before.history after.history
moves_on [] old new does before after meets = same_on before after meets
moves_on (move ∷ moves) old new does before after meets =
    goes_further before.history meets.0.history after.history (run_on ByDriver (flow_in old) (flow_in does.0) before meets.0 meets.1)
    (moves_on moves does.0 new does.2 meets.0 after meets.2)

moves_bound : {A : Type 0} {far : FarEnd} (moves : List (Move A)) (old new : Stand A far)
    (does : FoldsTo Does old moves new) (before after : Shown)
    → MovesMeet (RunMeets ByDriver) moves old new does before after → Bound (flow_in old) before
    → Bound (flow_in new) after
moves_bound [] old new same before after meets bound =
    subst (λ s. Bound (flow_in new) s) (sym meets) (subst (λ s. Bound (flow_in s) before) same bound)
moves_bound (move ∷ moves) old new does before after meets bound =
    moves_bound moves does.0 new does.2 meets.0 after meets.2 (run_bound (flow_in old) (flow_in does.0) before meets.0 meets.1 bound)

all_cohere : {A : Type 0} {far : FarEnd} (moves : List (Move A)) (old new : Stand A far)
    (does : FoldsTo Does old moves new) (before after : Shown)
    (history : History) → MovesMeet (RunMeets ByDriver) moves old new does before after → Bound (flow_in old) before
    → GoesOn after.history history → IsHistory history → AllCohere history moves old new does
all_cohere [] old new does before after history meets bound goes is = tt
all_cohere (move ∷ moves) old new does before after history meets bound goes is =
    let later = goes_further meets.0.history after.history history (moves_on moves does.0 new does.2 meets.0 after meets.2) goes in
    let next = run_bound (flow_in old) (flow_in does.0) before meets.0 meets.1 bound in
    (coheres does.0 meets.0 history next later is, all_cohere moves does.0 new does.2 meets.0 after history meets.2 next goes is)

-- ---- the whole

ready_bound : {A : Type 0} {far : FarEnd} (first ready : Stand A far) (shown : Shown)
    → FollowsMeet ByDriver first ready shown → Bound (flow_in ready) shown
ready_bound first ready shown meets =
    run_bound (flow_in first) (flow_in ready) meets.before shown meets.runs (begins_bound (flow_in first) meets.before meets.begins)

pub prints_cohere : (A : Type 0) (far : FarEnd) → PrintsCohere A far ByDriver
prints_cohere A far aims roots first text from after meets =
    all_cohere from.prints.moves from.ready from.last from.prints.does meets.ready after after.history meets.prints
    (ready_bound first from.ready meets.ready meets.follows) (goes_nowhere after.history) meets.history

pub ends_cohere : (A : Type 0) (far : FarEnd) → EndsCohere A far ByDriver
ends_cohere A far aims roots for_ms first text is_accepted from after meets =
    let over = from.over in
    let ready = ready_bound first from.ready meets.ready meets.follows in
    let later = moves_on over.closes.moves over.over from.last over.closes.does meets.over after meets.closes in (
      all_cohere over.prints.moves from.ready over.over over.prints.does meets.ready meets.over after.history meets.prints
          ready later meets.history,
      all_cohere over.closes.moves over.over from.last over.closes.does meets.over after after.history meets.closes
          (moves_bound over.prints.moves from.ready over.over over.prints.does meets.ready meets.over meets.prints ready)
          (goes_nowhere after.history) meets.history,
    )

-- ---- by what streams know

moves_driver : {A : Type 0} {far : FarEnd} (moves : List (Move A)) (old new : Stand A far)
    (does : FoldsTo Does old moves new) (before after : Shown)
    → MovesMeet (RunMeets ByStream) moves old new does before after → MovesMeet (RunMeets ByDriver) moves old new does before after
moves_driver moves old new does before after meets =
    moves_too (λ (s : Shown). s) (RunMeets ByStream) (RunMeets ByDriver) run_driver moves old new does before after meets

follows_driver : {A : Type 0} {far : FarEnd} (first ready : Stand A far) (shown : Shown)
    → FollowsMeet ByStream first ready shown → FollowsMeet ByDriver first ready shown
follows_driver first ready shown meets = record {
  begins = meets.begins;
  before = meets.before;
  runs = run_driver (flow_in first) (flow_in ready) meets.before shown meets.runs;
}

pub streams_cohere : (A : Type 0) (far : FarEnd) → PrintsCohere A far ByStream
streams_cohere A far aims roots first text from after meets = prints_cohere A far aims roots first text from after (record {
  ready = meets.ready;
  follows = follows_driver first from.ready meets.ready meets.follows;
  prints = moves_driver from.prints.moves from.ready from.last from.prints.does meets.ready after meets.prints;
  history = meets.history;
})

pub ended_cohere : (A : Type 0) (far : FarEnd) → EndsCohere A far ByStream
ended_cohere A far aims roots for_ms first text is_accepted from after meets =
    ends_cohere A far aims roots for_ms first text is_accepted from after (record {
      ready = meets.ready;
      over = meets.over;
      follows = follows_driver first from.ready meets.ready meets.follows;
      prints = moves_driver from.over.prints.moves from.ready from.over.over from.over.prints.does meets.ready meets.over meets.prints;
      closes = moves_driver from.over.closes.moves from.over.over from.last from.over.closes.does meets.over after meets.closes;
      history = meets.history;
    })
