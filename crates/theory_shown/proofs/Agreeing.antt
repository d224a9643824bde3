-- What is printed over connections to a server in memory is what its history has: such a server does what servers of the model do, so their
-- laws hold.
use Rattle.std.proofs.Common.{◌<◌, ◌^◌, ℕ, Bool, true, false, List, [], ◌++◌, refl, sym, subst, ap}
use Rattle.zk_link.specs.FarEnds.{FarEnd}
use Rattle.zk_nodes.specs.History.{IsHistory}
use Rattle.zk_turns.specs.Turns.{new_start}
use Rattle.zk_turns.specs.View.{View}
use Rattle.zk_turns.specs.Rule.{Stands}
use Rattle.zk_turns.proofs.Requested.{new_resumable}
use Rattle.theory_serving.specs.Shown.{Shown}
use Rattle.zk_history.specs.HistoryView.{history_of}
use Rattle.zk_bench.specs.Served.{Served}
use Rattle.zk_bench.specs.Served as bench
use Rattle.zk_bench.specs.Stepping.{shown_of}
use Rattle.script_live.specs.Exchanged.{Known}
use Rattle.zk_driver.specs.Driving.{ChannelView}
use Rattle.zk_driver.specs.Flowing.{Flow}
use Rattle.theory_drivers.specs.ServedDrivers.{Begins}
use Rattle.theory_drivers.proofs.Benched.{bench_connects}
use Rattle.script_replay.specs.Played.{start_of}
use Rattle.script_live.specs.Flowing as live
use Rattle.script_live.specs.Frames.{frames}
use Rattle.script_live.proofs.Living.{lives_print}
use Rattle.shell_watch.specs.declared.plan.Style.{Style}
use Rattle.shell_watch.specs.Watching.{flow_in, IsBegun, Stand}
use Rattle.theory_shown.specs.Agreeing.{BefallsBench, LifeAgrees, MeanwhileBench, RunBenches, WatchAgrees, WatchEndAgrees}
use Rattle.theory_shown.specs.Lived.{Befalls, LifeCoheres, Meanwhile}
use Rattle.theory_shown.specs.Watched.{EndsCohere, PrintsCohere, RunMeets}
use Rattle.theory_shown.proofs.Benched.{acts_done, benches_meet}
use Rattle.theory_shown.proofs.Lived.{deeds_too}
use Rattle.theory_shown.proofs.Starting.{begins_in_range}
use Rattle.theory_shown.proofs.Watched.{moves_too}

-- ---- a watch

-- it begins as its laws want
pub watch_begins : {A : Type 0} {far : FarEnd} (style : Style) (most : ℕ) (first : Stand A far)
    → IsBegun style most first → Begins (flow_in first)
watch_begins style most first begun = record {
  apart = ap (λ (c : ChannelView). c.is_open) begun.channel;
  start = new_start begun.timeout;
  stands = subst (λ (v : View). Stands (new_start begun.timeout) [] v) (sym begun.client)
      (record { standing = refl; saved = refl; lists = refl; cache = refl; going = λ _. refl; said = tt; asked = tt });
  resumable = new_resumable begun.timeout begun.below;
  timed = begun.least;
  later = new_resumable _ (subst (λ t. t < 2 ^ 31) (sym begun.later) begun.below);
  later_timed = subst (λ t. 0 < t) (sym begun.later) begun.least;
}

module _ {A : Type 0} {far : FarEnd} (By : List ℕ → List ℕ → Flow A far → Flow A far → Type 0) where
  run_servers : (old new : Flow A far) (before after : Served)
      → RunBenches By old new before after → RunMeets By old new (shown_of before) (shown_of after)
  run_servers old new before after run = record {
    runs = run.runs;
    meets = benches_meet By run.runs.steps old new run.runs.passes before after run.meets;
  }

pub watch_agrees : (A : Type 0) (far : FarEnd) (By : List ℕ → List ℕ → Flow A far → Flow A far → Type 0) (after : Served)
    → PrintsCohere A far By → IsHistory (history_of after.history) → WatchAgrees A far By after
watch_agrees A far By after cohere is style roots most aims first text begun from beside =
    cohere aims roots first text from (shown_of after) (record {
      ready = shown_of beside.ready;
      follows = record {
        begins = watch_begins style most first begun;
        before = shown_of beside.before;
        runs = run_servers By (flow_in first) (flow_in from.ready) beside.before beside.ready beside.follows;
      };
      prints = moves_too (λ (s : Served). shown_of s) (RunBenches By) (RunMeets By) (run_servers By) from.prints.moves
          from.ready from.last from.prints.does beside.ready after beside.prints;
      history = is;
    })

pub watch_end_agrees : (A : Type 0) (far : FarEnd) (By : List ℕ → List ℕ → Flow A far → Flow A far → Type 0) (after : Served)
    → EndsCohere A far By → IsHistory (history_of after.history) → WatchEndAgrees A far By after
watch_end_agrees A far By after cohere is style roots most aims for_ms first text is_accepted begun from beside =
    cohere aims roots for_ms first text is_accepted from (shown_of after) (record {
      ready = shown_of beside.ready;
      over = shown_of beside.over;
      follows = record {
        begins = watch_begins style most first begun;
        before = shown_of beside.before;
        runs = run_servers By (flow_in first) (flow_in from.ready) beside.before beside.ready beside.follows;
      };
      prints = moves_too (λ (s : Served). shown_of s) (RunBenches By) (RunMeets By) (run_servers By) from.over.prints.moves
          from.ready from.over.over from.over.prints.does beside.ready beside.over beside.prints;
      closes = moves_too (λ (s : Served). shown_of s) (RunBenches By) (RunMeets By) (run_servers By) from.over.closes.moves
          from.over.over from.last from.over.closes.does beside.over after beside.closes;
      history = is;
    })

-- ---- a client that a script drives

module _ (By : (took gave unsent still piece : List ℕ) → (old new : Known) → Type 0) where
  meanwhile_servers : (there : Bool) (unsent still piece : List ℕ) (old new : Known) (before after : Served)
      → MeanwhileBench By there unsent still piece old new before after
      → Meanwhile By there unsent still piece old new (shown_of before) (shown_of after)
  meanwhile_servers true unsent still piece old new before after meets = (meets.0, acts_done meets.0 before after meets.1, meets.2)
  meanwhile_servers false unsent still piece old new before after meets = meets

  befalls_servers : (deed : live.Deed) (old new : live.Flow) (carries : live.Carries old deed new) (before after : Served)
      → BefallsBench By old deed new carries before after → Befalls By old deed new carries (shown_of before) (shown_of after)
  befalls_servers live.Reads old new carries before after meets =
      meanwhile_servers old.is_open old.unsent new.unsent new.held old.known new.known before after meets
  befalls_servers (live.Hears turn) old new carries before after meets =
      meanwhile_servers new.is_open (old.unsent ++ frames turn.outputs) new.unsent [] old.known new.known before after meets
  befalls_servers (live.Begins turn) old new carries before after meets =
      let begun = bench_connects before meets.0 meets.1 meets.2 in (
        begun.0,
        begun.1,
        subst (λ (s : Shown). Meanwhile By new.is_open (frames turn.outputs) new.unsent [] carries.0.0.known new.known s (shown_of after))
            begun.2
            (meanwhile_servers new.is_open (frames turn.outputs) new.unsent [] carries.0.0.known new.known
            (bench.connected before meets.0) after meets.3),
      )
  befalls_servers (live.Ends turn) old new carries before after meets = meets
  befalls_servers live.Fails old new carries before after meets = ap (λ (s : Served). shown_of s) meets
  befalls_servers (live.Looks value text) old new carries before after meets = ap (λ (s : Served). shown_of s) meets

pub life_agrees : (By : (took gave unsent still piece : List ℕ) → (old new : Known) → Type 0) (after : Served)
    → LifeCoheres By → IsHistory (history_of after.history) → LifeAgrees By after
life_agrees By after cohere is lines text end lives =
    let printed = lives_print lines text end lives in
    let range = begins_in_range lines lives.start lives.begins in (
      printed.0,
      printed.1,
      λ before beside.
          cohere lives.first printed.0 text printed.1 (shown_of after) (record {
            apart = lives.apart;
            start = start_of lives.start;
            stands = subst (λ (v : View). Stands (start_of lives.start) [] v) (sym lives.made)
                (record { standing = refl; saved = refl; lists = refl; cache = refl; going = λ _. refl; said = tt; asked = tt });
            resumable = range.resumable;
            timed = range.timed;
            before = shown_of before;
            meets = deeds_too (λ (s : Served). shown_of s) (BefallsBench By) (Befalls By) (befalls_servers By) printed.1.deeds lives.first
                printed.0 printed.1.carries before after beside;
            history = is;
          }),
    )
