-- Over streams at whose far end a bench is, the bench does beside each run what its clauses say: step after step, what the stream says of
-- its far end is what the bench does. Its history stays, so each connection is one to a bench with the same history.
use Rattle.std.proofs.Common.{◌≡◌, ◌++◌, ◌∙◌, ℕ, Bool, true, false, List, [], ◌∷◌, Option, Some, None, ap, append-nil, lit<}
use Rattle.std.proofs.Common.{refl, sym, subst}
use Rattle.std.specs.List.{FoldsTo}
use Rattle.zk_link.specs.FarEnds.{Reached, Trades}
use Rattle.zk_nodes.specs.Path.{Text}
use Rattle.zk_nodes.specs.History.{IsHistory}
use Rattle.zk_nodes.specs.declared.side.Side.{Side}
use Rattle.zk_history.specs.HistoryView.{history_of, HistoryView}
use Rattle.theory_serving.proofs.Later.{taken_none}
use Rattle.zk_bench.specs.declared.phase.Phase.TheVariants.{Apart, Opening}
use Rattle.zk_bench.specs.Served.{started, Served}
use Rattle.zk_bench.specs.Served as bench
use Rattle.zk_bench.specs.Stepping.{shown_of, IsReady}
use Rattle.zk_agent.specs.declared.input.AgentInput.{AgentInput}
use Rattle.zk_agent.specs.declared.input.AgentInput.TheVariants as happens
use Rattle.zk_driver.specs.Driving.{ChannelView, Looked, Noted, Written}
use Rattle.zk_driver.specs.Flowing.{Asked, AreWithin, Carries, Deed, Flow, Made, Passes, Runs}
use Rattle.zk_driver.proofs.Flowed.{goes_on, open_before}
use Rattle.zk_driver.proofs.Running.{runs_join}
use Rattle.zk_bench_dial.specs.Lines.{bench_end, PastView}
use Rattle.zk_bench_dial.proofs.Meeting.{starts_at, trades_at, IsThere}
use Rattle.theory_drivers.specs.Worlds.{ByDriver}
use Rattle.theory_drivers.proofs.Turned.{goes_nowhere}
use Rattle.shell_watch.specs.declared.plan.Style.{Style}
use Rattle.shell_watch.specs.Watching.{flow_in, Does, IsBegun, Move, Prepares, PrintsFrom, Stand}
use Rattle.shell_watch.proofs.Running.{does_run, follows_run, moves_run}
use Rattle.theory_shown.specs.Agreeing.{RunBenches}
use Rattle.theory_shown.specs.Benched.{BefallsBench, MeanwhileBench, MeetsBench}
use Rattle.theory_shown.specs.Linked.{LinkedEndAgrees, LinkedWatchAgrees, MeetsPast}
use Rattle.theory_shown.specs.Watched.{AllCohere, MovesMeet}
use Rattle.theory_shown.proofs.Agreeing.{watch_agrees, watch_begins, watch_end_agrees}
use Rattle.theory_shown.proofs.Benched.{as_servers}
use Rattle.theory_shown.proofs.Waiting.{connected_ready}
use Rattle.theory_shown.proofs.Watched.{ends_cohere, prints_cohere}

-- ---- a bench is ready

started_ready : (history : HistoryView) → IsReady (started history)
started_ready history = record {
  taken = taken_none (history_of history) (started history).taken (refl, (refl, (refl, (refl, (refl, (refl, (refl, (refl, tt))))))));
  there = lit< tt;
  unwatched = λ opening. let e : Apart ≡ Opening = opening in cc;
}

-- ---- one deed

module _ (A : Type 0) (past : PastView) where
  abbrev Linked : Type 0
  Linked = Flow A (bench_end past)

  -- a bench beside a driver
  record Beside (flow : Linked) (served : Served) : Type 0 where
    history : served.history ≡ past.history
    there : flow.course.channel.is_open ≡ true → IsThere flow.known.end served

  record Befallen (old : Linked) (deed : Deed A) (new : Linked) (before : Served) : Type 0 where
    after : Served
    befalls : BefallsBench ByDriver old deed new before after
    beside : Beside new after

  record Stretches (there : Bool) (old new : Linked) (before : Served) : Type 0 where
    after : Served
    meets : MeanwhileBench ByDriver there old new before after
    beside : Beside new after

  -- bytes are written and read
  stretches : (there : Bool) (piece : List ℕ) (old new : Linked) (before : Served) → old.course.channel.is_open ≡ there
      → new.course.channel.is_open ≡ old.course.channel.is_open → new.held ≡ old.held ++ piece
      → Trades (bench_end past) old.course.channel.unsent new.course.channel.unsent piece old.known.end new.known.end
      → Beside old before → Stretches there old new before
  stretches true piece old new before is same held trades beside =
      let all = trades_at past old.course.channel.unsent new.course.channel.unsent piece old.known.end new.known.end before
      (beside.there is) trades in
      record {
        after = all.after;
        meets = (
          all.acts,
          all.does,
          record { wrote = all.wrote; read = held ∙ ap (λ l. old.held ++ l) (sym all.read) },
        );
        beside = record { history = all.history ∙ beside.history; there = λ up. all.there };
      }
  stretches false piece old new before is same held trades beside = record {
    after = before;
    meets = goes_nowhere (history_of before.history);
    beside = record { history = beside.history; there = λ up. let e : true ≡ false = sym up ∙ same ∙ is in cc };
  }

  -- a connection begins, if it is there when the agent has taken that
  begins_so : (now : ℕ) (old new : Linked) (before : Served) (there : Bool) → new.course.channel.is_open ≡ there
      → Carries old (Made (Noted now happens.Opened)) new → Beside old before
      → Befallen old (Made (Noted now happens.Opened)) new before
  begins_so now old new before true is carries beside =
      let starts = starts_at past new.known.end (carries.1 is) in
      let dialled = starts.begins in
      record {
        after = dialled.after;
        befalls = (
          dialled.before,
          dialled.left.0.1 ∙ sym beside.history,
          0,
          dialled.left.0.0,
          dialled.ready,
          dialled.connects,
        );
        beside = record {
          history = ap (λ (s : Served). s.history) dialled.connects ∙ dialled.left.0.1;
          there = λ up. starts.there;
        };
      }
  begins_so now old new before false is carries beside = record {
    after = bench.connected (started past.history) 0;
    befalls = (
      started past.history,
      sym beside.history,
      0,
      started_ready past.history,
      connected_ready (started past.history) (started_ready past.history),
      refl,
    );
    beside = record { history = refl; there = λ up. let e : true ≡ false = sym up ∙ is in cc };
  }

  -- the connection is as it was, or is over
  stays : (deed : Deed A) (old new : Linked) (before : Served) → Carries old deed new → AreWithin (deed ∷ [])
      → (new.course.channel.is_open ≡ true → new.known ≡ old.known) → Beside old before → Beside new before
  stays deed old new before carries within same beside = record {
    history = beside.history;
    there = λ up. subst (λ (k : Reached (bench_end past)). IsThere k.end before) (sym (same up))
        (beside.there (open_before deed old new carries within up));
  }

  quiet : (now : ℕ) (input : AgentInput A) (old new : Linked) (before : Served) → Carries old (Made (Noted now input)) new
      → AreWithin (Made (Noted now input) ∷ []) → Beside old before → Beside new before
  quiet now input old new before carries within beside =
      stays (Made (Noted now input)) old new before carries within (λ up. (goes_on now input old new carries within up).0) beside

  noted : (now : ℕ) (input : AgentInput A) (old new : Linked) (before : Served)
      → Carries old (Made (Noted now input)) new → Beside old before → Befallen old (Made (Noted now input)) new before
  noted now happens.Opened old new before carries beside =
      begins_so now old new before new.course.channel.is_open refl carries beside
  noted now happens.Failed old new before carries beside =
      record { after = before; befalls = refl; beside = quiet now happens.Failed old new before carries tt beside }
  noted now happens.Cut old new before carries beside =
      record { after = before; befalls = refl; beside = quiet now happens.Cut old new before carries tt beside }
  noted now (happens.Bytes bytes) old new before carries beside =
      record { after = before; befalls = refl; beside = quiet now (happens.Bytes bytes) old new before carries tt beside }
  noted now happens.Moment old new before carries beside =
      record { after = before; befalls = refl; beside = quiet now happens.Moment old new before carries tt beside }
  noted now (happens.Addresses kept added is_listed) old new before carries beside = absurd carries.0.1
  noted now (happens.Call ticket call until) old new before carries beside = absurd carries.0.1
  noted now (happens.Follow ticket side path) old new before carries beside = absurd carries.0.1
  noted now (happens.Unfollow ticket) old new before carries beside = absurd carries.0.1
  noted now (happens.FollowTree ticket root most) old new before carries beside = absurd carries.0.1
  noted now (happens.Credential credential) old new before carries beside = absurd carries.0.1
  noted now (happens.UnfollowTree ticket) old new before carries beside = absurd carries.0.1

  befallen : (deed : Deed A) (old new : Linked) (before : Served) → Carries old deed new → Beside old before → Befallen old deed new before
  befallen (Made Written) old new before carries beside =
      let one = stretches old.course.channel.is_open [] old new before refl carries.0.0.is_open
      (carries.2 ∙ sym (append-nil old.held)) carries.1.trades beside in
      record { after = one.after; befalls = one.meets; beside = one.beside }
  befallen (Made (Looked look)) old new before carries beside =
      let one = stretches old.course.channel.is_open new.held old new before refl carries.0.0.is_open
      (ap (λ held. held ++ new.held) (sym carries.2)) carries.1.trades beside in
      record { after = one.after; befalls = one.meets; beside = one.beside }
  befallen (Made (Noted now input)) old new before carries beside = noted now input old new before carries beside
  befallen (Asked now input) old new before carries beside =
      record { after = before; befalls = refl; beside = stays (Asked now input) old new before carries tt carries.2 beside }

  -- ---- a run

  record Met (steps : List (Option (Deed A))) (old new : Linked) (passes : FoldsTo Passes old steps new) (before : Served) : Type 0 where
    after : Served
    meets : MeetsBench ByDriver steps old new passes before after
    beside : Beside new after

  met : (steps : List (Option (Deed A))) (old new : Linked) (passes : FoldsTo Passes old steps new) (before : Served) → Beside old before
      → Met steps old new passes before
  met [] old new same before beside =
      record { after = before; meets = refl; beside = subst (λ (f : Linked). Beside f before) same beside }
  met (Some deed ∷ steps) old new passes before beside =
      let one = befallen deed old passes.0 before passes.1 beside in
      let rest = met steps passes.0 new passes.2 one.after one.beside in
      record { after = rest.after; meets = (one.after, one.befalls, rest.meets); beside = rest.beside }
  met (None ∷ steps) old new passes before beside =
      let told = subst (λ (f : Linked). Beside f before) (sym passes.1) (record { history = beside.history; there = beside.there }) in
      let rest = met steps passes.0 new passes.2 before told in
      record { after = rest.after; meets = rest.meets; beside = rest.beside }

  record Ran (old new : Linked) (before : Served) : Type 0 where
    after : Served
    benches : RunBenches ByDriver old new before after
    beside : Beside new after

  ran : (old new : Linked) (before : Served) → Runs old new → Beside old before → Ran old new before
  ran old new before runs beside =
      let all = met runs.steps old new runs.passes before beside in
      record {
        after = all.after;
        benches = record { runs = runs; meets = all.meets };
        beside = all.beside;
      }

  -- ---- a watch

  abbrev Watched : Type 0
  Watched = Stand A (bench_end past)

  record Moved (moves : List (Move A)) (old new : Watched) (does : FoldsTo Does old moves new) (before : Served) : Type 0 where
    after : Served
    meets : MovesMeet (RunBenches ByDriver) moves old new does before after
    beside : Beside (flow_in new) after

  moved : (moves : List (Move A)) (old new : Watched) (does : FoldsTo Does old moves new) (before : Served)
      → Beside (flow_in old) before → Moved moves old new does before
  moved [] old new same before beside =
      record { after = before; meets = refl; beside = subst (λ (s : Watched). Beside (flow_in s) before) same beside }
  moved (move ∷ moves) old new does before beside =
      let one = ran (flow_in old) (flow_in does.0) before (does_run move old does.0 does.1) beside in
      let rest = moved moves does.0 new does.2 one.after one.beside in
      record { after = rest.after; meets = (one.after, one.benches, rest.meets); beside = rest.beside }

  -- it begins with no connection
  beside_first : (style : Style) (most : ℕ) (first : Watched) → IsBegun style most first → Beside (flow_in first) (started past.history)
  beside_first style most first begun = record {
    history = refl;
    there = λ up. let e : true ≡ false = sym up ∙ ap (λ (c : ChannelView). c.is_open) begun.channel in cc;
  }

  followed : (style : Style) (roots : List Text) (most : ℕ) (aims : List (Side × Text)) (first ready : Watched)
      → IsBegun style most first → Prepares aims roots first ready → Ran (flow_in first) (flow_in ready) (started past.history)
  followed style roots most aims first ready begun follows =
      ran (flow_in first) (flow_in ready) (started past.history) (follows_run A (bench_end past) aims roots first ready follows)
      (beside_first style most first begun)

-- its driver meets servers up to where it has printed
pub watch_meets : (A : Type 0) (past : PastView) → IsHistory (history_of past.history) → (style : Style) (roots : List Text) (most : ℕ)
    (aims : List (Side × Text)) (first : Stand A (bench_end past)) (text : List ℕ) → IsBegun style most first
    → (from : PrintsFrom aims roots first text) → MeetsPast past first from.last
watch_meets A past is style roots most aims first text begun from =
    let runs = runs_join (flow_in first) (flow_in from.ready) (flow_in from.last)
    (follows_run A (bench_end past) aims roots first from.ready from.follows)
    (moves_run from.prints.moves from.ready from.last from.prints.does) in
    let all = ran A past (flow_in first) (flow_in from.last) (started past.history) runs (beside_first A past style most first begun) in
    let served = as_servers ByDriver (flow_in first) (flow_in from.last) all.after (record {
      begins = watch_begins style most first begun;
      runs = all.benches.runs;
      before = started past.history;
      meets = all.benches.meets;
      history = subst (λ (h : HistoryView). IsHistory (history_of h)) (sym all.beside.history) is;
    }) in
    (shown_of all.after, (served, ap (λ (h : HistoryView). history_of h) all.beside.history))

pub linked_watch_agrees : (A : Type 0) (past : PastView) → IsHistory (history_of past.history) → LinkedWatchAgrees A past
linked_watch_agrees A past is style roots most aims first text begun from =
    let follows = followed A past style roots most aims first from.ready begun from.follows in
    let prints = moved A past from.prints.moves from.ready from.last from.prints.does follows.after follows.beside in
    let same = prints.beside.history in
    subst (λ (h : HistoryView). AllCohere (history_of h) from.prints.moves from.ready from.last from.prints.does) same
    (watch_agrees A (bench_end past) ByDriver prints.after (prints_cohere A (bench_end past))
    (subst (λ (h : HistoryView). IsHistory (history_of h)) (sym same) is) style roots most aims first text begun from (record {
      before = started past.history;
      ready = follows.after;
      follows = follows.benches;
      prints = prints.meets;
    }))

pub linked_end_agrees : (A : Type 0) (past : PastView) → IsHistory (history_of past.history) → LinkedEndAgrees A past
linked_end_agrees A past is style roots most aims for_ms first text is_accepted begun from =
    let follows = followed A past style roots most aims first from.ready begun from.follows in
    let prints = moved A past from.over.prints.moves from.ready from.over.over from.over.prints.does follows.after follows.beside in
    let closes = moved A past from.over.closes.moves from.over.over from.last from.over.closes.does prints.after prints.beside in
    let same = closes.beside.history in
    subst (λ (h : HistoryView).
    AllCohere (history_of h) from.over.prints.moves from.ready from.over.over from.over.prints.does
    × AllCohere (history_of h) from.over.closes.moves from.over.over from.last from.over.closes.does) same
    (watch_end_agrees A (bench_end past) ByDriver closes.after (ends_cohere A (bench_end past))
    (subst (λ (h : HistoryView). IsHistory (history_of h)) (sym same) is) style roots most aims for_ms first text
    is_accepted begun from
    (record {
      before = started past.history;
      ready = follows.after;
      over = prints.after;
      follows = follows.benches;
      prints = prints.meets;
      closes = closes.meets;
    }))
