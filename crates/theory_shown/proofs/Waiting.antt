-- Beside a run in which nothing comes a bench can go on: stretch by stretch, it takes what is written and does nothing else.
use Rattle.std.proofs.Common.{◌≡◌, ◌<◌, ◌++◌, ◌∙◌, ◌&&◌, ℕ, Bool, true, false, List, [], ◌∷◌, Option, Some, None, length, ap, append-nil}
use Rattle.std.proofs.Common.{arith, refl, sym, subst}
use Rattle.std.specs.FinSet as set
use Rattle.std.specs.List.{FoldsTo}
use mathlib.Core.Path.{fun_ext}
use Rattle.std.specs.Cmp.Lexicographic.{slice_cmp}
use Rattle.std.specs.Ordering.{nat_cmp}
use Rattle.zk_link.specs.FarEnds.{FarEnd}
use Rattle.zk_nodes.specs.Path.{NodePath, text_of}
use Rattle.zk_nodes.specs.declared.side.Side.{Side}
use Rattle.zk_nodes.specs.declared.side.Side.TheVariants as sides
use Rattle.zk_history.specs.HistoryView.{history_of}
use Rattle.zk_laws.specs.Server.{no_watches}
use Rattle.zk_bench.specs.declared.phase.Phase.TheVariants.{Opening}
use Rattle.zk_bench.specs.Served.{is_open, linked, with_requests, Served}
use Rattle.zk_bench.specs.Served as bench
use Rattle.zk_bench.specs.Serving.{is_named, watches_of}
use Rattle.zk_bench.specs.Stepping.{shown_watches, IsReady}
use Rattle.zk_agent.specs.declared.input.AgentInput.TheVariants as happens
use Rattle.zk_driver.specs.Driving.{Looked, Noted, Written}
use Rattle.zk_driver.specs.Flowing.{Asked, Deed, Flow, Made, Passes}
use Rattle.theory_drivers.specs.Acts.{Takes}
use Rattle.theory_drivers.specs.Worlds.{ByDriver}
use Rattle.theory_drivers.proofs.Turned.{goes_nowhere}
use Rattle.script_live.specs.Exchanged.{Exchanges, Known}
use Rattle.script_live.specs.Flowing as live
use Rattle.script_live.specs.Frames.{frames}
use Rattle.theory_shown.specs.Agreeing.{BefallsBench, LivesWait, MeanwhileBench as LiveBench, NothingIsRead}
use Rattle.theory_shown.specs.Benched.{BenchesWait, MeanwhileBench, MeetsBench, NothingComes}
use Rattle.theory_shown.specs.Lived.{ByClient, DeedsMeet}

-- ---- a bench stays ready

none : (b c : Bool) → c ≡ false → (b && c) ≡ false
none true c e = e
none false c e = refl

nothing : (side : Side) (path : NodePath) → watches_of (set.from_list []) (set.from_list []) side path ≡ no_watches side path
nothing sides.Data path = none (is_named path) _ (set.contains-empty (slice_cmp nat_cmp) (text_of path))
nothing sides.Child path = none (is_named path) _ (set.contains-empty (slice_cmp nat_cmp) (text_of path))

nothing_watched : shown_watches (linked Opening) ≡ no_watches
nothing_watched = fun_ext (λ side. fun_ext (λ path. nothing side path))

pub connected_ready : (before : Served) → IsReady before → IsReady (bench.connected before 0)
connected_ready before ready =
    let there : before.server < length before.taken = ready.there in
    record { taken = ready.taken; there = omega (arith, there); unwatched = λ opening. nothing_watched }

received_ready : (before : Served) (bytes : List ℕ) → IsReady before → IsReady (with_requests before bytes)
received_ready before bytes ready = record { taken = ready.taken; there = ready.there; unwatched = ready.unwatched }

-- ---- one deed

module _ {A : Type 0} {far : FarEnd} where
  -- what a bench is after a stretch in which nothing came
  record Stretch (there : Bool) (old new : Flow A far) (before : Served) : Type 0 where
    after : Served
    ready : IsReady after
    meets : MeanwhileBench ByDriver there old new before after
    history : after.history ≡ before.history

  wrote_all : (written : List ℕ) (old new : Flow A far) → old.course.channel.unsent ≡ written ++ new.course.channel.unsent
      → new.held ≡ old.held ++ [] → ByDriver (written ++ []) [] old new
  wrote_all written old new wrote read = record {
    wrote = wrote ∙ ap (λ took. took ++ new.course.channel.unsent) (sym (append-nil written));
    read = read;
  }

  there_stretch : (up : Bool) (written : List ℕ) (old new : Flow A far) (before : Served) → is_open before.connection.phase ≡ up
      → ByDriver (written ++ []) [] old new → IsReady before → Stretch true old new before
  there_stretch true written old new before up by ready = record {
    after = with_requests before written;
    ready = received_ready before written ready;
    meets = (
      Takes written ∷ [],
      (with_requests before written, (λ is. refl, λ down. let e : true ≡ false = sym up ∙ down in cc), refl),
      by,
    );
    history = refl;
  }
  there_stretch false written old new before down by ready = record {
    after = before;
    ready = ready;
    meets = (Takes written ∷ [], (before, (λ up. let e : true ≡ false = sym up ∙ down in cc, λ is. refl), refl), by);
    history = refl;
  }

  stretch : (there : Bool) (written : List ℕ) (old new : Flow A far) (before : Served)
      → old.course.channel.unsent ≡ written ++ new.course.channel.unsent → new.held ≡ old.held ++ [] → IsReady before
      → Stretch there old new before
  stretch true written old new before wrote read ready =
      there_stretch (is_open before.connection.phase) written old new before refl (wrote_all written old new wrote read) ready
  stretch false written old new before wrote read ready =
      record { after = before; ready = ready; meets = goes_nowhere (history_of before.history); history = refl }

  -- ---- a run

  record Waits (steps : List (Option (Deed A))) (old new : Flow A far) (passes : FoldsTo Passes old steps new)
      (before : Served) : Type 0 where
    after : Served
    meets : MeetsBench ByDriver steps old new passes before after
    history : after.history ≡ before.history

  waits : (steps : List (Option (Deed A))) (old new : Flow A far) (passes : FoldsTo Passes old steps new)
      → NothingComes steps old new passes → (before : Served) → IsReady before → Waits steps old new passes before
  waits [] old new passes quiet before ready = record { after = before; meets = refl; history = refl }
  waits (Some (Made Written) ∷ steps) old new passes quiet before ready =
      let one = stretch old.course.channel.is_open passes.1.1.sends.0 old passes.0 before passes.1.1.sends.1
      (passes.1.2 ∙ sym (append-nil old.held)) ready in
      let rest = waits steps passes.0 new passes.2 quiet one.after one.ready in
      record { after = rest.after; meets = (one.after, one.meets, rest.meets); history = rest.history ∙ one.history }
  waits (Some (Made (Looked look)) ∷ steps) old new passes quiet before ready =
      let one = stretch old.course.channel.is_open passes.1.1.sends.0 old passes.0 before passes.1.1.sends.1
      (quiet.0 ∙ sym (ap (λ held. held ++ []) passes.1.2)) ready in
      let rest = waits steps passes.0 new passes.2 quiet.1 one.after one.ready in
      record { after = rest.after; meets = (one.after, one.meets, rest.meets); history = rest.history ∙ one.history }
  waits (Some (Made (Noted now happens.Opened)) ∷ steps) old new passes quiet before ready =
      let then_ready = connected_ready before ready in
      let rest = waits steps passes.0 new passes.2 quiet (bench.connected before 0) then_ready in
      record {
        after = rest.after;
        meets = (bench.connected before 0, (before, refl, 0, ready, then_ready, refl), rest.meets);
        history = rest.history;
      }
  waits (Some (Made (Noted now happens.Failed)) ∷ steps) old new passes quiet before ready =
      let rest = waits steps passes.0 new passes.2 quiet before ready in
      record { after = rest.after; meets = (before, refl, rest.meets); history = rest.history }
  waits (Some (Made (Noted now happens.Cut)) ∷ steps) old new passes quiet before ready =
      let rest = waits steps passes.0 new passes.2 quiet before ready in
      record { after = rest.after; meets = (before, refl, rest.meets); history = rest.history }
  waits (Some (Made (Noted now (happens.Bytes bytes))) ∷ steps) old new passes quiet before ready =
      let rest = waits steps passes.0 new passes.2 quiet before ready in
      record { after = rest.after; meets = (before, refl, rest.meets); history = rest.history }
  waits (Some (Made (Noted now happens.Moment)) ∷ steps) old new passes quiet before ready =
      let rest = waits steps passes.0 new passes.2 quiet before ready in
      record { after = rest.after; meets = (before, refl, rest.meets); history = rest.history }
  waits (Some (Made (Noted now (happens.Addresses kept added is_listed))) ∷ steps) old new passes quiet before ready =
      let rest = waits steps passes.0 new passes.2 quiet before ready in
      record { after = rest.after; meets = (before, refl, rest.meets); history = rest.history }
  waits (Some (Made (Noted now (happens.Call ticket call until))) ∷ steps) old new passes quiet before ready =
      let rest = waits steps passes.0 new passes.2 quiet before ready in
      record { after = rest.after; meets = (before, refl, rest.meets); history = rest.history }
  waits (Some (Made (Noted now (happens.Follow ticket side path))) ∷ steps) old new passes quiet before ready =
      let rest = waits steps passes.0 new passes.2 quiet before ready in
      record { after = rest.after; meets = (before, refl, rest.meets); history = rest.history }
  waits (Some (Made (Noted now (happens.Unfollow ticket))) ∷ steps) old new passes quiet before ready =
      let rest = waits steps passes.0 new passes.2 quiet before ready in
      record { after = rest.after; meets = (before, refl, rest.meets); history = rest.history }
  waits (Some (Made (Noted now (happens.FollowTree ticket root most))) ∷ steps) old new passes quiet before ready =
      let rest = waits steps passes.0 new passes.2 quiet before ready in
      record { after = rest.after; meets = (before, refl, rest.meets); history = rest.history }
  waits (Some (Made (Noted now (happens.Credential credential))) ∷ steps) old new passes quiet before ready =
      let rest = waits steps passes.0 new passes.2 quiet before ready in
      record { after = rest.after; meets = (before, refl, rest.meets); history = rest.history }
  waits (Some (Made (Noted now (happens.UnfollowTree ticket))) ∷ steps) old new passes quiet before ready =
      let rest = waits steps passes.0 new passes.2 quiet before ready in
      record { after = rest.after; meets = (before, refl, rest.meets); history = rest.history }
  waits (Some (Asked now input) ∷ steps) old new passes quiet before ready =
      let rest = waits steps passes.0 new passes.2 quiet before ready in
      record { after = rest.after; meets = (before, refl, rest.meets); history = rest.history }
  waits (None ∷ steps) old new passes quiet before ready =
      let rest = waits steps passes.0 new passes.2 quiet before ready in
      record { after = rest.after; meets = rest.meets; history = rest.history }

pub benches_wait : (A : Type 0) (far : FarEnd) → BenchesWait A far
benches_wait A far steps old new passes quiet before ready =
    let all = waits steps old new passes quiet before ready in
    (all.after, all.meets, all.history)

-- ---- a client that a script drives

-- what a bench is after a stretch in which nothing came
record LiveStretch (there : Bool) (unsent still piece : List ℕ) (old new : Known) (before : Served) : Type 0 where
  after : Served
  ready : IsReady after
  meets : LiveBench ByClient there unsent still piece old new before after
  history : after.history ≡ before.history

live_there : (up : Bool) (written unsent still piece : List ℕ) (old new : Known) (before : Served) → is_open before.connection.phase ≡ up
    → ByClient (written ++ []) [] unsent still piece old new → IsReady before → LiveStretch true unsent still piece old new before
live_there true written unsent still piece old new before up by ready = record {
  after = with_requests before written;
  ready = received_ready before written ready;
  meets = (
    Takes written ∷ [],
    (with_requests before written, (λ is. refl, λ down. let e : true ≡ false = sym up ∙ down in cc), refl),
    by,
  );
  history = refl;
}
live_there false written unsent still piece old new before down by ready = record {
  after = before;
  ready = ready;
  meets = (Takes written ∷ [], (before, (λ up. let e : true ≡ false = sym up ∙ down in cc, λ is. refl), refl), by);
  history = refl;
}

live_stretch : (there : Bool) (unsent still piece : List ℕ) (old new : Known) (before : Served)
    → (there ≡ true → Exchanges unsent still old new piece) → piece ≡ [] → IsReady before
    → LiveStretch there unsent still piece old new before
live_stretch true unsent still piece old new before exchanges quiet ready =
    let sends = (exchanges refl).sends in
    live_there (is_open before.connection.phase) sends.0 unsent still piece old new before refl
    (record { wrote = sends.1 ∙ ap (λ took. took ++ still) (sym (append-nil sends.0)); read = quiet }) ready
live_stretch false unsent still piece old new before exchanges quiet ready =
    record { after = before; ready = ready; meets = goes_nowhere (history_of before.history); history = refl }

record LiveWaits (deeds : List live.Deed) (old new : live.Flow) (carries : FoldsTo live.Carries old deeds new) (before : Served)
    : Type 0 where
  after : Served
  meets : DeedsMeet (BefallsBench ByClient) deeds old new carries before after
  history : after.history ≡ before.history

live_waits : (deeds : List live.Deed) (old new : live.Flow) (carries : FoldsTo live.Carries old deeds new)
    → NothingIsRead deeds old new carries → (before : Served) → IsReady before → LiveWaits deeds old new carries before
live_waits [] old new carries quiet before ready = record { after = before; meets = refl; history = refl }
live_waits (live.Reads ∷ deeds) old new carries quiet before ready =
    let one = live_stretch old.is_open old.unsent carries.0.unsent carries.0.held old.known carries.0.known before
    (λ there. carries.1.0) quiet.0 ready in
    let rest = live_waits deeds carries.0 new carries.2 quiet.1 one.after one.ready in
    record { after = rest.after; meets = (one.after, one.meets, rest.meets); history = rest.history ∙ one.history }
live_waits (live.Hears turn ∷ deeds) old new carries quiet before ready =
    let one = live_stretch carries.0.is_open (old.unsent ++ frames turn.outputs) carries.0.unsent [] old.known carries.0.known before
    carries.1.0.4 refl ready in
    let rest = live_waits deeds carries.0 new carries.2 quiet one.after one.ready in
    record { after = rest.after; meets = (one.after, one.meets, rest.meets); history = rest.history ∙ one.history }
live_waits (live.Begins turn ∷ deeds) old new carries quiet before ready =
    let then_ready = connected_ready before ready in
    let between = carries.1.0.0 in
    let one = live_stretch carries.0.is_open (frames turn.outputs) carries.0.unsent [] between.known carries.0.known
    (bench.connected before 0)
    (λ there. subst (λ l. Exchanges (l ++ frames turn.outputs) carries.0.unsent between.known carries.0.known []) carries.1.0.1.2
    (carries.1.0.2.4 there)) refl then_ready in
    let rest = live_waits deeds carries.0 new carries.2 quiet one.after one.ready in
    record {
      after = rest.after;
      meets = (one.after, (0, ready, then_ready, one.meets), rest.meets);
      history = rest.history ∙ one.history;
    }
live_waits (live.Ends turn ∷ deeds) old new carries quiet before ready =
    let rest = live_waits deeds carries.0 new carries.2 quiet before ready in
    record { after = rest.after; meets = (before, goes_nowhere (history_of before.history), rest.meets); history = rest.history }
live_waits (live.Fails ∷ deeds) old new carries quiet before ready =
    let rest = live_waits deeds carries.0 new carries.2 quiet before ready in
    record { after = rest.after; meets = (before, refl, rest.meets); history = rest.history }
live_waits (live.Looks value text ∷ deeds) old new carries quiet before ready =
    let rest = live_waits deeds carries.0 new carries.2 quiet before ready in
    record { after = rest.after; meets = (before, refl, rest.meets); history = rest.history }

pub lives_wait : LivesWait
lives_wait deeds old new carries quiet before ready =
    let all = live_waits deeds old new carries quiet before ready in
    (all.after, all.meets, all.history)
