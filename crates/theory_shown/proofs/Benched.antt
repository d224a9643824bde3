-- What a bench does beside a driver is what servers of the model do: act by act, and so stretch by stretch of a run.
use Rattle.std.proofs.Common.{◌≡◌, ◌≤◌, ◌∙◌, ℕ, inl, inr, Bool, true, false, List, [], ◌∷◌, Some, None, ap, append-nil, refl, sym, subst}
use Rattle.std.specs.Prelude.{length, take}
use Rattle.std.specs.List.{FoldsTo}
use Rattle.zk_link.specs.FarEnds.{FarEnd}
use Rattle.theory_serving.specs.Shown.{connected, more_requests}
use Rattle.zk_history.specs.HistoryView.{history_of, HistoryView}
use Rattle.zk_client.specs.Clients.{view_of}
use Rattle.zk_client.proofs.Holding.{holds_here}
use Rattle.zk_conclusions.specs.Seen.{IsServedFrom}
use Rattle.zk_laws.specs.Headline.{IsCoherentWith}
use Rattle.zk_nodes.specs.History.{History}
use Rattle.zk_turns.specs.View.{View}
use Rattle.zk_bench.specs.declared.phase.Phase.{Phase}
use Rattle.zk_bench.specs.declared.phase.Phase.TheVariants.{Accepted, Apart, Ended, Opening}
use Rattle.zk_bench.specs.Served.{is_open, with_requests, Served}
use Rattle.zk_bench.specs.Served as bench
use Rattle.zk_bench.specs.Stepping.{phase_of, shown_of, IsReady}
use Rattle.zk_agent.specs.declared.input.AgentInput.TheVariants as happens
use Rattle.zk_driver.specs.Driving.{Looked, Noted, Written}
use Rattle.zk_driver.specs.Flowing.{Asked, Deed, Flow, Made}
use Rattle.theory_drivers.specs.Acts.{Act, Gives, Happens, Serves, Takes}
use Rattle.theory_drivers.specs.ServedDrivers.{MeetsServers}
use Rattle.theory_drivers.specs.Worlds.{Befalls, ByDriver, ByStream, Meanwhile}
use Rattle.theory_drivers.proofs.Benched.{bench_advances, bench_connects, bench_ends, bench_gives, bench_processes, bench_takes}
use Rattle.theory_drivers.proofs.Served.{bytes_serve, streams_cohere, streams_serve}
use Rattle.theory_shown.specs.Benched.{BenchesReceive}
use Rattle.zk_bench_dial.specs.BenchActs.{BenchDoes}
use Rattle.theory_shown.specs.Benched.{BefallsBench, BenchesCohere, BenchesMeet, BenchesServe, DrivesBench, MeanwhileBench}

-- ---- acts

-- bytes that come where the connection is not open are lost
more_lost : (phase : Phase) (requests bytes : List ℕ) → is_open phase ≡ false → more_requests (phase_of phase) requests bytes ≡ requests
more_lost Apart requests bytes down = refl
more_lost Opening requests bytes down = let e : false ≡ true = sym down in cc
more_lost Accepted requests bytes down = let e : false ≡ true = sym down in cc
more_lost Ended requests bytes down = refl

received : (up : Bool) (old new : Served) (bytes : List ℕ) → is_open old.connection.phase ≡ up
    → BenchDoes old (Takes bytes) new → Happens (shown_of old) (Takes bytes) (shown_of new)
received true old new bytes up does =
    subst (λ (s : Served). Happens (shown_of old) (Takes bytes) (shown_of s)) (sym (does.0 up)) (bench_takes old bytes up)
received false old new bytes down does =
    subst (λ (s : Served). Happens (shown_of old) (Takes bytes) (shown_of s)) (sym (does.1 down))
    (ap (λ requests. record (shown_of old) { requests = requests })
    (sym (more_lost old.connection.phase old.connection.requests bytes down)))

act_done : (act : Act) (old new : Served) → BenchDoes old act new → Happens (shown_of old) act (shown_of new)
act_done (Takes bytes) old new does = received (is_open old.connection.phase) old new bytes refl does
act_done (Gives bytes) old new does =
    subst (λ b. Happens (shown_of old) (Gives b) (shown_of new)) (sym does.1)
    (subst (λ (s : Served). Happens (shown_of old) (Gives (take does.0 old.connection.output)) (shown_of s)) (sym does.2)
    (bench_gives old does.0))
act_done Serves old new (inl advances) = bench_advances old new advances.up advances.takes
act_done Serves old new (inr (inl p)) =
    bench_processes old new p.payload p.rest p.up p.whole p.small p.history p.goes_on p.does
act_done Serves old new (inr (inr (inl same))) =
    subst (λ (s : Served). Happens (shown_of old) Serves (shown_of s)) (sym same) (bench_ends old)
act_done Serves old new (inr (inr (inr goes))) =
    inr (inr (record {
      goes_on = goes.2;
      over = ap (λ c. phase_of c.phase) goes.1 ∙ ap phase_of goes.0;
      output = ap (λ c. c.output) goes.1;
    }))

pub acts_done : (acts : List Act) (old new : Served) → FoldsTo BenchDoes old acts new → FoldsTo Happens (shown_of old) acts (shown_of new)
acts_done [] old new same = ap (λ (s : Served). shown_of s) same
acts_done (act ∷ acts) old new does =
    (shown_of does.0, act_done act old does.0 does.1, acts_done acts does.0 new does.2)

-- ---- a run

module _ {A : Type 0} {far : FarEnd} (By : List ℕ → List ℕ → Flow A far → Flow A far → Type 0) where
  meanwhile_done : (there : Bool) (old new : Flow A far) (before after : Served)
      → MeanwhileBench By there old new before after → Meanwhile By there old new (shown_of before) (shown_of after)
  meanwhile_done true old new before after meets = (meets.0, acts_done meets.0 before after meets.1, meets.2)
  meanwhile_done false old new before after meets = meets

  same_shown : (before after : Served) → after ≡ before → shown_of after ≡ shown_of before
  same_shown before after same = ap (λ (s : Served). shown_of s) same

  befalls_done : (deed : Deed A) (old new : Flow A far) (before after : Served)
      → BefallsBench By old deed new before after → Befalls By old deed new (shown_of before) (shown_of after)
  befalls_done (Made Written) old new before after meets = meanwhile_done old.course.channel.is_open old new before after meets
  befalls_done (Made (Looked look)) old new before after meets = meanwhile_done old.course.channel.is_open old new before after meets
  befalls_done (Made (Noted now happens.Opened)) old new before after meets =
      let connects = bench_connects meets.0 meets.2 meets.3 (subst (λ (s : Served). IsReady s) meets.5 meets.4) in (
        connects.0,
        subst (λ (h : HistoryView). connects.0 ≤ length (history_of h).transactions) meets.1 connects.1,
        ap (λ (s : Served). shown_of s) meets.5 ∙ connects.2
            ∙ ap (λ (h : HistoryView). connected connects.0 (record (shown_of before) { history = history_of h })) meets.1,
      )
  befalls_done (Made (Noted now happens.Failed)) old new before after meets = same_shown before after meets
  befalls_done (Made (Noted now happens.Cut)) old new before after meets = same_shown before after meets
  befalls_done (Made (Noted now (happens.Bytes bytes))) old new before after meets = same_shown before after meets
  befalls_done (Made (Noted now happens.Moment)) old new before after meets = same_shown before after meets
  befalls_done (Made (Noted now (happens.Addresses kept added is_listed))) old new before after meets = same_shown before after meets
  befalls_done (Made (Noted now (happens.Call ticket call until))) old new before after meets = same_shown before after meets
  befalls_done (Made (Noted now (happens.Follow ticket side path))) old new before after meets = same_shown before after meets
  befalls_done (Made (Noted now (happens.Unfollow ticket))) old new before after meets = same_shown before after meets
  befalls_done (Made (Noted now (happens.FollowTree ticket root most))) old new before after meets = same_shown before after meets
  befalls_done (Made (Noted now (happens.Credential credential))) old new before after meets = same_shown before after meets
  befalls_done (Made (Noted now (happens.UnfollowTree ticket))) old new before after meets = same_shown before after meets
  befalls_done (Asked now input) old new before after meets = same_shown before after meets

  pub benches_meet : BenchesMeet A far By
  benches_meet [] old new passes before after meets = same_shown before after meets
  benches_meet (Some deed ∷ steps) old new passes before after meets = (
    shown_of meets.0,
    befalls_done deed old passes.0 before meets.0 meets.1,
    benches_meet steps passes.0 new passes.2 meets.0 after meets.2,
  )
  benches_meet (None ∷ steps) old new passes before after meets = benches_meet steps passes.0 new passes.2 before after meets

  pub as_servers : (old new : Flow A far) (after : Served) → DrivesBench By old new after → MeetsServers By old new (shown_of after)
  as_servers old new after drives = record {
    begins = drives.begins;
    runs = drives.runs;
    before = shown_of drives.before;
    meets = benches_meet drives.runs.steps old new drives.runs.passes drives.before after drives.meets;
    history = drives.history;
  }

-- ---- the whole

pub benches_serve : (A : Type 0) (far : FarEnd) → BenchesServe A far ByStream
benches_serve A far old new after drives = streams_serve old new (shown_of after) (as_servers ByStream old new after drives)

pub benches_serve_bytes : (A : Type 0) (far : FarEnd) → BenchesServe A far ByDriver
benches_serve_bytes A far old new after drives = bytes_serve old new (shown_of after) (as_servers ByDriver old new after drives)

pub benches_cohere : (A : Type 0) (far : FarEnd) → BenchesCohere A far ByStream
benches_cohere A far old new after drives = streams_cohere old new (shown_of after) (as_servers ByStream old new after drives)

-- the good answers of a client that was served from a history are the history's
coherent : (h : History) (view : View) → IsServedFrom h view → IsCoherentWith h view
coherent h view seen = ((holds_here seen.start seen.items view seen.stands).served.coherent h seen.history seen.served).coherent

pub benches_cohere_bytes : (A : Type 0) (far : FarEnd) → BenchesCohere A far ByDriver
benches_cohere_bytes A far old new after drives =
    coherent (history_of after.history) (view_of new.course.agent.asker.follower.client) (benches_serve_bytes A far old new after drives)

-- ---- such a bench can be

pub benches_receive : (A : Type 0) (far : FarEnd) → BenchesReceive A far
benches_receive A far now old new passes before server bytes ready then_ready up by =
    let one = bench.connected before server in
    let after = with_requests one bytes in
    let done = subst (λ b. MeanwhileBench ByDriver b passes.0 passes.2.0 one after) (sym up) (
      Takes bytes ∷ [],
      (after, (λ up. refl, λ down. let e : true ≡ false = down in cc), refl),
      subst (λ took. ByDriver took [] passes.0 passes.2.0) (sym (append-nil bytes)) by,
    ) in
    (one, (before, refl, server, ready, then_ready, refl), (after, done, refl))
