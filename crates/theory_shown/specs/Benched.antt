-- A driver whose connections lead to a server in memory was served from the bench's history.
use Rattle.std.specs.Prelude.{◌≡◌, ⊤, ℕ, Bool, true, false, List, [], ◌∷◌, Option, Some, None}
use Rattle.std.specs.List.{FoldsTo}
use Rattle.zk_link.specs.FarEnds.{FarEnd}
use Rattle.zk_nodes.specs.History.{IsHistory}
use Rattle.zk_history.specs.HistoryView.{history_of}
use Rattle.zk_client.specs.Clients.{view_of}
use Rattle.zk_laws.specs.Headline.{IsCoherentWith}
use Rattle.theory_serving.specs.GoingOn.{GoesOn}
use Rattle.zk_conclusions.specs.Seen.{IsServedFrom}
use Rattle.zk_bench.specs.Served.{with_requests, Served}
use Rattle.zk_bench.specs.Served as bench
use Rattle.zk_bench.specs.Stepping.{shown_of, IsReady}
use Rattle.zk_agent.specs.declared.input.AgentInput.TheVariants as happens
use Rattle.zk_driver.specs.Driving.{Looked, Noted, Written}
use Rattle.zk_driver.specs.Flowing.{Deed, Flow, Made, Passes, Runs}
use Rattle.theory_drivers.specs.Acts.{given_in, taken_in, Act}
use Rattle.zk_bench_dial.specs.BenchActs.{BenchDoes}
use Rattle.theory_drivers.specs.ServedDrivers.{Begins}
use Rattle.theory_drivers.specs.Worlds.{ByDriver, Meets}

-- ---- beside what a driver does

module _ {A : Type 0} {far : FarEnd} (By : List ℕ → List ℕ → Flow A far → Flow A far → Type 0) where
  -- While a connection is there, the bench does things with these bytes; without one its history may go on.
  abbrev pub MeanwhileBench : Bool → (old new : Flow A far) → (before after : Served) → Type 0
  MeanwhileBench true old new before after =
      (acts : List Act) × FoldsTo BenchDoes before acts after × By (taken_in acts) (given_in acts) old new
  MeanwhileBench false old new before after = GoesOn (history_of before.history) (history_of after.history)

  -- A connection that begins is one to a server of the bench, or of another one that has the same history (`is`, `ready` of
  -- `Bench::connect`).
  abbrev pub BefallsBench : (old : Flow A far) → Deed A → (new : Flow A far) → (before after : Served) → Type 0
  BefallsBench old (Made Written) new before after = MeanwhileBench old.course.channel.is_open old new before after
  BefallsBench old (Made (Looked look)) new before after = MeanwhileBench old.course.channel.is_open old new before after
  BefallsBench old (Made (Noted now happens.Opened)) new before after =
      (begins : Served) × (begins.history ≡ before.history) × (server : ℕ) × IsReady begins × IsReady after
      × (after ≡ bench.connected begins server)
  BefallsBench old deed new before after = after ≡ before

  -- step after step
  abbrev pub MeetsBench : (steps : List (Option (Deed A))) → (old new : Flow A far)
      → FoldsTo Passes old steps new → (before after : Served) → Type 0
  MeetsBench [] old new passes before after = after ≡ before
  MeetsBench (Some deed ∷ steps) old new passes before after =
      (between : Served) × BefallsBench old deed passes.0 before between × MeetsBench steps passes.0 new passes.2 between after
  MeetsBench (None ∷ steps) old new passes before after = MeetsBench steps passes.0 new passes.2 before after

-- A driver goes on from its beginning, and a bench beside it, whose history is one in the end.
pub record DrivesBench {A : Type 0} {far : FarEnd} (By : List ℕ → List ℕ → Flow A far → Flow A far → Type 0) (old new : Flow A far)
    (after : Served) : Type 0 where
  pub begins : Begins old
  pub runs : Runs old new
  pub before : Served
  pub meets : MeetsBench By runs.steps old new runs.passes before after
  pub history : IsHistory (history_of after.history)

-- ---- what follows

-- What a bench does beside a whole run is what servers of the model do.
abbrev pub BenchesMeet : (A : Type 0) (far : FarEnd) → (List ℕ → List ℕ → Flow A far → Flow A far → Type 0) → Type 0
BenchesMeet A far By =
    (steps : List (Option (Deed A))) (old new : Flow A far) (passes : FoldsTo Passes old steps new) (before after : Served)
    → MeetsBench By steps old new passes before after
    → Meets By steps old new passes (shown_of before) (shown_of after)

-- So the client within was served from the bench's history.
abbrev pub BenchesServe : (A : Type 0) (far : FarEnd) → (List ℕ → List ℕ → Flow A far → Flow A far → Type 0) → Type 0
BenchesServe A far By = (old new : Flow A far) (after : Served) → DrivesBench By old new after
    → IsServedFrom (history_of after.history) (view_of new.course.agent.asker.follower.client)

-- And each of its good answers is this history's at the last seen zxid.
abbrev pub BenchesCohere : (A : Type 0) (far : FarEnd) → (List ℕ → List ℕ → Flow A far → Flow A far → Type 0) → Type 0
BenchesCohere A far By = (old new : Flow A far) (after : Served) → DrivesBench By old new after
    → IsCoherentWith (history_of after.history) (view_of new.course.agent.asker.follower.client)

-- Each ready bench can go on so, where a driver is told of a connection and writes: it begins the connection, and receives what is written.
abbrev pub BenchesReceive : Type 0 → FarEnd → Type 0
BenchesReceive A far =
    (now : ℕ) (old new : Flow A far) (passes : FoldsTo Passes old (Some (Made (Noted now happens.Opened)) ∷ Some (Made Written) ∷ []) new)
    (before : Served) (server : ℕ) (bytes : List ℕ) → IsReady before → IsReady (bench.connected before server)
    → passes.0.course.channel.is_open ≡ true → ByDriver bytes [] passes.0 passes.2.0
    → MeetsBench ByDriver (Some (Made (Noted now happens.Opened)) ∷ Some (Made Written) ∷ []) old new passes
    before (with_requests (bench.connected before server) bytes)

-- In a run nothing comes: no read brings a byte.
abbrev pub NothingComes : {A : Type 0} {far : FarEnd} → (steps : List (Option (Deed A))) → (old new : Flow A far)
    → FoldsTo Passes old steps new → Type 0
NothingComes [] old new passes = ⊤
NothingComes (Some (Made (Looked look)) ∷ steps) old new passes = (passes.0.held ≡ []) × NothingComes steps passes.0 new passes.2
NothingComes (step ∷ steps) old new passes = NothingComes steps passes.0 new passes.2

-- Whatever a driver does where nothing comes: each ready bench can go on beside it. Each connection that begins is one to its first server,
-- and this has all that is written. So the premise on what befalls a bench asks nothing of a run but what its reads bring.
abbrev pub BenchesWait : Type 0 → FarEnd → Type 0
BenchesWait A far =
    (steps : List (Option (Deed A))) (old new : Flow A far) (passes : FoldsTo Passes old steps new) → NothingComes steps old new passes
    → (before : Served) → IsReady before
    → (after : Served) × MeetsBench ByDriver steps old new passes before after × (after.history ≡ before.history)
