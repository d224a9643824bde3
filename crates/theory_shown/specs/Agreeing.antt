-- What `watch` and `live` print over connections to a server in memory is what that server's history has.
use Rattle.std.specs.Prelude.{◌≡◌, ◌++◌, ⊤, ℕ, Bool, true, false, List, [], ◌∷◌, Option}
use Rattle.std.specs.List.{FoldsTo}
use Rattle.zk_link.specs.FarEnds.{FarEnd}
use Rattle.zk_nodes.specs.Path.{Text}
use Rattle.zk_nodes.specs.declared.side.Side.{Side}
use Rattle.zk_history.specs.HistoryView.{history_of}
use Rattle.theory_serving.specs.GoingOn.{GoesOn}
use Rattle.zk_bench.specs.Served.{Served}
use Rattle.zk_bench.specs.Served as bench
use Rattle.zk_bench.specs.Stepping.{IsReady}
use Rattle.script_live.specs.Exchanged.{Known}
use Rattle.zk_driver.specs.Flowing.{Flow, Runs}
use Rattle.theory_drivers.specs.Acts.{given_in, taken_in, Act}
use Rattle.script_words.specs.declared.script.ScriptEnd.{ScriptEnd}
use Rattle.script_live.specs.Flowing as live
use Rattle.script_live.specs.Frames.{frames}
use Rattle.script_live.specs.Lives.{Lives}
use Rattle.script_live.specs.Printed as lived
use Rattle.shell_watch.specs.declared.plan.Style.{Style}
use Rattle.shell_watch.specs.Watching.{flow_in, EndsFrom, IsBegun, PrintsFrom, Stand}
use Rattle.zk_bench_dial.specs.BenchActs.{BenchDoes}
use Rattle.theory_shown.specs.Benched.{MeetsBench}
use Rattle.theory_shown.specs.Lived.{ByClient, DeedsMeet}
use Rattle.theory_shown.specs.Lived as lived_so
use Rattle.theory_shown.specs.Watched.{AllCohere, MovesMeet}

-- ---- a bench beside a watch

-- A driver comes from one place to another by a run, beside which a bench does what its clauses say, with these bytes.
pub record RunBenches {A : Type 0} {far : FarEnd} (By : List ℕ → List ℕ → Flow A far → Flow A far → Type 0)
    (old new : Flow A far) (before after : Served)
    : Type 0 where
  pub runs : Runs old new
  pub meets : MeetsBench By runs.steps old new runs.passes before after

-- So does a watch, from its beginning on: up to where each subject is followed, and up to where it has printed this.
pub record PrintsBench {A : Type 0} {far : FarEnd} (By : List ℕ → List ℕ → Flow A far → Flow A far → Type 0)
    (aims : List (Side × Text)) (roots : List Text) (first : Stand A far)
    (text : List ℕ) (from : PrintsFrom aims roots first text) (after : Served) : Type 0 where
  pub before : Served
  pub ready : Served
  pub follows : RunBenches By (flow_in first) (flow_in from.ready) before ready
  pub prints : MovesMeet (RunBenches By) from.prints.moves from.ready from.last from.prints.does ready after

-- And if its time is over: through the end of its session.
pub record EndsBench {A : Type 0} {far : FarEnd} (By : List ℕ → List ℕ → Flow A far → Flow A far → Type 0)
    (aims : List (Side × Text)) (roots : List Text) (for_ms : Option ℕ)
    (first : Stand A far) (text : List ℕ) (is_accepted : Bool) (from : EndsFrom aims roots for_ms first text is_accepted) (after : Served)
    : Type 0 where
  pub before : Served
  pub ready : Served
  pub over : Served
  pub follows : RunBenches By (flow_in first) (flow_in from.ready) before ready
  pub prints : MovesMeet (RunBenches By) from.over.prints.moves from.ready from.over.over from.over.prints.does ready over
  pub closes : MovesMeet (RunBenches By) from.over.closes.moves from.over.over from.last from.over.closes.does over after

-- Each good answer of the client of which a watch prints a line is the answer of the bench's history at the last seen zxid that this line
-- has, wherever pieces and cuts fall: by what a watch has printed (`IsPrinted` of its contract), and by the bench as it is in the end.
abbrev pub WatchAgrees : (A : Type 0) (far : FarEnd) → (List ℕ → List ℕ → Flow A far → Flow A far → Type 0) → Served → Type 0
WatchAgrees A far By after =
    (style : Style) (roots : List Text) (most : ℕ) (aims : List (Side × Text)) (first : Stand A far) (text : List ℕ)
    → IsBegun style most first → (from : PrintsFrom aims roots first text)
    → PrintsBench By aims roots first text from after
    → AllCohere (history_of after.history) from.prints.moves from.ready from.last from.prints.does

-- And of one whose time is over (`IsWatched`): what it has printed then, and what it prints at the end.
abbrev pub WatchEndAgrees : (A : Type 0) (far : FarEnd) → (List ℕ → List ℕ → Flow A far → Flow A far → Type 0) → Served → Type 0
WatchEndAgrees A far By after =
    (style : Style) (roots : List Text) (most : ℕ) (aims : List (Side × Text)) (for_ms : Option ℕ) (first : Stand A far) (text : List ℕ)
    (is_accepted : Bool) → IsBegun style most first → (from : EndsFrom aims roots for_ms first text is_accepted)
    → EndsBench By aims roots for_ms first text is_accepted from after
    → AllCohere (history_of after.history) from.over.prints.moves from.ready from.over.over from.over.prints.does
    × AllCohere (history_of after.history) from.over.closes.moves from.over.over from.last from.over.closes.does

-- ---- a bench beside a client that a script drives

module _ (By : (took gave unsent still piece : List ℕ) → (old new : Known) → Type 0) where
  -- While a connection is there, the bench does things with these bytes; without one its history may go on.
  abbrev pub MeanwhileBench : Bool → (unsent still piece : List ℕ) → (old new : Known) → (before after : Served) → Type 0
  MeanwhileBench true unsent still piece old new before after =
      (acts : List Act) × FoldsTo BenchDoes before acts after × By (taken_in acts) (given_in acts) unsent still piece old new
  MeanwhileBench false unsent still piece old new before after = GoesOn (history_of before.history) (history_of after.history)

  -- A connection that begins is one to a server of the bench (`is`, `ready` of `Bench::connect`).
  abbrev pub BefallsBench : (old : live.Flow) → (deed : live.Deed) → (new : live.Flow) → live.Carries old deed new
      → (before after : Served) → Type 0
  BefallsBench old live.Reads new carries before after =
      MeanwhileBench old.is_open old.unsent new.unsent new.held old.known new.known before after
  BefallsBench old (live.Hears turn) new carries before after =
      MeanwhileBench new.is_open (old.unsent ++ frames turn.outputs) new.unsent [] old.known new.known before after
  BefallsBench old (live.Begins turn) new carries before after =
      (server : ℕ) × IsReady before × IsReady (bench.connected before server)
      × MeanwhileBench new.is_open (frames turn.outputs) new.unsent [] carries.0.0.known new.known (bench.connected before server) after
  BefallsBench old (live.Ends turn) new carries before after = GoesOn (history_of before.history) (history_of after.history)
  BefallsBench old deed new carries before after = after ≡ before

-- By these deeds nothing comes: no read brings a byte.
abbrev pub NothingIsRead : (deeds : List live.Deed) → (old new : live.Flow) → FoldsTo live.Carries old deeds new → Type 0
NothingIsRead [] old new carries = ⊤
NothingIsRead (live.Reads ∷ deeds) old new carries = (carries.0.held ≡ []) × NothingIsRead deeds carries.0 new carries.2
NothingIsRead (deed ∷ deeds) old new carries = NothingIsRead deeds carries.0 new carries.2

-- Whatever a client does if nothing comes: each ready bench can go on beside it.
abbrev pub LivesWait : Type 0
LivesWait =
    (deeds : List live.Deed) (old new : live.Flow) (carries : FoldsTo live.Carries old deeds new) → NothingIsRead deeds old new carries
    → (before : Served) → IsReady before
    → (after : Served) × DeedsMeet (BefallsBench ByClient) deeds old new carries before after × (after.history ≡ before.history)

-- All that `live` prints of its lines, by its contract (`Lives`), is what a list of deeds prints. If a bench goes on beside these, each
-- good answer that the client has after each of them, and that is looked up and printed, is the answer of the bench's history at the last
-- seen zxid, wherever pieces and cuts fall.
abbrev pub LifeAgrees : ((took gave unsent still piece : List ℕ) → (old new : Known) → Type 0) → Served → Type 0
LifeAgrees By after =
    (lines : List Text) (text : List ℕ) (end : ScriptEnd) (lives : Lives lines text end)
    → (last : live.Flow) × (prints : lived.Prints lives.first last [] text)
    × ((before : Served) → DeedsMeet (BefallsBench By) prints.deeds lives.first last prints.carries before after
    → lived_so.AllCohere (history_of after.history) prints.deeds lives.first last prints.carries)
