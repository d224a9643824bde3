-- What `watch` prints over a dial whose connections lead to servers in memory, which go through their history meanwhile, by what its
-- streams say of their far end.
use Rattle.std.specs.Prelude.{◌≡◌, ◌⊎◌, ℕ, Bool, List, [], Option}
use Rattle.zk_nodes.specs.Path.{Text}
use Rattle.zk_nodes.specs.declared.side.Side.{Side}
use Rattle.zk_history.specs.HistoryView.{history_of}
use Rattle.theory_serving.specs.Shown.{Shown}
use Rattle.theory_drivers.specs.ServedDrivers.{MeetsServers}
use Rattle.theory_drivers.specs.Worlds.{ByDriver}
use Rattle.zk_bench_dial.specs.Lines.{bench_end, PastView}
use Rattle.shell_watch.specs.declared.plan.Style.{Style}
use Rattle.shell_watch.specs.Watching.{flow_in, EndsFrom, IsBegun, IsStood, IsWatched, PrintsFrom, Stand}
use Rattle.theory_shown.specs.Watched.{AllCohere}

-- Each good answer of the client of which a watch prints a line is the answer of this history at the last seen zxid that this line has,
-- wherever pieces and cuts fall: by what a watch has printed (`IsPrinted` of its contract), over streams at whose far end a bench is whose
-- server goes through this history.
abbrev pub LinkedWatchAgrees : Type 0 → PastView → Type 0
LinkedWatchAgrees A past =
    (style : Style) (roots : List Text) (most : ℕ) (aims : List (Side × Text)) (first : Stand A (bench_end past)) (text : List ℕ)
    → IsBegun style most first → (from : PrintsFrom aims roots first text)
    → AllCohere (history_of past.history) from.prints.moves from.ready from.last from.prints.does

-- And of one whose time is over (`IsWatched`): what it has printed then, and what it prints at the end.
abbrev pub LinkedEndAgrees : Type 0 → PastView → Type 0
LinkedEndAgrees A past =
    (style : Style) (roots : List Text) (most : ℕ) (aims : List (Side × Text)) (for_ms : Option ℕ) (first : Stand A (bench_end past))
    (text : List ℕ) (is_accepted : Bool) → IsBegun style most first → (from : EndsFrom aims roots for_ms first text is_accepted)
    → AllCohere (history_of past.history) from.over.prints.moves from.ready from.over.over from.over.prints.does
    × AllCohere (history_of past.history) from.over.closes.moves from.over.over from.last from.over.closes.does

-- ---- what `watch` itself says

-- The driver of a watch meets servers of this history, from its beginning up to where it stands: what laws about drivers take
-- (`MeetsServers`).
abbrev pub MeetsPast : {A : Type 0} (past : PastView) → (first last : Stand A (bench_end past)) → Type 0
MeetsPast past first last =
    (after : Shown) × (MeetsServers ByDriver (flow_in first) (flow_in last) after × (after.history ≡ history_of past.history))

-- What `watch` says that it has printed over streams at whose far end a bench with this history is (`IsPrinted`), and that it is this
-- history's. So each watch that prints is a witness of `MeetsServers`.
pub record HasPrinted (A : Type 0) (past : PastView) (style : Style) (aims : List (Side × Text)) (roots : List Text) (most : ℕ)
    (text : List ℕ) : Type 0 where
  pub first : Stand A (bench_end past)
  pub begun : IsBegun style most first
  pub from : PrintsFrom aims roots first text
  pub stood : IsStood from.ready text from.last from.prints
  pub meets : MeetsPast past first from.last
  pub coheres : AllCohere (history_of past.history) from.prints.moves from.ready from.last from.prints.does

abbrev pub PrintsPast : (A : Type 0) → PastView → Style → List (Side × Text) → (roots : List Text) → (most : ℕ) → List ℕ → Type 0
PrintsPast A past style aims roots most text = (text ≡ []) ⊎ HasPrinted A past style aims roots most text

-- The same if its time is over.
pub record WatchesPast (A : Type 0) (past : PastView) (style : Style) (aims : List (Side × Text)) (roots : List Text) (most : ℕ)
    (for_ms : Option ℕ) (text : List ℕ) (is_accepted : Bool) : Type 0 where
  pub watched : IsWatched A (bench_end past) style aims roots most for_ms text is_accepted
  pub coheres : AllCohere (history_of past.history) watched.2.over.prints.moves watched.2.ready watched.2.over.over
      watched.2.over.prints.does
  pub closes : AllCohere (history_of past.history) watched.2.over.closes.moves watched.2.over.over watched.2.last watched.2.over.closes.does
