-- A watch whose connections lead to servers of the model prints what the history has.
use Rattle.std.specs.Prelude.{◌≡◌, ⊤, ℕ, Bool, List, [], ◌∷◌, Option}
use Rattle.std.specs.List.{FoldsTo}
use Rattle.zk_link.specs.FarEnds.{FarEnd}
use Rattle.zk_nodes.specs.History.{History, IsHistory}
use Rattle.zk_nodes.specs.Path.{Text}
use Rattle.zk_nodes.specs.declared.side.Side.{Side}
use Rattle.zk_laws.specs.Headline.{IsCoherentWith}
use Rattle.theory_serving.specs.Shown.{Shown}
use Rattle.zk_driver.specs.Flowing.{Flow, Runs}
use Rattle.theory_drivers.specs.ServedDrivers.{Begins}
use Rattle.theory_drivers.specs.Worlds.{Meets}
use Rattle.shell_watch.specs.Watching.{flow_in, view_in, Does, EndsFrom, Move, PrintsFrom, Stand}

-- ---- what goes on beside a watch

-- Where it is known what goes on beside a driver that comes from one place to another: so it goes on beside a watch, move by move.
module _ {A World : Type 0} {far : FarEnd} (Beside : (old new : Flow A far) → (before after : World) → Type 0) where
  abbrev pub MovesMeet : (moves : List (Move A)) → (old new : Stand A far) → FoldsTo Does old moves new → (before after : World) → Type 0
  MovesMeet [] old new does before after = after ≡ before
  MovesMeet (move ∷ moves) old new does before after =
      (between : World) × Beside (flow_in old) (flow_in does.0) before between × MovesMeet moves does.0 new does.2 between after

-- ---- servers beside a watch

-- A driver comes from one place to another by a run beside which servers go on so, with these bytes.
pub record RunMeets {A : Type 0} {far : FarEnd} (By : List ℕ → List ℕ → Flow A far → Flow A far → Type 0) (old new : Flow A far)
    (before after : Shown) : Type 0 where
  pub runs : Runs old new
  pub meets : Meets By runs.steps old new runs.passes before after

-- From its beginning on, up to where each subject is followed.
pub record FollowsMeet {A : Type 0} {far : FarEnd} (By : List ℕ → List ℕ → Flow A far → Flow A far → Type 0) (first ready : Stand A far)
    (shown : Shown) : Type 0 where
  pub begins : Begins (flow_in first)
  pub before : Shown
  pub runs : RunMeets By (flow_in first) (flow_in ready) before shown

-- From its beginning up to where it has printed this, and what servers show then has a history.
pub record PrintsMeet {A : Type 0} {far : FarEnd} (By : List ℕ → List ℕ → Flow A far → Flow A far → Type 0)
    (aims : List (Side × Text)) (roots : List Text) (first : Stand A far)
    (text : List ℕ) (from : PrintsFrom aims roots first text) (after : Shown) : Type 0 where
  pub ready : Shown
  pub follows : FollowsMeet By first from.ready ready
  pub prints : MovesMeet (RunMeets By) from.prints.moves from.ready from.last from.prints.does ready after
  pub history : IsHistory after.history

-- And if its time is over: through the end of its session.
pub record EndsMeet {A : Type 0} {far : FarEnd} (By : List ℕ → List ℕ → Flow A far → Flow A far → Type 0)
    (aims : List (Side × Text)) (roots : List Text) (for_ms : Option ℕ)
    (first : Stand A far) (text : List ℕ) (is_accepted : Bool) (from : EndsFrom aims roots for_ms first text is_accepted) (after : Shown)
    : Type 0 where
  pub ready : Shown
  pub over : Shown
  pub follows : FollowsMeet By first from.ready ready
  pub prints : MovesMeet (RunMeets By) from.over.prints.moves from.ready from.over.over from.over.prints.does ready over
  pub closes : MovesMeet (RunMeets By) from.over.closes.moves from.over.over from.last from.over.closes.does over after
  pub history : IsHistory after.history

-- ---- what is printed

-- Each good answer of the client that a move is printed of is the history's at its last seen zxid.
abbrev pub AllCohere : {A : Type 0} {far : FarEnd} → History → (moves : List (Move A)) → (old new : Stand A far)
    → FoldsTo Does old moves new → Type 0
AllCohere history [] old new does = ⊤
AllCohere history (move ∷ moves) old new does = IsCoherentWith history (view_in does.0) × AllCohere history moves does.0 new does.2

-- Whatever a watch has printed, wherever the cuts fell: by the history as it is in the end.
abbrev pub PrintsCohere : (A : Type 0) (far : FarEnd) → (List ℕ → List ℕ → Flow A far → Flow A far → Type 0) → Type 0
PrintsCohere A far By =
    (aims : List (Side × Text)) (roots : List Text) (first : Stand A far) (text : List ℕ) (from : PrintsFrom aims roots first text)
    (after : Shown) → PrintsMeet By aims roots first text from after
    → AllCohere after.history from.prints.moves from.ready from.last from.prints.does

-- and of one whose time is over, what it has printed then and what it prints at the end
abbrev pub EndsCohere : (A : Type 0) (far : FarEnd) → (List ℕ → List ℕ → Flow A far → Flow A far → Type 0) → Type 0
EndsCohere A far By =
    (aims : List (Side × Text)) (roots : List Text) (for_ms : Option ℕ) (first : Stand A far) (text : List ℕ) (is_accepted : Bool)
    (from : EndsFrom aims roots for_ms first text is_accepted) (after : Shown)
    → EndsMeet By aims roots for_ms first text is_accepted from after
    → AllCohere after.history from.over.prints.moves from.ready from.over.over from.over.prints.does
    × AllCohere after.history from.over.closes.moves from.over.over from.last from.over.closes.does
