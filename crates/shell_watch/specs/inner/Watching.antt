-- What contracts of private functions say: nobody has to believe it.
use Rattle.std.specs.Prelude.{◌≡◌, ◌≢◌, ◌≤◌, ℕ, Bool, true, List, [], ◌++◌}
use Rattle.std.specs.Prelude.{Option, None}
use Rattle.std.specs.Io.KnownBytes.{Appends}
use Rattle.zk_nodes.specs.Path.{Text}
use Rattle.zk_turns.specs.View.{View}
use Rattle.zk_agent.specs.Telling.{Told}
use Rattle.zk_driver.specs.declared.engine.Engine.{Engine}
use Rattle.zk_driver.specs.Driving.{course_of}
use Rattle.zk_link.specs.FarEnds.{reached_of, FarEnd}
use Rattle.zk_driver.specs.Noting.{is_come}
use Rattle.zk_driver.specs.declared.turn.Turn.{Turn}
use Rattle.shell_watch.specs.Lines.{turn_line}
use Rattle.shell_watch.specs.declared.plan.Style.{Style}
use Rattle.shell_watch.specs.declared.growth.Growth.{Growth}
use Rattle.shell_watch.specs.declared.shown.Watched.{Watched}
use Rattle.shell_watch.specs.Trees.{staying}
use Rattle.shell_watch.specs.Watching.{ShowsAll, Stand, Turns, Prints, EndsBy}

abbrev pub stand_of : {A S : Type 0} → (remaining contents : S → Option (List ℕ)) → (far : FarEnd) → (state : S → far.State)
    → Engine A S → List (Watched A) → (is_accepted : Bool) → Style → Growth → Stand A far
stand_of remaining contents far state engine watched is_accepted style growth = record {
  course = course_of engine None;
  known = reached_of remaining contents far state engine.channel.stream;
  watched = watched;
  is_accepted = is_accepted;
  style = style;
  growth = growth;
}

-- The line of a turn, with some address.
abbrev pub LinesOf : {A : Type 0} → Style → (ms : ℕ) → Turn A → View → List (Watched A) → List ℕ → Type 0
LinesOf style ms turn view watched text = (at : Text) × (text ≡ turn_line style ms watched at view turn)

-- Subjects are shown if nothing waits to be told, those that were let go are watched no more then, and this is added to a text.
pub record ShowsThen {A : Type 0} (style : Style) (ms : ℕ) (view : View) (waits : List Told) (old new : List (Watched A))
    (before after : List ℕ) : Type 0 where
  pub here : List (Watched A)
  pub shown : List ℕ
  pub shows : waits ≡ [] → ShowsAll style ms view old here shown × (new ≡ staying here)
  pub rests : waits ≢ [] → (new ≡ old) × (shown ≡ [])
  pub added : after ≡ before ++ shown

-- One turn, by whose moment this one may have come.
pub record Heard {A : Type 0} {far : FarEnd} (until : ℕ) (is_over : Bool) (old : Stand A far) (text : List ℕ)
    (new : Stand A far) : Type 0 where
  pub turn : Turn A
  pub turns : Turns turn old text new
  pub over : is_over ≡ is_come turn
  pub comes : is_over ≡ true → (until ≤ new.course.agent.latest) × (new.course.told ≡ [])

-- They do, and it is written.
abbrev pub Writes : {A : Type 0} {far : FarEnd} → (old new : Stand A far) → (before after : Option (List ℕ)) → Type 0
Writes old new before after = (text : List ℕ) × Prints old text new × Appends before after text

-- some do, to where nobody sees
abbrev pub WritesOn : {A : Type 0} {far : FarEnd} → (old : Stand A far) → (before after : Option (List ℕ)) → Type 0
WritesOn {A} {far} old before after = (last : Stand A far) × Writes old last before after

-- The session is ended so, and that is written.
abbrev pub WritesEnd : {A : Type 0} {far : FarEnd} → (old new : Stand A far) → (before after : Option (List ℕ)) → Type 0
WritesEnd old new before after = (text : List ℕ) × (prints : Prints old text new) × EndsBy old prints.moves × Appends before after text
