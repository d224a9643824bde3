-- What contracts of private functions say: nobody has to believe it.
use Rattle.std.specs.Prelude.{ℕ, List, Option}
use Rattle.zk_nodes.specs.Path.{Text}
use Rattle.zk_turns.specs.View.{View}
use Rattle.script_replay.specs.Courses.{Course, AddsLine, StandsBy}

-- A line takes a course to another one, where a client stands then that shows this.
pub record Follows (line : Text) (old : Option Course) (view : Option View) (text : List ℕ) : Type 0 where
  pub next : Option Course
  pub adds : AddsLine line old next text
  pub stands : StandsBy next view
