-- The rules of a replay's lines.
use Rattle.std.specs.Prelude.{ℕ, List, Option, None}
use Rattle.zk_nodes.specs.Path.{Text}
use Rattle.zk_turns.specs.View.{View}
use Rattle.script_words.specs.Scripts.{Rules}
use Rattle.script_replay.specs.Courses.{Course, AddsLine, StandsBy}
use Rattle.script_replay.specs.Played.{HaltsLine, RefusesLine, TakesLine}

-- Where a replay stands: its client, once there is one, and all that its lines made happen.
pub record Position : Type 0 where
  pub view : Option View
  pub course : Option Course

-- before the first line
abbrev pub first_position : Position
first_position = record { view = None; course = None }

-- A line goes on from a position, and prints this: what it makes of the client there; and by all that the lines make happen it is what
-- the definitions give, and the client stands where that has led.
pub record Moves (line : Text) (old new : Position) (text : List ℕ) : Type 0 where
  pub takes : TakesLine line old.view new.view text
  pub adds : AddsLine line old.course new.course text
  pub stands : StandsBy new.course new.view

-- A client halts at an input that has an effect.
abbrev pub rules : Rules Position
rules = record {
  Takes = Moves;
  Refuses = λ line old fault. RefusesLine line old.view fault;
  Halts = λ line old. (after : Option View) × HaltsLine line old.view after;
}
