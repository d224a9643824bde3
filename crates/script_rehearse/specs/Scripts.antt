-- The rules of a rehearsal's lines.
use Rattle.script_words.specs.Scripts.{Rules}
use Rattle.script_story.specs.Stories as story
use Rattle.script_rehearse.specs.Rehearsed.{Position, Told, Agrees, HaltsLine, TakesLine, RefusesLine}

-- before the first line
abbrev pub first_position : Position
first_position = Told story.first_position

-- What a line makes of where a rehearsal stands, and what it prints: where it looks the good answers up, that each agrees with the
-- history, and of none that it differs. A client halts at an input that has an effect.
abbrev pub rules : Rules Position
rules = record {
  Takes = λ line old new text. TakesLine line old new text × Agrees line old text;
  Refuses = RefusesLine;
  Halts = λ line old. (after : Position) × HaltsLine line old after;
}
