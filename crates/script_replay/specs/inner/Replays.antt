-- What contracts of private functions say: nobody has to believe it.
use Rattle.std.specs.Prelude.{◌≡◌}
use Rattle.script_replay.specs.declared.player.Player.{Player}
use Rattle.script_replay.specs.Courses.{StandsBy}
use Rattle.script_replay.specs.inner.Played.{view_of_player}
use Rattle.script_replay.specs.Replays.{Position}

-- A player is at a position where all that happened has led its client.
abbrev pub IsAt : {A : Type 0} → Player A → Position → Type 0
IsAt player position = (view_of_player player ≡ position.view) × StandsBy position.course position.view
