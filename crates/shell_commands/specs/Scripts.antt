-- What the script of a command is, and what its lines print.
use Rattle.std.specs.Prelude.{◌≡◌, ℕ, List, [], Option, IfSome}
use Rattle.zk_nodes.specs.Path.{Text}
use Rattle.script_words.specs.Scripts.{IsTranscript, progress}
use Rattle.script_words.specs.declared.script.ScriptEnd.{ScriptEnd}
use Rattle.script_live.specs.Lives as sessions
use Rattle.script_rehearse.specs.Scripts as rehearsals
use Rattle.script_replay.specs.Replays as replays
use Rattle.script_story.specs.Stories as stories
use Rattle.shell_commands.specs.declared.command.Command.{Command}
use Rattle.shell_commands.specs.declared.command.Command.TheVariants.{History, Replay, Rehearse, Live}

-- the script is what the reader gives, if that is known
abbrev pub IsInput : Option (List ℕ) → List ℕ → Type 0
IsInput given script = IfSome given (λ all. script ≡ all)

-- What the lines of a command's script print, by how they ended, and by the rules of its lines. A live session connects its client
-- before them. The other commands take no script.
abbrev pub IsTranscriptOf : Command → List Text → List ℕ → ScriptEnd → Type 0
IsTranscriptOf History lines text end = IsTranscript stories.rules (progress stories.first_position []) lines text end
IsTranscriptOf Replay lines text end = IsTranscript replays.rules (progress replays.first_position []) lines text end
IsTranscriptOf Rehearse lines text end = IsTranscript rehearsals.rules (progress rehearsals.first_position []) lines text end
IsTranscriptOf (Live addresses) lines text end = sessions.IsTranscript lines text end
IsTranscriptOf command lines text end = ⊥
