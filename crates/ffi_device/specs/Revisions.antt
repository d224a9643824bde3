-- When the revision of a session rises.
use Rattle.std.specs.Prelude.{ℕ, Bool, true, false, ◌||◌, List, if◌then◌else◌}
use Rattle.std.specs.List.{list_any}
use Rattle.zk_turns.specs.Turns as turns
use Rattle.zk_conclusions.specs.Revisions.{raised}
use Rattle.zk_agent.specs.Telling.{Told, Says, Begins}

-- whether another state is told, or another session
abbrev pub is_another : Told → Bool
is_another (Says (turns.Enters state)) = true
is_another Begins = true
is_another _ = false

-- The revision after a step: the next one if bytes came, or that was told. An agent keeps the reply to a read of a subject, and one that
-- comes after its call has timed out, and tells neither; both come in bytes.
abbrev pub revised : (is_bytes : Bool) → List Told → ℕ → ℕ
revised is_bytes told number = if is_bytes || list_any is_another told then raised number else number
