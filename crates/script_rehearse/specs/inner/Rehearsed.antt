-- What contracts of private functions say: nobody has to believe it.
use Rattle.std.specs.Prelude.{⊤, Option, Some, None}
use Rattle.std.specs.Option.{option_map}
use Rattle.zk_nodes.specs.Path.{Text}
use Rattle.script_words.specs.declared.stop.LineStop.{LineStop}
use Rattle.script_words.specs.declared.stop.LineStop.TheVariants.{Refused, Halted, Memory}
use Rattle.script_rehearse.specs.declared.rehearsal.Rehearsal.{Rehearsal}
use Rattle.script_rehearse.specs.RehearseLines.{RehearseValue, HistoryLine, BenchValueLine}
use Rattle.script_rehearse.specs.inner.Coherent.{IsServed}
use Rattle.script_rehearse.specs.Scenes.{Scene}
use Rattle.script_rehearse.specs.inner.Scenes.{scene_of}
use Rattle.script_rehearse.specs.Rehearsed.{Position, Told, Staged, HaltsBenchLine, RefusesHistory}
use Rattle.script_story.specs.Stories as story

abbrev pub position_by : story.Position → Option Scene → Position
position_by told None = Told told
position_by told (Some scene) = Staged scene

abbrev pub position_of : {A : Type 0} → Rehearsal A → Position
position_of rehearsal = position_by (story.position_of rehearsal.story) (option_map scene_of rehearsal.rig)

-- If a client was made, servers of the laws have served it.
abbrev pub IsServedAt : Position → Type 0
IsServedAt (Told told) = ⊤
IsServedAt (Staged scene) = IsServed scene

abbrev pub HaltsSaid : RehearseValue → Position → Position → Type 0
HaltsSaid (BenchValueLine value) old new = HaltsBenchLine value old new
HaltsSaid value old new = ⊥

-- why a line whose words say this is not done, if memory did not run out
abbrev pub IsDueOf : Text → RehearseValue → Position → LineStop → Type 0
IsDueOf line HistoryLine old (Refused fault) = RefusesHistory line old fault
IsDueOf line value old (Refused fault) = ⊥
IsDueOf line value old Halted = ⊤
IsDueOf line value old Memory = ⊤
