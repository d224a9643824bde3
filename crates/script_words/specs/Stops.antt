-- Why a line of a script is not done.
use Rattle.std.specs.Prelude.{⊤}
use Rattle.script_words.specs.declared.script_fault.ScriptFault.{ScriptFault}
use Rattle.script_words.specs.declared.script_fault.ScriptFault.TheVariants as faults
use Rattle.script_words.specs.declared.stop.LineStop.{LineStop}
use Rattle.script_words.specs.declared.stop.LineStop.TheVariants.{Refused, Halted, Memory}

abbrev pub stop_of : ScriptFault → LineStop
stop_of faults.Memory = Memory
stop_of fault = Refused fault

-- memory ran out, in a step of the client or elsewhere
abbrev pub IsWant : LineStop → Type 0
IsWant (Refused fault) = ⊥
IsWant Halted = ⊤
IsWant Memory = ⊤

-- this, where a step of the client ran out of memory
abbrev pub IfHalted : Type 0 → LineStop → Type 0
IfHalted halts (Refused fault) = ⊤
IfHalted halts Halted = halts
IfHalted halts Memory = ⊤
