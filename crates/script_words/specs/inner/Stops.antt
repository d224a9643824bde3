-- What contracts of private functions say: nobody has to believe it.
use Rattle.std.specs.Prelude.{◌≡◌, ⊤, Result, Err}
use Rattle.script_words.specs.declared.script_fault.ScriptFault.{ScriptFault}
use Rattle.script_words.specs.declared.stop.LineStop.{LineStop}
use Rattle.script_words.specs.declared.stop.LineStop.TheVariants.{Refused, Halted, Memory}

-- what words say is refused for this reason, if memory did not run out
abbrev pub IsDueBy : {X : Type 0} → Result X ScriptFault → LineStop → Type 0
IsDueBy said (Refused fault) = said ≡ Err fault
IsDueBy said Halted = ⊤
IsDueBy said Memory = ⊤
