-- How the reason is shown for which a line of a script is refused.
use Rattle.std.specs.Prelude.{ℕ, List, ◌++◌, codes}
use Rattle.zk_nodes.specs.FaultText.{path_fault_code}
use Rattle.script_words.specs.declared.script_fault.ScriptFault.{ScriptFault}
use Rattle.script_words.specs.declared.script_fault.ScriptFault.TheVariants.{Unknown, Place, Words, Number, Hex, Path, Order, Illegal}
use Rattle.script_words.specs.declared.script_fault.ScriptFault.TheVariants.{Memory}

abbrev pub script_fault_text : ScriptFault → List ℕ
script_fault_text Unknown = codes "unknown"
script_fault_text Place = codes "place"
script_fault_text Words = codes "words"
script_fault_text Number = codes "number"
script_fault_text Hex = codes "hex"
script_fault_text (Path fault) = codes "path " ++ path_fault_code fault
script_fault_text Order = codes "order"
script_fault_text Illegal = codes "illegal"
script_fault_text Memory = codes "out of memory"
