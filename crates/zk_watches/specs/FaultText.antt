-- What is said of a fault, in words and by its code.
use Rattle.std.specs.Prelude.{List, ℕ, codes}
use Rattle.zk_watches.specs.declared.register_fault.RegisterFault.{RegisterFault}
use Rattle.zk_watches.specs.declared.register_fault.RegisterFault.TheVariants.{Full, Memory}

abbrev pub register_fault_words : RegisterFault → List ℕ
register_fault_words Full = codes "65,536 paths of the side are watched"
register_fault_words Memory = codes "out of memory"

abbrev pub register_fault_code : RegisterFault → List ℕ
register_fault_code Full = codes "W1"
register_fault_code Memory = codes "W2"
