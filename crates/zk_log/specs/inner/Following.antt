-- How the operations are divided.
use Rattle.std.specs.Prelude.{Bool, true, false}
use Rattle.zk_log.specs.declared.kind.TxnKind.{TxnKind}
use Rattle.zk_log.specs.declared.kind.TxnKind.TheVariants.{Create, Create2, CreateContainer, CreateTtl}

abbrev pub makes_node : TxnKind → Bool
makes_node Create = true
makes_node Create2 = true
makes_node CreateContainer = true
makes_node CreateTtl = true
makes_node kind = false
