-- What is said of a path's fault, in words and by its code.
use Rattle.std.specs.Prelude.{codes}
use Rattle.zk_nodes.specs.Path.{Text}
use Rattle.zk_nodes.specs.declared.path_fault.PathFault.{PathFault}
use Rattle.zk_nodes.specs.declared.path_fault.PathFault.TheVariants as path

abbrev pub path_fault_words : PathFault → Text
path_fault_words path.Empty = codes "the path is empty"
path_fault_words path.TooLong = codes "the path has more than 4,096 bytes"
path_fault_words path.NoSlashFirst = codes "the path does not begin with a slash"
path_fault_words path.BadCharacter = codes "the path has a character that no path may have"
path_fault_words path.EmptyName = codes "the path has an empty name: two slashes follow one another, or it ends with a slash"
path_fault_words path.DotName = codes "the path has a name of one dot or of two"
path_fault_words path.SlashInName = codes "the name has a slash"
path_fault_words path.Memory = codes "out of memory"

abbrev pub path_fault_code : PathFault → Text
path_fault_code path.Empty = codes "P1"
path_fault_code path.TooLong = codes "P2"
path_fault_code path.NoSlashFirst = codes "P3"
path_fault_code path.BadCharacter = codes "P4"
path_fault_code path.EmptyName = codes "P5"
path_fault_code path.DotName = codes "P6"
path_fault_code path.SlashInName = codes "P8"
path_fault_code path.Memory = codes "P7"
