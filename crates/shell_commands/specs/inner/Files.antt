-- What contracts of private functions say: nobody has to believe it.
use Rattle.std_io.specs.declared.io.kind.ErrorKind.{ErrorKind}
use Rattle.std_io.specs.declared.io.kind.ErrorKind.TheVariants.{NotFound, PermissionDenied}
use Rattle.shell_commands.specs.declared.status.Status.TheVariants.{Unread}
use Rattle.shell_commands.specs.declared.files.FileFault.{FileFault}
use Rattle.shell_commands.specs.declared.files.FileFault.TheVariants as fault

-- why a file is not opened
abbrev pub fault_of : ErrorKind → FileFault
fault_of NotFound = fault.Missing
fault_of PermissionDenied = fault.Denied
fault_of kind = fault.Unread
