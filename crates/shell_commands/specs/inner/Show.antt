-- What contracts of private functions say: nobody has to believe it.
use Rattle.zk_records.specs.declared.request_fault.RequestFault.{RequestFault}
use Rattle.shell_commands.specs.declared.fault.ShowFault.{ShowFault}
use Rattle.shell_commands.specs.declared.fault.ShowFault.TheVariants.{Unknown, Reading}
use Rattle.shell_commands.specs.declared.fault.ShowFault.TheVariants.{Memory}
use Rattle.zk_jute.specs.declared.fault.TakeError.TheVariants as jute
use Rattle.zk_records.specs.declared.request_fault.RequestFault.TheVariants as request

abbrev pub shown_fault : RequestFault → ShowFault
shown_fault (request.Unknown number) = Unknown number
shown_fault (request.Unread jute.Memory) = Memory
shown_fault (request.Unread (jute.Short place)) = Reading (jute.Short place)
shown_fault (request.Unread (jute.BadLength place)) = Reading (jute.BadLength place)
shown_fault (request.Unread (jute.BadBool place)) = Reading (jute.BadBool place)
shown_fault (request.Unread (jute.NotUtf8 place)) = Reading (jute.NotUtf8 place)
