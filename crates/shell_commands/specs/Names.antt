-- The names of the fields of each record, as zookeeper.jute has them.
use Rattle.std.specs.Prelude.{codes}
use Rattle.zk_records.specs.declared.operation.Operation.{Operation}
use Rattle.zk_records.specs.declared.operation.Operation.TheVariants.{Create, Delete, Exists, GetData, SetData, GetChildren, Ping}
use Rattle.zk_records.specs.declared.operation.Operation.TheVariants.{GetChildren2, SetWatches, CloseSession}
use Rattle.shell_commands.specs.Print.{Names, none, one, each, ◌&◌}

abbrev pub connect_names : Names
connect_names = one (codes "protocolVersion")
    & (one (codes "lastZxidSeen") & (one (codes "timeOut") & (one (codes "sessionId") & (one (codes "passwd") & one (codes "readOnly")))))

abbrev pub reply_header_names : Names
reply_header_names = one (codes "xid") & (one (codes "zxid") & one (codes "err"))

abbrev pub stat_end_names : Names
stat_end_names = one (codes "aversion")
    & (one (codes "ephemeralOwner") & (one (codes "dataLength") & (one (codes "numChildren") & one (codes "pzxid"))))

abbrev pub stat_names : Names
stat_names = one (codes "czxid") & (one (codes "mzxid")
    & (one (codes "ctime") & (one (codes "mtime") & (one (codes "version") & (one (codes "cversion") & stat_end_names)))))

abbrev pub get_data_names : Names
get_data_names = one (codes "data") & stat_names

abbrev pub get_children_names : Names
get_children_names = one (codes "children")

abbrev pub get_children2_names : Names
get_children2_names = one (codes "children") & stat_names

abbrev pub create_names : Names
create_names = one (codes "path")

abbrev pub event_names : Names
event_names = one (codes "type") & (one (codes "state") & one (codes "path"))

abbrev pub notice_names : Names
notice_names = reply_header_names & event_names

abbrev pub read_request_names : Names
read_request_names = one (codes "path") & one (codes "watch")

abbrev pub acl_names : Names
acl_names = one (codes "perms") & (one (codes "scheme") & one (codes "id"))

-- the names of what stands after the header of each request
abbrev pub body_names : Operation → Names
body_names Create = one (codes "path") & (one (codes "data") & (each (codes "acl") acl_names & one (codes "flags")))
body_names Delete = one (codes "path") & one (codes "version")
body_names Exists = read_request_names
body_names GetData = read_request_names
body_names SetData = one (codes "path") & (one (codes "data") & one (codes "version"))
body_names GetChildren = read_request_names
body_names Ping = none
body_names GetChildren2 = read_request_names
body_names SetWatches = one (codes "relativeZxid") & (one (codes "dataWatches") & (one (codes "existWatches") & one (codes "childWatches")))
body_names CloseSession = none

abbrev pub request_names : Operation → Names
request_names operation = one (codes "xid") & (one (codes "type") & body_names operation)
