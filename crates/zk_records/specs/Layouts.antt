-- The fields of each record, in wire order.
use Rattle.zk_jute.specs.Layout.{Layout, int, long, boolean, buffer, ustring, vector, ◌⨾◌}
use Rattle.zk_nodes.specs.StatLayout.{stat}

-- protocolVersion, lastZxidSeen, timeOut, sessionId, passwd, readOnly
abbrev pub connect_request : Layout
connect_request = int ⨾ (long ⨾ (int ⨾ (long ⨾ (buffer ⨾ boolean))))

-- protocolVersion, timeOut, sessionId, passwd; after them stands readOnly or nothing
abbrev pub connect_response_front : Layout
connect_response_front = int ⨾ (int ⨾ (long ⨾ buffer))

-- scheme, id
abbrev pub id : Layout
id = ustring ⨾ ustring

-- perms, id
abbrev pub acl : Layout
acl = int ⨾ id

-- path, data, acl, flags
abbrev pub create_request : Layout
create_request = ustring ⨾ (buffer ⨾ (vector acl ⨾ int))

-- relativeZxid, dataWatches, existWatches, childWatches
abbrev pub set_watches : Layout
set_watches = long ⨾ (vector ustring ⨾ (vector ustring ⨾ vector ustring))

-- xid, type
abbrev pub request_header : Layout
request_header = int ⨾ int

-- xid, zxid, err
abbrev pub reply_header : Layout
reply_header = int ⨾ (long ⨾ int)

-- path, watch
abbrev pub read_request : Layout
read_request = ustring ⨾ boolean

-- path, data, version
abbrev pub set_data_request : Layout
set_data_request = ustring ⨾ (buffer ⨾ int)

-- path, version
abbrev pub delete_request : Layout
delete_request = ustring ⨾ int

-- data, stat
abbrev pub get_data_response : Layout
get_data_response = buffer ⨾ stat

-- children
abbrev pub get_children_response : Layout
get_children_response = vector ustring

-- children, stat
abbrev pub get_children2_response : Layout
get_children2_response = vector ustring ⨾ stat

-- path
abbrev pub create_response : Layout
create_response = ustring

-- type, state, path
abbrev pub watcher_event : Layout
watcher_event = int ⨾ (int ⨾ ustring)
