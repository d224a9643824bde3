-- What stands next in a schedule, and the payloads that spell a server's messages.
use Rattle.std.specs.Prelude.{ℕ, ℤ, pos, negsuc, ◌≡◌, ◌<◌, ◌^◌, true, List, ◌∷◌, ◌++◌, length, Some}
use Rattle.zk_jute.specs.Layout.{ustring, Value}
use Rattle.zk_jute.specs.Spelling.{spelling, Fits}
use Rattle.zk_nodes.specs.StatLayout.{stat}
use Rattle.zk_nodes.specs.History.{Node, History, size_of}
use Rattle.zk_records.specs.Events.{event_number}
use Rattle.zk_records.specs.Layouts.{reply_header, watcher_event}
use Rattle.zk_turns.specs.Turns.{Start}
use Rattle.zk_turns.specs.Taken.{past_of}
use Rattle.zk_laws.specs.Server.{Notice, zxid_held}
use Rattle.zk_laws.specs.Messages.{Request}
use Rattle.zk_laws.specs.ServerSteps.{ServerEnd, ServerStep, Stage}
use Rattle.zk_laws.specs.Served.{Sent, Entry, Serves, items_in, wire_of, is_going, unread, IsServing}

-- the server's end of the newest connection
abbrev pub end_of : History → List Entry → ServerEnd
end_of h entries = (wire_of h entries).server

-- The entries are a schedule, and its server is at this stage of an open connection.
pub record Reaches (h : History) (start : Start) (entries : List Entry) (stage : Stage) : Type 0 where
  pub serving : IsServing h start entries
  pub going : is_going (past_of start (items_in entries)) ≡ true
  pub there : (end_of h entries).stage ≡ stage

-- It is reached, and the next request that stands whole in the bytes sent is this one, with this xid.
pub record Awaits (h : History) (start : Start) (entries : List Entry) (stage : Stage) (request : Request) (xid : ℤ) : Type 0 where
  pub reaches : Reaches h start entries stage
  pub payload : List ℕ
  pub others : List Sent
  pub next : unread start (past_of start (items_in entries))
      (wire_of h entries) ≡ record { payload = payload; xid = xid; request = request } ∷ others

-- The schedule goes on with this step of the server, which sends these payloads.
abbrev pub CanTake : History → Start → List Entry → ServerStep → List (List ℕ) → Type 0
CanTake h start entries step payloads = IsServing h start (Serves step payloads ∷ entries)

-- a header, with these bytes after it
abbrev pub headed : (xid zxid err : ℤ) → List ℕ → List ℕ
headed xid zxid err behind = spelling reply_header (xid, (zxid, err)) ++ behind

-- The numbers of the header have a spelling, and a frame can tell how long the payload is.
pub record IsSendable (xid zxid err : ℤ) (behind : List ℕ) : Type 0 where
  pub fits : Fits reply_header (xid, (zxid, err))
  pub small : length (headed xid zxid err behind) < 2 ^ 31

-- the zxid of a reply: the last one that the server holds
abbrev pub zxid_of : History → List Entry → ℤ
zxid_of h entries = pos (zxid_held h (end_of h entries).place)

-- a notice, with any zxid and code, and the state 3
abbrev pub notice_payload : (zxid err : ℤ) → Notice → List ℕ
notice_payload zxid err notice = headed (negsuc 0) zxid err (spelling watcher_event (event_number notice.event, (pos 3, Some notice.path)))

-- its path is a text, and a frame can tell how long the payload is
pub record IsTellable (zxid err : ℤ) (notice : Notice) : Type 0 where
  pub fits : Fits reply_header (negsuc 0, (zxid, err))
  pub path : Fits ustring (Some notice.path)
  pub small : length (notice_payload zxid err notice) < 2 ^ 31

-- the Stat of a node, with these counts and this aclVersion
abbrev pub stat_value : Node → (cversion acl_version children : ℤ) → Value stat
stat_value node cversion acl_version children = (
  pos node.czxid,
  (
    pos node.mzxid,
    (
      node.ctime,
      (
        node.mtime,
        (pos node.version, (cversion, (acl_version, (node.owner, (pos (size_of node.content), (children, pos node.pzxid)))))),
      ),
    ),
  ),
)
