-- Which requests have an answer at the connected server: the first of a client that is not ahead, and later ones whose reply fits a frame.
use Rattle.std.specs.Prelude.{ℕ, ◌+◌, ◌≤◌, length, sum_by, Option, Some, None, slice_index, ⊤}
use Rattle.std.specs.FinSet as set
use Rattle.zk_nodes.specs.Path.{NodePath, path_of}
use Rattle.zk_nodes.specs.History.{Node, Tree, size_of}
use Rattle.zk_nodes.specs.Names.{Names}
use Rattle.zk_history.specs.HistoryView.{HasChildren, history_of}
use Rattle.zk_conversation.specs.Calls.{Call, GetData, GetChildren, Raw}
use Rattle.zk_laws.specs.Server.{tree_held}
use Rattle.zk_laws.specs.Messages.{Request, Connect, Ask}
use Rattle.zk_bench.specs.Served.{Served}
use Rattle.zk_bench.specs.Serving.{FitsReply}
use Rattle.zk_bench.specs.Stepping.{zxid_of}

-- The data of a node, if there is one, fit a reply: after their length of four bytes, and with a Stat of 68.
abbrev pub DataFit : Option Node → Type 0
DataFit None = ⊤
DataFit (Some node) = FitsReply (4 + size_of node.content + 68)

-- the bytes of names, each after its length
abbrev pub size_of_names : Names → ℕ
size_of_names names = sum_by (λ name. 4 + length name) (set.items names)

-- So do the names of its children: after their count, and with a Stat.
abbrev pub NamesFit : Tree → NodePath → Option Node → Type 0
NamesFit tree path None = ⊤
NamesFit tree path (Some node) = (names : Names) × HasChildren tree path names × FitsReply (4 + size_of_names names + 68)

-- A call has an answer from this tree: only one to getData or getChildren can be too long. One that its caller has spelled has none.
abbrev pub AnswerFits : Tree → Call → Type 0
AnswerFits tree (GetData text watch) = DataFit (tree (path_of text))
AnswerFits tree (GetChildren text watch) = NamesFit tree (path_of text) (tree (path_of text))
AnswerFits tree (Raw operation given) = ⊥
AnswerFits tree asked = ⊤

-- A request has an answer from a server with this zxid and this tree.
abbrev pub HasAnswer : ℕ → Tree → Request → Type 0
HasAnswer zxid tree (Connect seen) = seen ≤ zxid
HasAnswer zxid tree (Ask asked) = AnswerFits tree asked
HasAnswer zxid tree request = ⊤

-- A request has an answer at the connected server.
abbrev pub IsAnswerable : Request → Served → Type 0
IsAnswerable request served =
    HasAnswer (zxid_of served) (tree_held (history_of served.history) (slice_index served.taken served.server)) request
