-- What contracts of private functions say: nobody has to believe it.
use Rattle.std.specs.Prelude.{ℕ, ℤ, ◌≡◌, ◌<◌, ◌^◌, List, ◌∷◌, ◌++◌, length, Option, None, Some, is_some, ⊤}
use Rattle.zk_frames.specs.Frame.{frame}
use Rattle.zk_nodes.specs.Path.{Name, NodePath}
use Rattle.zk_nodes.specs.History.{Tree}
use Rattle.zk_history.specs.Shown.{IsStat}
use Rattle.zk_conversation.specs.Calls.{Call}
use Rattle.zk_nodes.specs.PathFault.{IsPath}
use Rattle.zk_records.specs.declared.request.Request.{Request}
use Rattle.zk_watches.specs.Lists.{Lists}
use Rattle.zk_bench.specs.inner.Restoring.{IsPart, ArePaths}
use Rattle.zk_conversation.specs.Questions.{question_of}
use Rattle.zk_conversation.specs.Results.{Result, NoNode, Refused, texts_of}
use Rattle.zk_laws.specs.Server.{Reads, sets, both}
use Rattle.zk_laws.specs.Messages.{Replies}
use Rattle.zk_laws.specs.Served.{IsPayload}
use Rattle.zk_bench.specs.declared.connection.Connection.{Connection}
use Rattle.zk_bench.specs.declared.stop.Refusal.{Refusal}
use Rattle.zk_bench.specs.inner.Refusals.{IsCode}
use Rattle.zk_bench.specs.inner.Serving.{watched}
use Rattle.zk_bench.specs.Answering.{name_set}
use Rattle.std.specs.FinSet as set
use Rattle.zk_conversation.specs.Calls as call
use Rattle.zk_records.specs.declared.request.Request.TheVariants as requests
use Rattle.zk_records.specs.declared.code.Code.TheVariants as codes
use Rattle.zk_bench.specs.declared.stop.Refusal.TheVariants as refusals

-- the result is what a reply with code 0 or -101 holds
abbrev pub IsTold : Result → Type 0
IsTold (Refused code) = ⊥
IsTold result = ⊤

-- the call is a read
abbrev pub IsRead : Call → Type 0
IsRead (call.Exists text watch) = ⊤
IsRead (call.GetData text watch) = ⊤
IsRead (call.GetChildren text watch) = ⊤
IsRead asked = ⊥

-- A read is answered from a tree: with what there is to see, under the xid and the zxid, and with the watches that this sets.
pub record AnswersRead {A : Type 0} (tree : Tree) (zxid : ℕ) (xid : ℤ) (asked : Call) (old new : Connection A) : Type 0 where
  pub result : Result
  pub read : IsRead asked
  pub told : IsTold result
  pub reads : Reads tree (question_of asked) result
  pub payload : List ℕ
  pub small : length payload < 2 ^ 31
  pub spelled : IsPayload xid (Replies (question_of asked) zxid result) payload
  pub output : new.output.items ≡ old.output.items ++ frame payload
  pub left : watched new.watches ≡ both (watched old.watches) (sets (question_of asked) result)
  pub rest : new ≡ record old { watches = new.watches; output = new.output }

-- It is to be answered that no node is there: so it is, and nothing is sent yet.
pub record FindsNone {A : Type 0} (tree : Tree) (asked : Call) (old new : Connection A) : Type 0 where
  pub reads : Reads tree (question_of asked) NoNode
  pub output : new.output.items ≡ old.output.items
  pub left : watched new.watches ≡ both (watched old.watches) (sets (question_of asked) NoNode)
  pub rest : new ≡ record old { watches = new.watches; output = new.output }

-- A refusal that is a code is that of no node, which is to be answered then.
abbrev pub RefusesRead : {A : Type 0} → Tree → Call → Connection A → Connection A → Refusal → Type 0
RefusesRead tree asked old new refusal = IsCode refusal → (refusal ≡ refusals.Code codes.NoNode) × FindsNone tree asked old new

-- A refusal that is a code is that of no node: none is there, and no watch is left.
abbrev pub MissesNode : {W : Type 0} → Tree → NodePath → W → W → Refusal → Type 0
MissesNode tree path old new refusal = IsCode refusal → (refusal ≡ refusals.Code codes.NoNode) × IsStat tree path None × (new ≡ old)

-- The texts on the wire are the names of a node's children.
abbrev pub ListsChildren : Tree → NodePath → Option (List (Option (List ℕ))) → Type 0
ListsChildren tree path texts = (name : Name) → set.contains (name_set (texts_of texts)) name ≡ is_some (tree (name ∷ path))

-- A refusal that is a code is that of no node, and none is there.
abbrev pub FindsNoNode : Tree → NodePath → Refusal → Type 0
FindsNoNode tree path refusal = IsCode refusal → (refusal ≡ refusals.Code codes.NoNode) × (tree path ≡ None)

-- The request is this read, of a path.
abbrev pub IsReadOf : {A : Type 0} → Request A → Call → Type 0
IsReadOf (requests.Exists r) (call.Exists text watch) = IsPath text × (r.path ≡ Some text) × (r.watch ≡ watch)
IsReadOf (requests.GetData r) (call.GetData text watch) = IsPath text × (r.path ≡ Some text) × (r.watch ≡ watch)
IsReadOf (requests.GetChildren2 r) (call.GetChildren text watch) = IsPath text × (r.path ≡ Some text) × (r.watch ≡ watch)
IsReadOf _ _ = ⊥

-- The request sets these watches again, with this relative zxid.
abbrev pub IsRestoring : {A : Type 0} → Request A → ℕ → Lists → Type 0
IsRestoring (requests.SetWatches r) since part = IsPart r since part × ArePaths part
IsRestoring _ since part = ⊥
