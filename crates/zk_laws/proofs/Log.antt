-- What a client's own list of what happened to it says by looking back, where it is made of messages. The proofs run this client
-- beside the one of bytes.
use Rattle.zk_conversation.specs.Pending.{closes}
use Rattle.std.specs.FinSet as set
use Rattle.zk_conversation.specs.Questions.{Question, Exists, GetData, GetChildren}
use Rattle.zk_nodes.specs.Path.{Text, path_of}
use Rattle.zk_nodes.specs.History.{History, tree_at, View, view}
use Rattle.zk_watches.specs.Lists.{Lists}
use Rattle.zk_cache.specs.Kept.{same_fields, Answer as Kept_answer, Names as Kept_names, Absent as Kept_absent, Known as Kept_known}
use Rattle.zk_cache.specs.Kept.{Full as Kept_full}
use Rattle.zk_turns.specs.Past.{Left, leaves_data, leaves_child}
use Rattle.zk_records.specs.Events.{concerns}
use Rattle.zk_nodes.specs.Names.{Names as NameSet}
use Rattle.zk_nodes.specs.declared.data_stat.DataStat.{DataStat}
use Rattle.zk_watches.specs.Lists.{has}
use Rattle.std.specs.Prelude.{ℕ, ℤ, bytes_eq, ◌≡◌, max, Bool, true, false, ◌&&◌, not, if◌then◌else◌, List, [], ◌∷◌, ◌++◌, filter, flat_map}
use Rattle.std.specs.Prelude.{Option, Some, None}
use Rattle.zk_nodes.specs.DataStats.{data_stat_of}
use Rattle.zk_nodes.specs.declared.side.Side.{Side}
use Rattle.zk_nodes.specs.declared.side.Side.TheVariants.{Data, Child}
use Rattle.zk_conversation.specs.Results.{Result, Found, Read, Listing}
use Rattle.zk_laws.specs.Server.{Notice, same_side, Fits, FitsNames}
use Rattle.zk_laws.specs.Messages.{Message, Expired, Replies, Watches_set, Notifies}

-- What happens to a client: it starts, opens a connection, loses one, halts, is told to forget what is stale, takes a message.
-- Its list of these has the newest first.
pub data Item : Type 0 where
  Starts : (saved : ℕ) → Item
  Opened : Item
  Lost : Item
  Halted : Item
  Forgets : Item
  Took : Message → Item

-- The zxid that an item brings. The last seen zxid is the greatest of 0, a saved one, and those of the replies taken (Guide, "Consistency
-- Guarantees"). Of the replies to the parts of a setWatches only the last one counts; notices and pongs don't.
abbrev pub zxid_in : Item → ℕ
zxid_in (Starts saved) = saved
zxid_in (Took (Replies question zxid result)) = zxid
zxid_in (Took (Watches_set true zxid)) = zxid
zxid_in _ = 0

-- the greatest of these
abbrev pub last : List Item → ℕ
last [] = 0
last (item ∷ older) = max (zxid_in item) (last older)

-- What is kept of a path on a side

-- an answer of one side
pub data Answer : Type 0 where
  Absent : Answer
  Known : DataStat → Answer
  Full : Option (List ℕ) → DataStat → Answer
  Names : NameSet → ℤ → Answer

-- it is what there is to see
abbrev pub Suits : Answer → View → Type 0
Suits Absent seen = Fits Kept_absent seen
Suits (Known fields) seen = Fits (Kept_known fields) seen
Suits (Full bytes fields) seen = Fits (Kept_full bytes fields) seen
Suits (Names names pzxid) seen = FitsNames (record { names = names; pzxid = pzxid }) seen

-- the notice is about that side of that path
abbrev pub tells_of : Notice → Side → Text → Bool
tells_of notice side path = concerns notice.event side && bytes_eq path notice.path

-- the side and the path of what a reply leaves
abbrev pub place_left : Option (Left Kept_answer) → Option (Left Kept_names) → Option (Side × Text)
place_left (Some left) children = Some (Data, left.path)
place_left None (Some left) = Some (Child, left.path)
place_left None None = None

-- where a reply leaves a watch
abbrev pub left_by : Question → Result → Option (Side × Text)
left_by question result = place_left (leaves_data question result) (leaves_child question result)

-- it is that side of that path
abbrev pub is_place : Option (Side × Text) → Side → Text → Bool
is_place None side path = false
is_place (Some at) side path = same_side side at.0 && bytes_eq path at.1

-- the reply leaves a watch on that side of that path
abbrev pub leaves : Question → Result → Side → Text → Bool
leaves question result side path = is_place (left_by question result) side path

-- whether the text is in the list
abbrev pub is_listed : Text → List Text → Bool
is_listed text texts = has texts text

-- the answer that a reply holds
abbrev pub answer_of : Result → Answer
answer_of (Found stat) = Known (data_stat_of stat)
answer_of (Read bytes stat) = Full bytes (data_stat_of stat)
answer_of (Listing names stat) = Names (set.from_list names) stat.pzxid
answer_of _ = Absent

-- seven fields that come where the data with the same seven fields are kept leave the data
abbrev pub refreshed : Answer → Option Answer → Answer
refreshed (Known fields) (Some (Full bytes kept)) = if same_fields fields kept then Full bytes fields else Known fields
refreshed new _ = new

-- what is kept after an item, from what was kept before
abbrev pub kept_after : Side → Text → Item → Option Answer → Option Answer
kept_after side path (Took (Replies question zxid result)) kept =
    if closes question then None else (if leaves question result side path then Some (refreshed (answer_of result) kept) else kept)
kept_after side path (Took (Notifies notice)) kept = if tells_of notice side path then None else kept
kept_after side path (Took Expired) kept = None
kept_after side path Halted kept = None
kept_after side path _ kept = kept

-- The answer marked good: that of the last reply which left a watch on that side of the path, where no notice that concerns
-- it, no expiry, no close and no halt came since.
abbrev pub good : Side → Text → List Item → Option Answer
good side path [] = None
good side path (item ∷ older) = kept_after side path item (good side path older)

-- Each answer marked good is what there is to see at the last seen zxid.
abbrev pub IsCoherent : History → List Item → Type 0
IsCoherent h log = (side : Side) (path : Text) (answer : Answer) → good side path log ≡ Some answer
    → Suits answer (view side (tree_at h (last log)) (path_of path))

-- What is listed for setWatches

-- A setWatches request has three lists (zookeeper.jute, SetWatches): data, exist and child watches.
pub data Kind : Type 0 where
  Of_data : Kind
  Of_absence : Kind
  Of_children : Kind

-- data and absence are of the data side
abbrev pub side_of : Kind → Side
side_of Of_data = Data
side_of Of_absence = Data
side_of Of_children = Child

-- an answer's kind
abbrev pub is_of : Kind → Option Answer → Bool
is_of kind None = false
is_of Of_data (Some Absent) = false
is_of Of_data (Some _) = true
is_of Of_absence (Some Absent) = true
is_of Of_absence (Some _) = false
is_of Of_children (Some answer) = true

-- the path has a good answer of that kind
abbrev pub is_kind : Kind → Text → List Item → Bool
is_kind kind path log = is_of kind (good (side_of kind) path log)

-- the path that a reply is about
abbrev pub paths_in : Item → List Text
paths_in (Took (Replies (Exists path watch) zxid result)) = path ∷ []
paths_in (Took (Replies (GetData path watch) zxid result)) = path ∷ []
paths_in (Took (Replies (GetChildren path watch) zxid result)) = path ∷ []
paths_in _ = []

-- The paths whose good answer is of a kind, each in the order in which it last came to be so.
abbrev pub listed : Kind → List Item → List Text
listed kind [] = []
listed kind (item ∷ older) =
    filter (λ path. is_kind kind path (item ∷ older)) (listed kind older)
    ++ filter (λ path. is_kind kind path (item ∷ older) && not (is_kind kind path older)) (paths_in item)

-- The parts, joined, are the three lists.
pub record AreParts (log : List Item) (parts : List Lists) : Type 0 where
  pub data_watches : flat_map (λ part. part.data_watches) parts ≡ listed Of_data log
  pub exist_watches : flat_map (λ part. part.exist_watches) parts ≡ listed Of_absence log
  pub child_watches : flat_map (λ part. part.child_watches) parts ≡ listed Of_children log
