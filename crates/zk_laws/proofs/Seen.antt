-- What happened to a client, in the words of a run: the same list of items, whatever the bytes were.
use Rattle.std.specs.Prelude.{List, [], ◌∷◌, ◌++◌, Option, Some, None}
use Rattle.zk_turns.specs.Turns.{Start}
use Rattle.zk_turns.specs.Past.{Happening, Began, Dropped, Forgot, Past, Skipped, Expiry, Took as Takes_in, Lost as Loses_it}
use Rattle.zk_turns.specs.Past.{Halted as Halts_now, Message as Reading, Accepted as Accepts, Replies as Answers_call}
use Rattle.zk_turns.specs.Past.{Watches_set as Sets_watches, Notifies as Tells, Pong as Echo}
use Rattle.zk_cache.specs.declared.held.Mark.TheVariants.{Good, Stale}
use Rattle.zk_cache.specs.declared.held.Kept.{Kept}
use Rattle.zk_cache.specs.Kept.{Answer as Kept_answer, Absent as Kept_absent, Known as Kept_known, Full as Kept_full, Names as Kept_names}
use Rattle.zk_laws.specs.Messages.{from_zero, Accepted, Expired, Replies, Watches_set, Notifies, Pong}
use Rattle.zk_laws.proofs.Log.{Item, Starts, Opened, Lost, Halted, Forgets, Took, Answer, Absent, Known, Full, Names}

-- the message of a payload that was taken; what was skipped is none
abbrev pub item_of_reading : Reading → List Item
item_of_reading (Accepts welcome) = Took Accepted ∷ []
item_of_reading Expiry = Took Expired ∷ []
item_of_reading (Answers_call ticket question zxid result) = Took (Replies question (from_zero zxid) result) ∷ []
item_of_reading (Sets_watches last zxid) = Took (Watches_set last (from_zero zxid)) ∷ []
item_of_reading (Tells event path) = Took (Notifies (record { event = event; path = path })) ∷ []
item_of_reading Echo = Took Pong ∷ []
item_of_reading Skipped = []

-- what a happening is to a run: connections that begin or end, messages taken, marks; bytes, questions and moments leave no item
abbrev pub item_of : Happening → List Item
item_of Began = Opened ∷ []
item_of (Takes_in reading) = item_of_reading reading
item_of (Dropped fault) = Lost ∷ []
item_of Loses_it = Lost ∷ []
item_of Forgot = Forgets ∷ []
item_of Halts_now = Halted ∷ []
item_of _ = []

-- The client's list, as a run has it.
abbrev pub seen : Start → Past → List Item
seen start [] = Starts (from_zero start.last) ∷ []
seen start (happening ∷ past) = item_of happening ++ seen start past

-- an answer about a node, in the words of a run
abbrev pub node_answer : Kept_answer → Answer
node_answer Kept_absent = Absent
node_answer (Kept_known fields) = Known fields
node_answer (Kept_full bytes fields) = Full bytes fields

-- the names of the children
abbrev pub names_answer : Kept_names → Answer
names_answer names = Names names.names names.pzxid

-- what is kept, where it is marked good
abbrev pub if_good : {A : Type 0} → (A → Answer) → Option (Kept A) → Option Answer
if_good word None = None
if_good word (Some kept) = elim kept.mark [ Good ↦ Some (word kept.answer) | Stale ↦ None ]
