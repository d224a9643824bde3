-- What holds of a client whose servers keep to the model at some paths.
use Rattle.std.specs.Prelude.{ℕ, ℤ, pos, ◌≡◌, ◌≢◌, ◌<◌, ◌≤◌, true, List, [], ◌∷◌, ◌++◌, map, length, ◌⊎◌, Some}
use Rattle.zk_nodes.specs.Path.{Text, path_of}
use Rattle.zk_nodes.specs.History.{Tree, History, tree_at, view as to_see}
use Rattle.zk_conversation.specs.Calls.{Call}
use Rattle.zk_conversation.specs.Questions.{Question, question_of}
use Rattle.zk_conversation.specs.Results.{Result, Refused}
use Rattle.zk_nodes.specs.declared.side.Side.TheVariants.{Data, Child}
use Rattle.zk_frames.specs.declared.fault.FrameFault.TheVariants.{TooLong}
use Rattle.zk_cache.specs.declared.held.Kept.{Kept}
use Rattle.zk_cache.specs.Kept.{Answer, Names}
use Rattle.zk_cache.specs.declared.held.Mark.TheVariants.{Good}
use Rattle.zk_laws.specs.Headline.{IsTooLongFor}
use Rattle.zk_turns.specs.Past.{Past, Asked, is_talking, state_of, held_of, Took as Takes_in, Replies as Answers_call}
use Rattle.zk_turns.specs.Turns.{Framed, WatchesRefused, Start, Fault, Silent, Item, Replied, Drop, Answer as Answers}
use Rattle.zk_turns.specs.Sent.{outputs_of}
use Rattle.zk_turns.specs.View.{View, Cache}
use Rattle.zk_turns.specs.Taken.{past_of}
use Rattle.zk_turns.specs.Meaning.{Among}
use Rattle.zk_laws.specs.Server.{Fits, FitsNames, Reads, tree_held}
use Rattle.zk_laws.specs.Laws.{IsTrueWrite, AreRestored}
use Rattle.zk_laws.specs.Messages.{from_zero}
use Rattle.zk_laws.specs.Served.{is_going, unread}
use Rattle.theory_local.specs.LocalSteps.{IsAbout}
use Rattle.theory_local.specs.LocalServed.{LocalEntry, items_at, wire_at, WasSentAt}

-- Each answer about one of these paths that is marked good is what there is to see in the tree.
pub record IsTrueAt (P : Text → Type 0) (tree : Tree) (cache : Cache) : Type 0 where
  pub nodes : (path : Text) → P path → (kept : Kept Answer)
      → cache.nodes path ≡ Some kept → kept.mark ≡ Good → Fits kept.answer (to_see Data tree (path_of path))
  pub children : (path : Text) → P path → (kept : Kept Names)
      → cache.children path ≡ Some kept → kept.mark ≡ Good → FitsNames kept.answer (to_see Child tree (path_of path))

-- Each answer about one of these paths that is marked good is the history's answer at the client's last seen zxid.
abbrev pub IsCoherentAt : (Text → Type 0) → History → View → Type 0
IsCoherentAt P h view = IsTrueAt P (tree_at h (from_zero view.saved.last)) view.cache

-- The client talks, all that the server of the connection has sent was taken, and the server has no setWatches request to process.
pub record IsQuietAfter (h : History) (start : Start) (entries : List LocalEntry) : Type 0 where
  pub going : is_going (past_of start (items_at entries)) ≡ true
  pub talking : is_talking (state_of (past_of start (items_at entries))) ≡ true
  pub received : (wire_at h entries).coming ≡ []
  pub taken : held_of (past_of start (items_at entries)) ≡ []
  pub restored : AreRestored (map (λ sent. sent.request) (unread start (past_of start (items_at entries)) (wire_at h entries)))

-- the tree of the server of the connection
abbrev pub tree_after : History → List LocalEntry → Tree
tree_after h entries = tree_held h (wire_at h entries).server.place

-- Why a connection was given up: silence, a message that a server sent and that is too long for the session, or a part of setWatches
-- that was refused.
abbrev pub IsDueAt : Start → List LocalEntry → Fault → Type 0
IsDueAt start entries fault =
    (fault ≡ Silent)
    ⊎ ((fault ≡ Framed TooLong) × ((payload : List ℕ) × WasSentAt entries payload × IsTooLongFor start.limits payload))
    ⊎ ((code : ℤ) × (fault ≡ WatchesRefused code) × (code ≢ pos 0))

-- the reply refuses a call, with the zxid 0 or one below
abbrev pub IsDenial : ℤ → Result → Type 0
IsDenial zxid (Refused code) = from_zero zxid ≡ 0
IsDenial zxid _ = ⊥

-- Of two replies that were taken the later has no lower zxid, unless it refuses so.
abbrev pub RepliesRise : Past → Type 0
RepliesRise past = (since before : Past) (ticket other : ℕ) (question its : Question) (zxid earlier : ℤ) (result given : Result)
    → past ≡ since ++ Takes_in (Answers_call ticket question zxid result) ∷ before
    → Among (Takes_in (Answers_call other its earlier given)) before
    → (from_zero earlier ≤ from_zero zxid) ⊎ IsDenial zxid result

-- A reply that was taken after another one, and that refuses nothing so, is to a call with its question; where that is about one of these
-- paths, it is true of a tree that is not before the other's zxid.
abbrev pub ReadsFollow : (Text → Type 0) → History → Past → Type 0
ReadsFollow P h past = (since before : Past) (ticket other : ℕ) (question its : Question) (zxid earlier : ℤ) (result given : Result)
    → past ≡ since ++ Takes_in (Answers_call ticket question zxid result) ∷ before
    → Among (Takes_in (Answers_call other its earlier given)) before → (IsDenial zxid result → ⊥)
    → (from_zero earlier ≤ from_zero zxid)
    × ((call : Call) × Among (Asked ticket call) past × (question_of call ≡ question)
    × (IsAbout P call → Reads (tree_at h (from_zero zxid)) question result))

-- Of a client that has come through earlier items, in which it was told a reply with this zxid, and then through more: an answer to a call
-- that was not asked before, and that refuses nothing so, is of a tree that is not before it.
abbrev pub AnswersFollow : (Text → Type 0) → History → Start → (more earlier : List Item) → Type 0
AnswersFollow P h start more earlier = (first ticket : ℕ) (told zxid : ℤ) (given result : Result)
    → Among (Answers first (Replied told given)) (outputs_of earlier)
    → Among (Answers ticket (Replied zxid result)) (outputs_of (more ++ earlier))
    → ((call : Call) → Among (Asked ticket call) (past_of start earlier) → ⊥) → (IsDenial zxid result → ⊥)
    → (from_zero told ≤ from_zero zxid)
    × ((call : Call) × Among (Asked ticket call) (past_of start (more ++ earlier))
    × (IsAbout P call → Reads (tree_at h (from_zero zxid)) (question_of call) result))

-- All of it at once: what is good at these paths is the history's at the last seen zxid; each Answer with a reply's zxid is of a reply
-- that was taken, to a call that was asked with its ticket, true where that is about one of these paths, and not below the zxid that the
-- client began with, unless it is such a refusal; each Drop has its reason.
pub record HeadlineAt (P : Text → Type 0) (h : History) (start : Start) (items : List Item) (view : View)
    (entries : List LocalEntry) : Type 0 where
  pub coherent : IsCoherentAt P h view
  pub answers : (ticket : ℕ) (zxid : ℤ) (result : Result) → Among (Answers ticket (Replied zxid result)) (outputs_of items)
      → (call : Call) × Among (Asked ticket call) (past_of start items)
      × Among (Takes_in (Answers_call ticket (question_of call) zxid result)) (past_of start items)
      × (IsAbout P call → Reads (tree_at h (from_zero zxid)) (question_of call) result × IsTrueWrite h call (from_zero zxid) result)
      × (((from_zero start.last ≤ from_zero zxid) × (zxid ≡ pos (from_zero zxid))) ⊎ IsDenial zxid result)
  pub drops : (fault : Fault) → Among (Drop fault) (outputs_of items) → IsDueAt start entries fault
