-- What holds of a client that is served by servers which hold beginnings of a history.
use Rattle.zk_conversation.specs.Calls.{Call}
use Rattle.zk_nodes.specs.Path.{Text, path_of}
use Rattle.zk_nodes.specs.History.{Tree, History, tree_at, view as to_see}
use Rattle.zk_conversation.specs.Questions.{question_of}
use Rattle.zk_turns.specs.Past.{Asked, is_talking, state_of, held_of, Took as Takes_in, Replies as Answers_call}
use Rattle.zk_cache.specs.declared.held.Kept.{Kept}
use Rattle.zk_cache.specs.Kept.{Answer, Names}
use Rattle.zk_cache.specs.declared.held.Mark.TheVariants.{Good}
use Rattle.zk_turns.specs.Turns.{Framed, Start, Fault, Silent, Item, Replied, Drop, Answer as Answers}
use Rattle.std.specs.Prelude.{length, ℕ, ℤ, pos, ◌≡◌, ◌<◌, ◌≤◌, true, List, [], map, Some, ◌⊎◌}
use Rattle.zk_conversation.specs.Results.{Result}
use Rattle.zk_frames.specs.declared.fault.FrameFault.TheVariants.{TooLong}
use Rattle.zk_nodes.specs.declared.side.Side.TheVariants.{Data, Child}
use Rattle.zk_turns.specs.Sent.{outputs_of}
use Rattle.zk_turns.specs.View.{View, Cache}
use Rattle.zk_turns.specs.Taken.{past_of}
use Rattle.zk_turns.specs.Meaning.{Among}
use Rattle.zk_laws.specs.Server.{Fits, FitsNames, Reads, tree_held}
use Rattle.zk_laws.specs.Laws.{IsTrueWrite, AreRestored}
use Rattle.zk_laws.specs.Messages.{from_zero}
use Rattle.zk_laws.specs.Served.{WasSent, Entry, items_in, wire_of, is_going, unread}
use Rattle.zk_limits.specs.declared.limits.TheConstants.{LONGEST_INCOMING}
use Rattle.zk_frames.specs.declared.limits.FrameLimits.{FrameLimits}
use Rattle.zk_records.specs.Response.{Response, IsPayload as IsResponse}

-- Each answer marked good is what there is to see in the tree: a node's absence, its seven fields, or these with its data;
-- the set of its children's names with the pzxid.
pub record IsTrueOf (tree : Tree) (cache : Cache) : Type 0 where
  pub nodes : (path : Text) (kept : Kept Answer) → cache.nodes path ≡ Some kept → kept.mark ≡ Good
      → Fits kept.answer (to_see Data tree (path_of path))
  pub children : (path : Text) (kept : Kept Names)
      → cache.children path ≡ Some kept → kept.mark ≡ Good → FitsNames kept.answer (to_see Child tree (path_of path))

-- Each answer marked good is the history's answer at the client's last seen zxid.
abbrev pub IsCoherentWith : History → View → Type 0
IsCoherentWith h view = IsTrueOf (tree_at h (from_zero view.saved.last)) view.cache

-- The client talks, all that the server of the connection has sent was taken, and the server has no setWatches request to process.
pub record IsQuietAt (h : History) (start : Start) (entries : List Entry) : Type 0 where
  pub going : is_going (past_of start (items_in entries)) ≡ true
  pub talking : is_talking (state_of (past_of start (items_in entries))) ≡ true
  pub received : (wire_of h entries).coming ≡ []
  pub taken : held_of (past_of start (items_in entries)) ≡ []
  pub restored : AreRestored (map (λ sent. sent.request) (unread start (past_of start (items_in entries)) (wire_of h entries)))

-- the tree of the server of the connection
abbrev pub tree_of : History → List Entry → Tree
tree_of h entries = tree_held h (wire_of h entries).server.place

-- A payload is longer than the session admits: than its limit, or, if it is the answer to a ConnectRequest, than that of every session.
abbrev pub IsTooLongFor : FrameLimits → List ℕ → Type 0
IsTooLongFor limits payload = (limits.incoming < length payload)
    ⊎ ((LONGEST_INCOMING < length payload) × ((response : Response) × (ignored : List ℕ) × IsResponse payload response ignored))

-- All of it at once, by what a client gave: its good answers are the history's at its last seen zxid; each Answer with a
-- reply's zxid is of a reply that was taken, true there as a read, not below the zxid that the client began with, and to a
-- call that was asked with its ticket, true there as a write; each Drop is for silence, or for a message that a server sent
-- and that is too long for the session.
pub record Headline (h : History) (start : Start) (items : List Item) (view : View) (entries : List Entry) : Type 0 where
  pub coherent : IsCoherentWith h view
  pub answers : (ticket : ℕ) (zxid : ℤ) (result : Result) → Among (Answers ticket (Replied zxid result)) (outputs_of items)
      → (call : Call) × Among (Asked ticket call) (past_of start items) × Among
      (Takes_in (Answers_call ticket (question_of call) zxid result)) (past_of start items)
      × Reads (tree_at h (from_zero zxid)) (question_of call) result × IsTrueWrite h call (from_zero zxid) result
      × (from_zero start.last ≤ from_zero zxid) × (zxid ≡ pos (from_zero zxid))
  pub drops : (fault : Fault) → Among (Drop fault) (outputs_of items)
      → (fault ≡ Silent) ⊎ ((fault ≡ Framed TooLong) × ((payload : List ℕ) × WasSent entries payload × IsTooLongFor start.limits payload))
