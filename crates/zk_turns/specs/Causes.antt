-- When a call is refused and when a connection is given up, each condition said by itself.
use Rattle.std.specs.Prelude.{◌≡◌, ◌≢◌, ◌≤◌, ◌<◌, ◌+◌, ◌*◌, ◌-◌, ℕ, ℤ, pos, length, drop, max, int_lt, Bool, true, List, [], ◌∷◌, ◌++◌}
use Rattle.std.specs.Prelude.{Option, Some, None, Ok, Err, ◌⊎◌}
use Rattle.zk_nodes.specs.declared.side.Side.{Side}
use Rattle.zk_frames.specs.Frame.{length_field}
use Rattle.zk_frames.specs.Stream.{StandsNext}
use Rattle.zk_session.specs.declared.states.State.TheVariants.{Connected, Expired, Closed}
use Rattle.zk_watches.specs.Lists.{count_of}
use Rattle.zk_conversation.specs.Calls.{Call, call_payload}
use Rattle.zk_conversation.specs.Questions.{Question, question_of, watched_side}
use Rattle.zk_conversation.specs.Results.{Result}
use Rattle.zk_conversation.specs.Pending.{Pending, is_close, calls_pending, watches_pending}
use Rattle.zk_conversation.specs.Arriving.{arriving, Replied, Watches_set}
use Rattle.zk_turns.specs.Turns.{Outcome, SessionExpired, SessionClosed, NotConnected, TooManyPending, TooManyWatches, TooLarge, Fault}
use Rattle.zk_turns.specs.Turns.{Framed, Talked, Silent, Behind, WatchesRefused, Signal, Comes, Ticks}
use Rattle.zk_turns.specs.View.{View}
use Rattle.zk_turns.specs.Taken.{longest_of, phase_of, timeout_of, leaves_watch}
use Rattle.zk_turns.specs.Rule.{IsOpen}
use Rattle.zk_turns.specs.Meaning.{Among}
use Rattle.zk_limits.specs.declared.limits.TheConstants.{MOST_PATHS, MOST_PENDING}

-- Calls

-- Why a call may be refused: the session has expired; it is closed, or a close is pending; the client is not connected; 1,024
-- calls are pending; it is to leave a watch on a side with 65,536 paths, pending ones counted; its request is too long.
abbrev pub Applies : Outcome → View → Call → Type 0
Applies SessionExpired view call = view.standing.state ≡ Expired
Applies SessionClosed view call = (view.standing.state ≡ Closed) ⊎ ((view.standing.state ≡ Connected)
    × ((close : Pending) × Among close view.pending × (is_close close ≡ true)))
Applies NotConnected view call = view.standing.state ≢ Connected
Applies TooManyPending view call = MOST_PENDING ≤ calls_pending view.pending
Applies TooManyWatches view call = (side : Side) × (watched_side (question_of call) ≡ Some side)
    × (MOST_PATHS ≤ count_of view.lists side + watches_pending side view.pending)
Applies TooLarge view call = view.limits.outgoing < length (call_payload (pos view.xid) call)
Applies _ view call = ⊥

-- the order in which they are looked at
abbrev pub in_turn : List Outcome
in_turn = SessionExpired ∷ SessionClosed ∷ NotConnected ∷ TooManyPending ∷ TooManyWatches ∷ TooLarge ∷ []

-- the first of these that applies, if one does
abbrev pub IsFirstOf : List Outcome → View → Call → Option Outcome → Type 0
IsFirstOf [] view call why = why ≡ None
IsFirstOf (outcome ∷ more) view call why =
    (Applies outcome view call × (why ≡ Some outcome)) ⊎ ((¬ Applies outcome view call) × IsFirstOf more view call why)

-- Drops

-- a whole frame is there: four bytes of length, and as many bytes as they say, which are its payload and not above the most
pub record IsFrameOf (most : ℕ) (payload bytes : List ℕ) : Type 0 where
  pub whole : length bytes ≡ 4 + length_field bytes
  pub admitted : length_field bytes ≤ most
  pub is : payload ≡ drop 4 bytes

-- Why a payload ends its connection: it has no reading; it is a reply that leaves a watch and is behind the last seen zxid; or
-- the reply to a part of setWatches has an error.
abbrev pub EndsBy : View → List ℕ → Fault → Type 0
EndsBy view payload (Talked fault) = arriving (phase_of view.standing.state) view.pending payload ≡ Err fault
EndsBy view payload (Behind seen came) =
    (ticket : ℕ) × (question : Question) × (result : Result)
    × (arriving (phase_of view.standing.state) view.pending payload ≡ Ok (Replied ticket question came result))
    × (leaves_watch question result ≡ true) × (int_lt came view.saved.last ≡ true) × (seen ≡ view.saved.last)
EndsBy view payload (WatchesRefused code) =
    (last : Bool) × (zxid : ℤ)
    × (arriving (phase_of view.standing.state) view.pending payload ≡ Ok (Watches_set last zxid code)) × (code ≢ pos 0)
EndsBy view payload _ = ⊥

-- Why a byte does: with it a length stands next that is not admitted, or a payload is whole that ends the connection.
abbrev pub ByteEnds : View → List ℕ → Fault → Type 0
ByteEnds view bytes (Framed fault) = StandsNext (longest_of view) fault bytes
ByteEnds view bytes fault = (payload : List ℕ) × IsFrameOf (longest_of view) payload bytes × EndsBy view payload fault

-- When a signal makes a client give up its connection: bytes that do, or a moment at which two thirds of the timeout have passed
-- with nothing heard.
abbrev pub IsGivenUp : View → Signal → Fault → Type 0
IsGivenUp view (Comes byte) fault = IsOpen view.standing.state × ByteEnds view (view.held ++ byte ∷ []) fault
IsGivenUp view (Ticks moment) fault =
    IsOpen view.standing.state × (fault ≡ Silent) × (2 * timeout_of view ≤ 3 * (max moment view.moments.now - view.moments.heard))
IsGivenUp view _ fault = ⊥
