-- What is between a client and its servers, by an invariant of messages: letters in flight, and after them, where a part of setWatches was
-- refused, bytes that nobody reads; what is awaited; why each drop and each answer was. And that by the runs of the model.
use Rattle.std.specs.Prelude.{◌⊎◌, ◌≡◌, ◌≢◌, Bool, ℕ, ℤ, pos, ◌^◌, ◌≤◌, ◌<◌, true, List, [], ◌∷◌, ◌++◌, map, length, ⊤}
use Rattle.std.specs.List.{flat_map, AllByRecursion}
use Rattle.zk_nodes.specs.History.{History}
use Rattle.zk_conversation.specs.Calls.{Call, part_xid}
use Rattle.zk_conversation.specs.Questions.{Question, question_of}
use Rattle.zk_conversation.specs.Results.{Result, Refused}
use Rattle.zk_frames.specs.Frame.{length_field, frame}
use Rattle.zk_frames.specs.declared.fault.FrameFault.TheVariants.{TooLong}
use Rattle.zk_turns.specs.Past.{Asking, For_part, For_call, awaited, Past, Dropped, is_talking, state_of, held_of, answered, questions}
use Rattle.zk_turns.specs.Past.{Took as Takes_in, Replies as Answers_call}
use Rattle.zk_turns.specs.Turns.{Silent, Framed, WatchesRefused, Fault, Start, Item, IsAskable, AllAskOf}
use Rattle.zk_turns.specs.Spelled.{IsHeaded}
use Rattle.zk_turns.specs.Taken.{longest}
use Rattle.zk_laws.specs.Server.{HasCode, IsOther}
use Rattle.zk_laws.specs.Laws.{IsTrueWrite}
use Rattle.zk_laws.specs.Messages.{Message, Accepted, Expired, Replies, Watches_set, Request, Ask, Restore, from_zero}
use Rattle.zk_laws.specs.ServerSteps.{Stage, Ended, ServerEnd, MayDo}
use Rattle.zk_laws.specs.Served.{Sent, requests, unread, Wire, is_going, IsPayload}
use Rattle.zk_laws.specs.Headline.{IsTooLongFor}
use Rattle.zk_laws.proofs.Log.{Item as Log_item}
use Rattle.zk_laws.proofs.Steps.{Connection, Link, Up, World}
use Rattle.zk_laws.proofs.Run.{Move, IsSchedule, run, start as from_start}
use Rattle.zk_laws.proofs.Seen.{seen}
use Rattle.zk_laws.proofs.Between.{Invariant, IsLow}

-- a schedule leads to the world
pub record Reached (h : History) (saved : ℕ) (w : World) : Type 0 where
  pub moves : List Move
  pub may : IsSchedule h moves (from_start saved)
  pub is : run h moves (from_start saved) ≡ w

-- a message in flight to the client: its payload, the xid of the request that it answers, and what was asked
pub record Letter : Type 0 where
  pub message : Message
  pub payload : List ℕ
  pub xid : ℤ
  pub asked : List Asking

-- their bytes
abbrev pub frames : List Letter → List ℕ
frames ls = flat_map (λ l. frame l.payload) ls

-- their messages
abbrev pub messages : List Letter → List Message
messages ls = map (λ l. l.message) ls

-- what was asked for them
abbrev pub answers : List Letter → List Asking
answers ls = flat_map (λ l. l.asked) ls

-- no acceptance and no expiry
abbrev pub AreLater : List Message → Type 0
AreLater [] = Unit {0}
AreLater (Accepted ∷ ms) = ⊥
AreLater (Expired ∷ ms) = ⊥
AreLater (_ ∷ ms) = AreLater ms

-- what a request asks
abbrev pub WaitsFor : ℤ → Request → List Asking → Type 0
WaitsFor xid (Ask call) asked = (ticket : ℕ) × (n : ℕ) × (xid ≡ pos n) × (asked ≡ For_call n ticket call ∷ [])
WaitsFor xid (Restore is_last relative part) asked = (xid ≡ part_xid) × (asked ≡ For_part is_last ∷ [])
WaitsFor xid _ asked = asked ≡ []

-- what the requests ask, in order
abbrev pub Owes : List Sent → List Asking → Type 0
Owes [] asked = asked ≡ []
Owes (s ∷ ss) asked = (mine : List Asking) × (more : List Asking) × WaitsFor s.xid s.request mine × (asked ≡ mine ++ more) × Owes ss more

-- what comes after the letters: nothing, or the reply with an error and any bytes
pub data Tail : Type 0 where
  Nothing_more : Tail
  Failure : (payload : List ℕ) → (rest : List ℕ) → Tail

abbrev pub tail_bytes : Tail → List ℕ
tail_bytes Nothing_more = []
tail_bytes (Failure payload rest) = frame payload ++ rest

-- the payload says that a part of setWatches is refused
pub record IsRefusal (payload : List ℕ) : Type 0 where
  pub zxid : ℤ
  pub code : ℤ
  pub behind : List ℕ
  pub other : code ≢ pos 0
  pub headed : IsHeaded part_xid zxid code payload behind

module _ (v : Invariant) where
  -- The payload is the message's; that of a refusal may have the zxid 0 or one below.
  abbrev pub IsSpelt : ℤ → Message → List ℕ → Type 0
  IsSpelt xid (Replies question z (Refused code)) payload =
      IsPayload xid (Replies question z (Refused code)) payload
      ⊎ (v.departs × (z ≡ 0) × (zxid : ℤ) × (behind : List ℕ) × (from_zero zxid ≡ 0) × IsOther code
      × IsHeaded xid zxid code payload behind)
  IsSpelt xid message payload = IsPayload xid message payload

  -- what was asked for the message, under the xid of its request, and that a server gives this reply
  abbrev pub IsFor : ℤ → Message → List Asking → Type 0
  IsFor xid (Replies question zxid result) asked = (ticket : ℕ) × (n : ℕ) × (call : Call) × (xid ≡ pos n)
      × (question_of call ≡ question) × (asked ≡ For_call n ticket call ∷ []) × v.gives call zxid result
  IsFor xid (Watches_set is_last zxid) asked = (xid ≡ part_xid) × (asked ≡ For_part is_last ∷ [])
  IsFor xid _ asked = asked ≡ []

  -- the reply was given, with a zxid from 0, after these items; or it refuses, with the zxid 0 or one below
  abbrev pub IsAnsweredFor : List Log_item → Call → ℤ → Result → Type 0
  IsAnsweredFor log call zxid result =
      ((zxid ≡ pos (from_zero zxid)) × v.follows log (from_zero zxid) × v.gives call (from_zero zxid) result)
      ⊎ (v.departs × IsLow zxid result)

module _ (v : Invariant) (start : Start) where
  -- the reply is to the call that waits first
  abbrev pub IsAnswered : Past → ℕ → Question → ℤ → Result → Type 0
  IsAnswered past ticket question zxid result = (xid : ℕ) × (call : Call) × (more : List Asking)
      × (awaited past ≡ For_call xid ticket call ∷ more) × (question_of call ≡ question)
      × IsAnsweredFor v (seen start past) call zxid result

module _ (v : Invariant) (start : Start) (Was : List ℕ → Type 0) where
  -- Silence; a message that is longer than is admitted: one of those that were sent has the length that stands next; or a part that
  -- was refused.
  abbrev pub IsDue : Fault → Past → Type 0
  IsDue fault past =
      (fault ≡ Silent)
      ⊎ ((fault ≡ Framed TooLong)
      × ((payload : List ℕ) × Was payload × (longest start.limits (state_of past) < length payload)
      × (length_field (held_of past) ≡ length payload) × IsTooLongFor start.limits payload))
      ⊎ (v.departs × (code : ℤ) × (fault ≡ WatchesRefused code) × (code ≢ pos 0))

  -- the payload was sent and spells the message, and what waits for it is said
  pub record IsLetter (l : Letter) : Type 0 where
    pub was_sent : Was l.payload
    pub short : length l.payload < 2 ^ 31
    pub spelt : IsSpelt v l.xid l.message l.payload
    pub is_for : IsFor v l.xid l.message l.asked

  -- where a part was refused, the server has ended, and the part waits first after the letters
  abbrev pub IsTail : Tail → Stage → List Asking → Type 0
  IsTail Nothing_more stage owed = Unit {0}
  IsTail (Failure payload rest) stage owed = Was payload × (length payload < 2 ^ 31) × IsRefusal payload × (stage ≡ Ended) × (b : Bool)
      × (more : List Asking) × (owed ≡ For_part b ∷ more) × v.departs

  -- the invariant between messages, where the client and its server stand
  abbrev pub IsKeptFor : Past → ServerEnd → List Request → List Message → Type 0
  IsKeptFor past server rs ms = v.kept (is_talking (state_of past)) (seen start past) rs ms server

  -- an open connection, with these letters in flight
  pub record InFlight (past : Past) (wire : Wire) (letters : List Letter) (tail : Tail) : Type 0 where
    pub enough : wire.processed ≤ length (requests start past)
    pub are : AllByRecursion IsLetter letters
    pub bytes : held_of past ++ wire.coming ≡ frames letters ++ tail_bytes tail
    pub owed : List Asking
    pub owes : Owes (unread start past wire) owed
    pub pending : awaited past ≡ answers letters ++ owed
    pub later : is_talking (state_of past) ≡ true → AreLater (messages letters)
    pub ended : IsTail tail wire.server.stage owed
    pub kept : IsKeptFor past wire.server (map (λ s. s.request) (unread start past wire)) (messages letters)

  -- what was dropped and answered so far had its reason
  abbrev pub IsCalm : Past → Type 0
  IsCalm [] = Unit {0}
  IsCalm (Dropped fault ∷ past) = IsDue fault past × IsCalm past
  IsCalm (Takes_in (Answers_call ticket question zxid result) ∷ past) = IsAnswered v start past ticket question zxid result × IsCalm past
  IsCalm (_ ∷ past) = IsCalm past

  -- All of it.
  pub record Meets (past : Past) (wire : Wire) : Type 0 where
    pub right : v.right (seen start past)
    pub going : is_going past ≡ true → (letters : List Letter) × (tail : Tail) × InFlight past wire letters tail
    pub calm : IsCalm past
    pub counted : answered past ≤ length (questions past)

-- the message level's connection
abbrev pub connection : Bool → List Request → List Message → ServerEnd → Connection
connection talks requests messages server = record {
  requests = requests;
  messages = messages;
  place = server.place;
  watches = server.watches;
  stage = server.stage;
  talking = talks;
}

-- A run has come as far, and on an open connection it has this connection. Each reply has a code, and is true of a write.
abbrev pub by_runs : History → ℕ → Invariant
by_runs h saved = record {
  right = λ log. (link : Link) × Reached h saved (record { log = log; link = link });
  kept = λ talks log rs ms server. Reached h saved (record { log = log; link = Up (connection talks rs ms server) });
  gives = λ call zxid result. HasCode result × IsTrueWrite h call zxid result;
  follows = λ log zxid. ⊤;
  may = λ step server rs. MayDo h step server rs;
  departs = ⊥;
}

-- What is in flight and what is awaited agree with a run. What is in flight was sent.
abbrev pub Matches : (h : History) → (start : Start) → (Was : List ℕ → Type 0) → Past → Wire → Type 0
Matches h start Was past wire = Meets (by_runs h (from_zero start.last)) start Was past wire

-- each caller asked about paths
abbrev pub AllAsked : List Item → Type 0
AllAsked items = AllAskOf IsAskable items
