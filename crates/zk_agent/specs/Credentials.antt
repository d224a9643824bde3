-- Credentials: the frame of one, what a connection brings in answer to it, and what a step writes and tells of all.
use Rattle.std.specs.Prelude.{◌+◌, ◌-◌, ◌*◌, ◌/◌, ◌%◌, ◌^◌, ◌==◌, ◌&&◌, not, nat_lt, ℕ, ℤ, pos, negsuc, Bool, true, false}
use Rattle.std.specs.Prelude.{if◌then◌else◌, List, [], ◌∷◌, ◌++◌, drop, fold, length, map, Option, Some, None}
use Rattle.std.specs.Int.{w32, cast_signed}
use Rattle.zk_jute.specs.Layout.{Layout, int, ustring, buffer, ◌⨾◌}
use Rattle.zk_jute.specs.Spelling.{spelling}
use Rattle.zk_session.specs.declared.states.State.{State}
use Rattle.zk_session.specs.declared.states.State.TheVariants.{Connecting}
use Rattle.zk_agent.specs.declared.answering.Answering.{Answering}
use Rattle.zk_agent.specs.declared.credentials.Credentials.{Credentials}
use Rattle.zk_agent.specs.declared.frames.Frames.{Frames}
use Rattle.zk_agent.specs.declared.input.AgentInput.{AgentInput}
use Rattle.zk_agent.specs.declared.input.AgentInput.TheVariants as happens
use Rattle.zk_agent.specs.Waits.{is_whole, next_place, place_after}

-- ---- the frame of one

-- xid and type; then AuthPacket of zookeeper.jute: type, scheme, auth
abbrev pub auth_request : Layout
auth_request = int ⨾ (int ⨾ (int ⨾ (ustring ⨾ buffer)))

-- negsuc n is -(n + 1): the xid is -4.
unfoldable pub auth_payload : (scheme secret : List ℕ) → List ℕ
auth_payload scheme secret = spelling auth_request (negsuc 3, (pos 100, (pos 0, (Some scheme, Some secret))))

-- ---- an answer

-- Whether the byte that has come last ends the head of an answer to a credential: its xid is -4, and of what its length says 16 bytes have
-- come, which are the xid, a zxid and the code. A frame that has fewer is none.
abbrev pub is_answer : Frames → Bool
is_answer at = (at.held == 8) && ((at.head % 2 ^ 32 == 4294967292) && (at.head / 2 ^ 32 - at.left == 16))

-- the last four bytes of a stream as a number, with one byte more
abbrev pub last_with : (byte last : ℕ) → ℕ
last_with byte last = (last * 256 + byte) % 2 ^ 32

-- With one byte more. The first frame of a connection is the ConnectResponse, and no answer.
abbrev pub listened : (byte : ℕ) → Answering → Answering
listened byte at = record {
  place = place_after byte at.place;
  is_first = at.is_first && not (is_whole (next_place byte at.place));
  last = last_with byte at.last;
}

-- the code of the answer whose head ends with this byte
abbrev pub code_at : (byte : ℕ) → Answering → Option ℤ
code_at byte at =
    if not at.is_first && is_answer (next_place byte at.place) then Some (cast_signed w32 (last_with byte at.last)) else None

-- ---- what is known of all

-- The frames of the credentials in the order in which they were handed in, how many of them were written on the connection that is there,
-- how many of these the server has answered, and the last bytes that came.
pub record Papers : Type 0 where
  pub frames : List (List ℕ)
  pub written : ℕ
  pub answered : ℕ
  pub last : ℕ

abbrev pub papers_of : {A : Type 0} → Credentials A → Papers
papers_of credentials = record {
  frames = map (λ c. c.frame.items) credentials.all.items;
  written = credentials.written;
  answered = credentials.answered;
  last = credentials.last;
}

-- no credential
abbrev pub no_papers : Papers
no_papers = record { frames = []; written = 0; answered = 0; last = 0 }

-- with one that is handed in
abbrev pub with_credential : {A : Type 0} → AgentInput A → Papers → Papers
with_credential (happens.Credential credential) papers = record papers { frames = papers.frames ++ credential.frame.items ∷ [] }
with_credential input papers = papers

-- ---- with the bytes of a connection

-- how many credentials are answered, and which were answered by the bytes of this step, with the codes
pub record Verdicts : Type 0 where
  pub answered : ℕ
  pub judged : List (ℕ × ℤ)

-- An answer is to the first credential that has none. If each that was written has one, it is none.
abbrev pub judged_by : (written : ℕ) → Option ℤ → Verdicts → Verdicts
judged_by written None verdicts = verdicts
judged_by written (Some code) verdicts =
    if nat_lt verdicts.answered written
    then record { answered = verdicts.answered + 1; judged = verdicts.judged ++ (verdicts.answered, code) ∷ [] }
    else verdicts

-- a stream, and what has come of it
abbrev pub Judging : Type 0
Judging = Answering × Verdicts

abbrev pub judged_at : (written : ℕ) → Judging → (byte : ℕ) → Judging
judged_at written judging byte = (listened byte judging.0, judged_by written (code_at byte judging.0) judging.1)

abbrev pub judged_in : (written : ℕ) → Judging → List ℕ → Judging
judged_in written judging bytes = fold (judged_at written) judging bytes

-- As long as the client is connecting, the first frame of the connection has not come whole.
abbrev pub is_connecting : State → Bool
is_connecting Connecting = true
is_connecting _ = false

abbrev pub stream_at : State → Frames → Papers → Answering
stream_at state came papers = record { place = came; is_first = is_connecting state; last = papers.last }

abbrev pub before_bytes : State → Frames → Papers → Judging
before_bytes state came papers = (stream_at state came papers, record { answered = papers.answered; judged = [] })

-- Bytes are looked at if a credential waits for its answer, and no others are.
abbrev pub judging_where : (is_awaited : Bool) → (written : ℕ) → Judging → List ℕ → Judging
judging_where true written judging bytes = judged_in written judging bytes
judging_where false written judging bytes = judging

abbrev pub judging_of : {A : Type 0} → (is_open : Bool) → State → Frames → AgentInput A → Papers → Judging
judging_of true state came (happens.Bytes bytes) papers =
    judging_where (nat_lt papers.answered papers.written) papers.written (before_bytes state came papers) bytes.items
judging_of is_open state came input papers = before_bytes state came papers

abbrev pub with_judging : Judging → Papers → Papers
with_judging judging papers = record papers { answered = judging.1.answered; last = judging.0.last }

-- ---- what is written

-- Each is written once on a connection: these are the frames of the others.
abbrev pub unwritten : (is_open : Bool) → Papers → List (List ℕ)
unwritten true papers = drop papers.written papers.frames
unwritten false papers = []

abbrev pub all_written : (is_open : Bool) → Papers → Papers
all_written true papers = record papers { written = length papers.frames }
all_written false papers = record papers { written = 0; answered = 0; last = 0 }
