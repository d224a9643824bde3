-- What is said of why a connection is given up, of memory that ran out and of what a call is answered, in words and by codes.
use Rattle.std.specs.Prelude.{ℕ, List, ◌++◌, codes, Option, Some, None}
use Rattle.std.specs.Fmt.{signed_decimal}
use Rattle.zk_frames.specs.FaultText.{frame_fault_words, frame_fault_code}
use Rattle.zk_conversation.specs.FaultText.{talk_fault_words, talk_fault_code}
use Rattle.zk_turns.specs.Turns.{Fault, Framed, Talked, Silent, Behind, WatchesRefused, Outcome, Replied, ConnectionLoss, SessionExpired}
use Rattle.zk_turns.specs.Turns.{SessionClosed, NotConnected, TooManyWatches, TooLarge, TooManyPending}

-- the code and the words of a fault
abbrev pub fault_text : Fault → List ℕ × List ℕ
fault_text (Framed fault) = (frame_fault_code fault, frame_fault_words fault)
fault_text (Talked fault) = (talk_fault_code fault, talk_fault_words fault)
fault_text Silent = (codes "D1", codes "nothing was heard for two thirds of the timeout")
fault_text (Behind seen came) = (
  codes "D2",
  codes "zxid " ++ (signed_decimal seen ++ (codes " was seen, and a reply to a watched read has zxid " ++ signed_decimal came)),
)
fault_text (WatchesRefused code) = (codes "D3", codes "setWatches was refused with code " ++ signed_decimal code)

abbrev pub fault_code : Fault → List ℕ
fault_code fault = (fault_text fault).0

abbrev pub fault_words : Fault → List ℕ
fault_words fault = (fault_text fault).1

abbrev pub halt_words : List ℕ
halt_words = codes "out of memory: the client has no use from now on"

-- the code of why there is no reply, and the words of what a call is answered
abbrev pub outcome_text : Outcome → Option (List ℕ) × List ℕ
outcome_text (Replied zxid result) = (None, codes "a reply with zxid " ++ signed_decimal zxid)
outcome_text ConnectionLoss = (Some (codes "K1"), codes "the connection was lost: the call may or may not have happened")
outcome_text SessionExpired = (Some (codes "K2"), codes "the session has expired")
outcome_text SessionClosed = (Some (codes "K3"), codes "the session is closed or is being closed")
outcome_text NotConnected = (Some (codes "K4"), codes "the client is not connected")
outcome_text TooManyWatches = (Some (codes "K5"), codes "65,536 paths of the side are watched, pending reads counted")
outcome_text TooLarge = (Some (codes "K6"), codes "the payload has more than 1,048,575 bytes")
outcome_text TooManyPending = (Some (codes "K7"), codes "1,024 calls are pending")

abbrev pub outcome_code : Outcome → Option (List ℕ)
outcome_code outcome = (outcome_text outcome).0

abbrev pub outcome_words : Outcome → List ℕ
outcome_words outcome = (outcome_text outcome).1
