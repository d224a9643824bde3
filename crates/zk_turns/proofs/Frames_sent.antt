-- The frames that a connection was sent, by what happened: in the words of `theory_pieces`. `requests` in
-- `zk_laws/specs/Served.antt` has them with what was asked.
use Rattle.std.specs.Prelude.{pos, ℕ, ℤ, List, [], ◌∷◌, ◌++◌, map}
use Rattle.zk_turns.specs.Turns.{Start}
use Rattle.zk_frames.specs.Frame.{frame}
use Rattle.zk_conversation.specs.Calls.{connect_payload, call_payload, ping_payload, part_payload}
use Rattle.zk_turns.specs.Past.{Past, Began, Took, Asked, Pinged, Accepted, session_of, last_of, lists_of, xid_of}
use Rattle.zk_watches.specs.Lists.{Lists}
use Rattle.zk_watches.specs.Parts.{parts}

abbrev pub part_of : ℤ → Lists → List ℕ
part_of relative part = frame (part_payload relative part.data_watches part.exist_watches part.child_watches)

module _ (start : Start) where
  -- The ConnectRequest with the saved session and the last seen zxid; where it was accepted, the parts with the last
  -- seen zxid; then the requests of the calls that were not refused, with xids running on, and pings.
  abbrev pub sent : Past → List (List ℕ)
  sent [] = []
  sent (Began ∷ past) =
      frame (connect_payload (last_of start past) (pos start.timeout) (session_of start past).session (session_of start past).password) ∷ []
  sent (Took (Accepted welcome) ∷ past) = sent past ++ map (part_of (last_of start past)) (parts (lists_of past))
  sent (Asked ticket call ∷ past) = sent past ++ frame (call_payload (pos (xid_of past)) call) ∷ []
  sent (Pinged ∷ past) = sent past ++ frame ping_payload ∷ []
  sent (_ ∷ past) = sent past
