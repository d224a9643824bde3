-- What is added for a reply or a notice.
use Rattle.std.proofs.Common.{◌≡◌, ℕ, List, ◌++◌, ap, ◌∙◌, append_assoc}
use Rattle.zk_records.specs.declared.reply_header.ReplyHeader.{ReplyHeader}
use Rattle.zk_records.specs.declared.request_header.RequestHeader.{RequestHeader}
use Rattle.script_stream.specs.declared.asked.Topic.{Topic}
use Rattle.script_stream.specs.Asked.{topic_of}
use Rattle.script_stream.specs.Frames.{answer_words, behind_told, header_words}

pub answered : (asked : List RequestHeader) (header : ReplyHeader) (topic : Topic) (end : ℕ) (bytes text begun whole : List ℕ)
    → topic ≡ topic_of asked header.xid
    → begun ≡ text ++ header_words header topic → whole ≡ begun ++ behind_told topic header.err end bytes
    → whole ≡ text ++ answer_words asked header end bytes
answered asked header topic end bytes text begun whole is first second =
    second ∙ ap (λ (x : List ℕ). x ++ behind_told topic header.err end bytes) first
    ∙ append_assoc text (header_words header topic) (behind_told topic header.err end bytes)
    ∙ ap (λ (t : Topic). text ++ (header_words header t ++ behind_told t header.err end bytes)) is
