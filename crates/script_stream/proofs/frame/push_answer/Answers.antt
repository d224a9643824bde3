-- The words are those of the header and of what is behind it, by the same topic: `answered`, from what the two calls ensure.
use Rattle.std.proofs.Common.{rules, ◌≡◌, ◌++◌, OnOk}
use Rattle.std.proofs.lemmas.Result.{on_ok_weaker}
use Rattle.std.specs.Prelude.{string_bytes}
use Rattle.zk_jute.specs.Cursor.{bytes_left, payload_len}
use Rattle.script_stream.specs.Asked.{topic_of}
use Rattle.script_stream.specs.Frames.{behind_told}
use Rattle.script_stream.proofs.AnswerLemmas.{answered}
use Rattle.script_stream.proofs.frame.push_answer.Goals as goal

pub returns : goal.returns
returns g c =
    let header = c.args.header.now in
    let topic = c.topic_of-topic.result in
    let end = payload_len c.args.at.now in
    let bytes = bytes_left c.args.at.now in
    let is : topic ≡ topic_of c.args.asked.now header.xid = search rules in
    let behind : OnOk c.push_behind.result
    (string_bytes c.push_behind.new.text ≡ string_bytes c.push_header.new.text ++ behind_told topic header.err end bytes) =
    search rules in
    on_ok_weaker c.push_behind.result
    (λ told. answered c.args.asked.now header topic end bytes (string_bytes c.args.text.now) (string_bytes c.push_header.new.text)
    (string_bytes c.push_behind.new.text) is
    c.in_ok-push_header.ensures told)
    behind
