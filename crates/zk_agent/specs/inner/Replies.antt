-- What contracts of private functions say: nobody has to believe it.
use Rattle.std.specs.Prelude.{◌||◌, ◌&&◌, not}
use Rattle.zk_turns.specs.Turns.{Output}
use Rattle.zk_agent.specs.declared.replies.Heard.{Heard}
use Rattle.zk_agent.specs.Replies.{is_back, is_lost, is_over, is_reply}
use Rattle.zk_agent.specs.Waits.{sent_by}

-- with one output more
abbrev pub heard_by : Heard → Output → Heard
heard_by heard output = record {
  ends_row = (heard.ends_row || is_reply output) && not (heard.is_lost || is_lost output);
  is_over = heard.is_over || is_over output;
  is_lost = heard.is_lost || is_lost output;
  goes_back = heard.goes_back || is_back output;
  sent = sent_by heard.sent output;
}
