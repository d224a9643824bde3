-- The lines of a path are those of its data and then those of its names: `both_sides`, from what the two calls of `push_answer` ensure.
use Rattle.std.specs.Prelude.{string_bytes}
use Rattle.zk_client.specs.Clients.{view_of}
use Rattle.script_rehearse.proofs.GoodLemmas.{both_sides}
use Rattle.script_rehearse.proofs.good.push_verdicts.Goals as goal

pub returns : goal.returns
returns g c =
    both_sides c.push_answer-2.result (view_of c.args.client.now) c.args.history.now c.args.path.now (string_bytes c.args.text.now)
    (string_bytes c.push_answer.new.text)
    (string_bytes c.push_answer-2.new.text) c.in_ok-push_answer.ensures c.push_answer-2.ensures
