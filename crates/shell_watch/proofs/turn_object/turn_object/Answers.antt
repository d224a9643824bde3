-- A turn that is printed is one line of JSON: `line_is`, of what `begun` wrote, the members that `put_turn` adds, and what `ended` closes.
use Rattle.std.proofs.Common.{◌≢◌, ◌∙◌, ◌++◌, [], List, ap, rules}
use Rattle.std.proofs.lemmas.Result.{IfOk-weaker}
use Rattle.std.specs.Prelude.{string_bytes}
use Rattle.json.specs.Token as json
use Rattle.zk_client.specs.Clients.{view_of}
use Rattle.shell_watch.specs.Lines.{turn_kind, turn_members}
use Rattle.shell_watch.proofs.Objects.{line_is}
use Rattle.shell_watch.proofs.turn_object.turn_object.Goals as goal

pub returns : goal.returns
returns g c =
    let turn = c.args.turn.now in
    let members = turn_members c.args.watched.now c.args.at.now (view_of c.args.client.now) turn in
    let put = c.in_ok-put_turn.ensures in
    let some : turn_kind c.args.watched.now turn ≢ [] = search rules in
    let begins = rw c.turn_kind-kind.ensures at c.in_ok-writer.ensures.tokens in
    IfOk-weaker c.ended.result _ _ (λ line is.
    line_is c.args.ms (turn_kind c.args.watched.now turn) members c.put_turn.new.writer.tokens c.put_turn.new.writer.before
    (string_bytes line) some
    (put.0 ∙ c.in_ok-writer.ensures.before) (put.1 ∙ ap (λ (t : List json.Token). t ++ members) begins) is) c.ended.ensures
