-- The line of the bound is the object of the tokens that `begun` and `put_count` ensure: by `line_is`.
use Rattle.std.proofs.Common.{◌≢◌, ◌∙◌, ◌++◌, [], List, ap, codes}
use Rattle.std.proofs.lemmas.Result.{IfOk-weaker}
use Rattle.std.specs.Prelude.{pos, string_bytes}
use Rattle.json.specs.Token as json
use Rattle.shell_words.specs.Objects.{number_members}
use Rattle.shell_watch.proofs.Objects.{line_is}
use Rattle.shell_watch.proofs.bound.bound_object.Goals as goal

pub returns : goal.returns
returns g c =
    let members = number_members (codes "nodes") (pos c.args.most) in
    let put = c.in_ok-put_count.ensures in
    let some : codes "bound" ≢ [] = λ none. absurd cc in
    IfOk-weaker c.ended.result _ _ (λ line is.
    line_is c.args.ms (codes "bound") members c.put_count.new.writer.tokens c.put_count.new.writer.before (string_bytes line) some
    (put.0 ∙ c.in_ok-writer.ensures.before) (put.1 ∙ ap (λ (t : List json.Token). t ++ members) c.in_ok-writer.ensures.tokens) is)
    c.ended.ensures
