-- The line of a subject is the object of the members that `put_subject` ensures: by `line_is`, as no kind is empty (`kind_some`).
use Rattle.std.proofs.Common.{◌∙◌, ◌++◌, List, ap}
use Rattle.std.proofs.lemmas.Result.{IfOk-weaker}
use Rattle.std.specs.Prelude.{string_bytes}
use Rattle.json.specs.Token as json
use Rattle.zk_client.specs.Clients.{view_of}
use Rattle.shell_watch.specs.Lines.{kind_of, subject_members}
use Rattle.shell_watch.proofs.Objects.{kind_some, line_is}
use Rattle.shell_watch.proofs.kept_object.subject_object.Goals as goal

pub returns : goal.returns
returns g c =
    let side = c.args.subject.now.side in
    let path = c.args.subject.now.path in
    let view = view_of c.args.client.now in
    let put = c.in_ok-put_subject.ensures in
    let members = subject_members side path put.0 view.saved.last in
    let begins = rw c.kind_of.ensures at c.in_ok-writer.ensures.tokens in
    IfOk-weaker c.ended.result _ _ (λ line is. (
      put.0,
      put.1,
      line_is c.args.ms (kind_of side path view) members c.put_subject.new.writer.tokens c.put_subject.new.writer.before (string_bytes line)
          (kind_some side path view)
          (put.2 ∙ c.in_ok-writer.ensures.before) (put.3 ∙ ap (λ (t : List json.Token). t ++ members) begins) is,
    )) c.ended.ensures
