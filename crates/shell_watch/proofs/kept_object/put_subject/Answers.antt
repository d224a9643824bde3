-- The path and side, and what is kept with the last seen zxid after them, are written: by `then_kept`.
use Rattle.std.proofs.Common.{◌++◌, codes}
use Rattle.zk_client.specs.Clients.{view_of}
use Rattle.shell_words.specs.Objects.{number_members, text_members}
use Rattle.shell_watch.specs.Lines.{side_name, AreMembers}
use Rattle.shell_watch.proofs.Objects.{then_kept}
use Rattle.shell_watch.proofs.kept_object.put_subject.Goals as goal

pub returns : goal.returns
returns g c =
    let old = c.args.writer.now in
    let between = c.put_aim.new.writer in
    let new = c.put_known.new.writer in
    let view = view_of c.args.client.now in
    let subject = c.args.subject.now in
    then_kept (AreMembers subject.side subject.path view) c.put_known.result old.before between.before new.before old.tokens
    between.tokens new.tokens
    (text_members (codes "path") subject.path ++ text_members (codes "side") (side_name subject.side))
    (number_members (codes "last") view.saved.last)
    c.in_ok-put_aim.ensures.0 c.in_ok-put_aim.ensures.1 c.put_known.ensures
