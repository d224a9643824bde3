-- What is kept, and the last seen zxid after it, are written: by `kept_then`, of what `put_kept` and `put_number` ensure.
use Rattle.std.proofs.Common.{rules, ◌≡◌, codes, to_z, of_z, w64}
use Rattle.zk_client.specs.Clients.{view_of}
use Rattle.shell_words.specs.Objects.{number_members}
use Rattle.shell_watch.specs.Lines.{AreMembers}
use Rattle.shell_watch.proofs.Objects.{kept_then}
use Rattle.shell_watch.proofs.kept_object.put_known.Goals as goal

pub returns : goal.returns
returns g c =
    let old = c.args.writer.now in
    let between = c.put_kept.new.writer in
    let new = c.put_number.new.writer in
    let view = view_of c.args.client.now in
    let same : to_z w64 (of_z w64 c.last_zxid.result) ≡ view.saved.last = search rules in
    kept_then (AreMembers c.args.subject.now.side c.args.subject.now.path view) c.put_number.result old.before between.before new.before
    old.tokens between.tokens new.tokens
    (number_members (codes "last") view.saved.last) c.in_ok-put_kept.ensures (rw same at c.put_number.ensures)
