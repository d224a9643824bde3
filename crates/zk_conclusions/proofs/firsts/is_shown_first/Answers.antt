-- Where the directory's names are kept and good, their test is the view's: `shown_first`, by what `peek_children` and `is_first` ensure.
use Rattle.zk_cache.specs.Contents.{names_in}
use Rattle.zk_client.specs.Clients.{view_of}
use Rattle.zk_conclusions.proofs.Shown.{shown_first}
use Rattle.zk_conclusions.proofs.firsts.is_shown_first.Goals as goal

pub returns-in-Some-default-Good : goal.returns-in-Some-default-Good
returns-in-Some-default-Good g c =
    shown_first (view_of c.args.client.now) c.args.directory.now c.args.prefix.now c.args.own.now
    (names_in c.in-Some-default-Good.names.now) c.in-Some-default-Good.field-0-1 c.is_first.result c.in-Some-default-Good.field-0-1-is
    c.in-Some-default-Good.ensures c.is_first.ensures
