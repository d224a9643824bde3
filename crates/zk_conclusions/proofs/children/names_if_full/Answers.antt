-- A node with full, good data and good names is full: `is_full`, from what `has_data` and `peek_children` ensure.
use Rattle.std.proofs.Common.{sym, ◌∙◌}
use Rattle.zk_cache.specs.Contents.{names_in}
use Rattle.zk_client.specs.Clients.{view_of}
use Rattle.zk_conclusions.proofs.Keeping.{is_full}
use Rattle.zk_conclusions.proofs.children.names_if_full.Goals as goal

pub returns-in-Some-default-Good-clause-some : goal.returns-in-Some-default-Good-clause-some
returns-in-Some-default-Good-clause-some g c =
    is_full (view_of c.args.client.now).cache c.args.path.now (names_in c.in-Some-default-Good.names.now) c.in-Some-default-Good.field-0-1
    (sym c.has_data.ensures ∙ c.if-not-has_data.false)
    c.in-Some-default-Good.field-0-1-is c.in-Some-default-Good.ensures
