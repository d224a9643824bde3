-- A write of data touched the versions of its own path alone, so one is taken away there: what `pop_version` ensures, as equal texts are
-- equal paths, by `same_path`.
use Rattle.std.proofs.Common.{cond, sym, ap, subst, ◌∙◌}
use Rattle.zk_nodes.specs.Path.{path_eq, path_of}
use Rattle.zk_nodes.specs.PathFault.{IsPath}
use Rattle.zk_history.specs.Made.{change_of}
use Rattle.zk_history.specs.Versions.{versions_of}
use Rattle.zk_history.specs.inner.Versions.{versions_before, without_last}
use Rattle.zk_history.proofs.VersionsLemmas.{same_path}
use Rattle.zk_history.proofs.versions.forget.Goals as goal

pub returns-in-Set : goal.returns-in-Set
returns-in-Set g c = λ text is.
    let at = c.as_str.result.now in
    let old = versions_of c.args.versions.now text in
    c.pop_version.ensures text
    ∙ ap (λ b. cond b (without_last old) old) (same_path at text (subst IsPath (sym c.as_str.ensures.text) c.as_str.ensures.path) is
    ∙ ap (λ t. path_eq (path_of text) (path_of t)) c.as_str.ensures.text)
    ∙ ap (λ change. versions_before text (change_of change) old) (sym c.in-Set.is)
