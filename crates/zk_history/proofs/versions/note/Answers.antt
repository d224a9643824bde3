-- A write of data adds a version to its own path alone: what `note_at` ensures, as equal texts are equal paths, by `same_path`.
use Rattle.std.proofs.Common.{cond, sym, ap, subst, ◌∙◌}
use Rattle.zk_nodes.specs.Path.{path_eq, path_of}
use Rattle.zk_nodes.specs.PathFault.{IsPath}
use Rattle.zk_history.specs.Made.{change_of}
use Rattle.zk_history.specs.Versions.{versions_of}
use Rattle.zk_history.specs.inner.Versions.{with_version, touches}
use Rattle.zk_history.proofs.ViewLemmas.{OnOk-map}
use Rattle.zk_history.proofs.VersionsLemmas.{same_path}
use Rattle.zk_history.proofs.versions.note.Goals as goal

pub returns-in-Set-clause-ok : goal.returns-in-Set-clause-ok
returns-in-Set-clause-ok g c =
    OnOk-map c.note_at.result
    (λ noted text is.
    let at = c.as_str.result.now in
    let s = c.args.spot in
    let old = versions_of c.args.versions.now text in
    noted text
    ∙ ap (λ b. cond b (with_version s.zxid s.time s.origin text (change_of c.args.change.now) old) old)
    (same_path at text (subst IsPath (sym c.as_str.ensures.text) c.as_str.ensures.path) is
    ∙ ap (λ t. path_eq (path_of text) (path_of t)) c.as_str.ensures.text
    ∙ ap (λ change. touches (path_of text) (change_of change)) (sym c.in-Set.is)))
    c.note_at.ensures.ok
