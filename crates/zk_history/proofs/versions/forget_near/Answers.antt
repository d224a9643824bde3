-- A version is taken away of the path and of its parent, which differs from it (`parent_differs`): two writes in turn are one write of
-- both (`both_written`), and these two texts are the near ones (`near_text`).
use Rattle.std.proofs.Common.{◌≡◌, cond, sym, ap, subst, ◌∙◌, Some}
use Rattle.zk_nodes.specs.Path.{path_of, parent_of}
use Rattle.zk_nodes.specs.PathFault.{IsPath}
use Rattle.zk_history.specs.Versions.{versions_of}
use Rattle.zk_history.specs.inner.Versions.{without_last, is_near}
use Rattle.zk_history.proofs.VersionsLemmas.{near_text, parent_differs, both_written}
use Rattle.zk_history.proofs.versions.forget_near.Goals as goal

pub returns-in-Some : goal.returns-in-Some
returns-in-Some g c = λ text is.
    let at = c.as_str.result.now in
    let parent = c.in-Some.parent.now in
    let below : parent_of (path_of at) ≡ Some (path_of parent) =
    ap (λ t. parent_of (path_of t)) c.as_str.ensures.text ∙ sym c.in-Some.ensures.names in
    both_written at parent text without_last (versions_of c.args.versions.now text) (versions_of c.pop_version.new.versions text)
    (versions_of c.pop_version-in-Some.new.versions text)
    (parent_differs at parent below) (c.pop_version.ensures text) (c.pop_version-in-Some.ensures text)
    ∙ ap (λ b. cond b (without_last (versions_of c.args.versions.now text)) (versions_of c.args.versions.now text))
    (near_text at parent text (subst IsPath (sym c.as_str.ensures.text) c.as_str.ensures.path) c.in-Some.ensures.path is below
    ∙ ap (λ t. is_near (path_of text) (path_of t)) c.as_str.ensures.text)
