-- The path's text and its parent's are those of the near paths, by `near_text`, so `note_both` writes what is asked. The root has no
-- parent and no path near it, by `none_near`, so nothing is to be written.
use Rattle.std.proofs.Common.{◌≡◌, cond, false, sym, ap, subst, ◌∙◌, Some}
use Rattle.zk_nodes.specs.Path.{path_of, parent_of}
use Rattle.zk_nodes.specs.PathFault.{IsPath}
use Rattle.zk_history.specs.Made.{change_of}
use Rattle.zk_history.specs.Versions.{versions_of}
use Rattle.zk_history.specs.inner.Versions.{with_version, is_near}
use Rattle.zk_history.proofs.ViewLemmas.{OnOk-map}
use Rattle.zk_history.proofs.VersionsLemmas.{near_text, none_near}
use Rattle.zk_history.proofs.versions.note_near.Goals as goal

pub returns-in-Some-clause-ok : goal.returns-in-Some-clause-ok
returns-in-Some-clause-ok g c =
    OnOk-map c.note_both.result
    (λ noted text is.
    let at = c.as_str.result.now in
    let parent = c.in-Some.parent.now in
    let s = c.args.spot in
    let old = versions_of c.args.versions.now text in
    let below : parent_of (path_of at) ≡ Some (path_of parent) =
    ap (λ t. parent_of (path_of t)) c.as_str.ensures.text ∙ sym c.in-Some.ensures.names in
    noted text
    ∙ ap (λ b. cond b (with_version s.zxid s.time s.origin text (change_of c.args.change.now) old) old)
    (near_text at parent text (subst IsPath (sym c.as_str.ensures.text) c.as_str.ensures.path) c.in-Some.ensures.path is below
    ∙ ap (λ t. is_near (path_of text) (path_of t)) c.as_str.ensures.text))
    c.note_both.ensures.ok

pub returns-in-None-clause-ok : goal.returns-in-None-clause-ok
returns-in-None-clause-ok g c = λ text is.
    let s = c.args.spot in
    let old = versions_of c.args.versions.now text in
    let far : is_near (path_of text) (path_of c.args.path.now) ≡ false =
    none_near (path_of text) (path_of c.args.path.now) (sym c.in-None.ensures.names) in
    ap (λ b. cond b (with_version s.zxid s.time s.origin text (change_of c.args.change.now) old) old) (sym far)
