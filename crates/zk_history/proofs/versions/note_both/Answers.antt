-- The parent's text differs, so the first write leaves the parent's versions as they were, and the second fits; both are one write
-- (`both_written`). Where the second fails, the first is taken back (`pushed_undone`).
use Rattle.std.proofs.Common.{◌≡◌, bytes_eq, sym, subst, ◌∙◌}
use Rattle.std.proofs.lemmas.Bool.{cond-false}
use Rattle.zk_nodes.specs.Path.{path_of}
use Rattle.zk_history.specs.Made.{change_of}
use Rattle.zk_history.specs.Versions.{versions_of}
use Rattle.zk_history.specs.inner.Versions.{with_version, last_version, version_after, CanBeNoted}
use Rattle.zk_history.proofs.VersionsLemmas.{parent_differs, both_written, pushed_undone, on_err_is, on_ok_is}
use Rattle.zk_history.proofs.versions.note_both.Goals as goal

pub note_at-requires-2-clause-fits : goal.note_at-requires-2-clause-fits
note_at-requires-2-clause-fits g c =
    let at = c.args.at.now in
    let parent = c.args.parent.now in
    let same : versions_of c.note_at.new.versions parent ≡ versions_of c.args.versions.now parent =
    c.in_ok-note_at.ensures.ok parent ∙ cond-false (bytes_eq at parent) _ _ (parent_differs at parent c.requires.below) in
    subst (λ vs. CanBeNoted (path_of parent) (change_of c.args.change.now) (last_version vs)) (sym same)
    (c.requires.fits parent c.requires.above)

pub returns-then-is_err-clause-err : goal.returns-then-is_err-clause-err
returns-then-is_err-clause-err g c = λ text.
    let old = versions_of c.args.versions.now text in
    let s = c.args.spot in
    pushed_undone (bytes_eq c.args.at.now text)
    (version_after s.zxid s.time s.origin (path_of text) (change_of c.args.change.now) (last_version old)) old
    (versions_of c.note_at.new.versions text) (versions_of c.note_at-2.new.versions text) (versions_of c.pop_version.new.versions text)
    (c.in_ok-note_at.ensures.ok text)
    (on_err_is c.note_at-2.result c.is_err.result c.is_err.ensures.value c.if-is_err.true c.note_at-2.ensures.err text)
    (c.pop_version.ensures text)

pub returns-clause-ok : goal.returns-clause-ok
returns-clause-ok g c = λ text.
    let s = c.args.spot in
    both_written c.args.at.now c.args.parent.now text (with_version s.zxid s.time s.origin text (change_of c.args.change.now))
    (versions_of c.args.versions.now text)
    (versions_of c.note_at.new.versions text) (versions_of c.note_at-2.new.versions text)
    (parent_differs c.args.at.now c.args.parent.now c.requires.below)
    (c.in_ok-note_at.ensures.ok text)
    (on_ok_is c.note_at-2.result c.is_err.result c.is_err.ensures.value c.if-is_err.false c.note_at-2.ensures.ok text)
