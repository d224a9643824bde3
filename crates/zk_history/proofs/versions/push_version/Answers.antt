-- The version stands last of its text's and the others' stay, by `versions_written`: in the vector lent, or in a new one that is inserted.
-- A push that fails leaves all as they were, by `written_same`.
use Rattle.std.proofs.Common.{◌≡◌, ◌∷◌, ◌++◌, [], if◌then◌else◌, bytes_eq, sym, ap, ◌∙◌, rules, subst, List}
use Rattle.std.proofs.lemmas.Result.{err_from_is_err_and}
use Rattle.std.specs.Option.{option_map_or}
use Rattle.std.specs.String.{string_bytes}
use Rattle.zk_nodes.specs.Path.{Text}
use Rattle.zk_history.specs.declared.version.Version.{Version}
use Rattle.zk_history.specs.Versions.{versions_of}
use Rattle.zk_history.proofs.VersionsLemmas.{versions_written, written_same}
use Rattle.zk_history.proofs.versions.push_version.Goals as goal

pub returns-in_err-push-clause-err : goal.returns-in_err-push-clause-err
returns-in_err-push-clause-err g c =
    let had : versions_of c.args.versions.now c.args.at.now ≡ c.in-Some.held.now.items =
    ap (λ o. option_map_or (λ v. v.items) o []) (sym c.in-Some.ensures.value) in
    let same = written_same c.args.at.now c.args.versions.now
    (c.get_mut.follows.lender c.push.new.self) c.push.new.self c.in-Some.held.now.items had c.in_err-push.ensures.items
    ((c.get_mut.follows.holds c.push.new.self).3 (search rules)) in
    let p = err_from_is_err_and c.from_residual.result c.from_residual.ensures.1 in
    rw (p.1, p.2) same

pub returns-in-Some-clause-ok : goal.returns-in-Some-clause-ok
returns-in-Some-clause-ok g c =
    let had : versions_of c.args.versions.now c.args.at.now ≡ c.in-Some.held.now.items =
    ap (λ o. option_map_or (λ v. v.items) o []) (sym c.in-Some.ensures.value) in
    versions_written c.args.at.now c.args.versions.now (c.get_mut.follows.lender c.push.new.self) c.push.new.self
    (λ vs. vs ++ c.args.version ∷ []) c.in-Some.held.now.items had c.in_ok-push.ensures.items
    ((c.get_mut.follows.holds c.push.new.self).3 (search rules))

pub returns-clause-ok : goal.returns-clause-ok
returns-clause-ok g c =
    let same = c.get_mut.follows.holds-at-none in
    let key = c.in_ok-from_str.ensures.ok in
    let had : versions_of c.args.versions.now c.args.at.now ≡ [] =
    ap (λ o. option_map_or (λ v. v.items) o []) (sym c.in_default.ensures.value) in
    let had_key : versions_of c.get_mut.follows.lender-at-none (string_bytes c.in_ok-from_str.field-0) ≡ [] =
    ap (λ m. versions_of m (string_bytes c.in_ok-from_str.field-0)) same ∙ ap (versions_of c.args.versions.now) key ∙ had in
    let push : List Version → List Version = λ vs. vs ++ c.args.version ∷ [] in
    let P : Text → Type 0 = λ at. (text : Text) → versions_of c.insert.new.self text ≡ if bytes_eq at text
    then push (versions_of c.get_mut.follows.lender-at-none text) else versions_of c.get_mut.follows.lender-at-none text in
    let done : P (string_bytes c.in_ok-from_str.field-0) = versions_written
    (string_bytes c.in_ok-from_str.field-0) c.get_mut.follows.lender-at-none c.insert.new.self c.push-2.new.self push [] had_key
    (c.in_ok-push-2.ensures.items ∙ ap push c.new-first.ensures.items) c.in_ok-insert.ensures.updates in
    rw same at (subst P key done)
