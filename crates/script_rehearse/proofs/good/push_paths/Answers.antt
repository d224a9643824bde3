-- A path more adds its lines before those of the rest (`one_more`). At the end none is left, so what was written is told of all.
use Rattle.std.proofs.Common.{◌++◌, ◌∷◌, [], ℕ, List, map, sym, refl, ap, subst, ◌∙◌, append_assoc}
use Rattle.std.proofs.lemmas.List.{append-nil}
use Rattle.std.specs.Prelude.{string_bytes}
use Rattle.zk_client.specs.Clients.{view_of}
use Rattle.zk_nodes.specs.Path.{Text}
use Rattle.zk_history.specs.HistoryView.{HistoryView}
use Rattle.zk_turns.specs.View.{View}
use Rattle.script_rehearse.specs.Good.{TellsPath, TellsPaths}
use Rattle.script_rehearse.proofs.good.push_paths.Goals as goal

-- what is told of one path more
one_more : (client : View) (history : HistoryView) (path : Text) (paths all : List Text) (so_far one : List ℕ)
    → ((rest : List ℕ) → TellsPaths client history (path ∷ paths) rest → TellsPaths client history all (so_far ++ rest))
    → TellsPath client history path one → (rest : List ℕ) → TellsPaths client history paths rest
    → TellsPaths client history all ((so_far ++ one) ++ rest)
one_more client history path paths all so_far one before tells rest behind =
    subst (TellsPaths client history all) (sym (append_assoc so_far one rest)) (before (one ++ rest) (one, rest, tells, behind, refl))

pub loop-path-init : goal.loop-path-init
loop-path-init g c =
    ([], rw c.into_iter-path-iterator.ensures.into_iter_gives.0 (λ rest tells. tells), sym (append-nil (string_bytes c.args.text.now)))

pub loop-path-preserved : goal.loop-path-preserved
loop-path-preserved g c =
    let client = view_of c.args.client.now in
    let history = c.args.history.now in
    let so_far = c.loop-path.invariant in
    let one = c.in_ok-push_path.ensures in
    let all = map string_bytes c.args.paths.now.keys in
    let before =
    subst (λ paths. (rest : List ℕ) → TellsPaths client history (map string_bytes paths) rest
    → TellsPaths client history all (so_far.0 ++ rest))
    c.in-Some.ensures.steps so_far.1 in
    let tells = subst (λ path. TellsPath client history path one.0) c.as_str.ensures.value one.1 in (
      so_far.0 ++ one.0,
      one_more client history (string_bytes c.in-Some.path.now) (map string_bytes c.next.new.self) all so_far.0 one.0 before tells,
      one.2 ∙ (ap (λ text. text ++ one.0) so_far.2 ∙ append_assoc (string_bytes c.args.text.now) so_far.0 one.0),
    )

pub returns-clause-told : goal.returns-clause-told
returns-clause-told g c =
    let so_far = c.loop-path.invariant in
    (so_far.0, (rw (← append-nil so_far.0) (so_far.1 [] (rw c.in-None.ensures.steps.0 refl))), so_far.2)
