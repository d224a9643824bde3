-- What the end of a session deletes.
use Rattle.std.proofs.Common.{◌≡◌, ℕ, ◌+◌, ◌<◌, ℤ, Bool, true, false, List, [], ◌∷◌, length, map}
use Rattle.std.proofs.Common.{drop, get_or, Option, is_some, refl, sym, ap}
use Rattle.std.proofs.Common.{◌∙◌, cond}
use Rattle.std.proofs.lemmas.List.{at_drop_more}
use Rattle.std.specs.BTreeMap.{BTreeMap}
use Rattle.std.specs.declared.vec.Vec.{Vec}
use Rattle.zk_nodes.specs.Path.{Text, NodePath, path_of}
use Rattle.zk_nodes.specs.History.{Node, Deletes}
use Rattle.zk_history.specs.HistoryView.{HistoryView, newest_tree, with_change}
use Rattle.zk_log_history.specs.Changes.{named, is_owned, with_changes, made_in, deletions, close_changes}
use Rattle.zk_log_history.specs.Made.{paths_made, AreMade}
use Rattle.zk_log_history.proofs.Changing.{made_in-deleted, with_changes-append}

-- a deletion makes no node
pub made_in-deletions : (s : ℤ) (due : Option Node → Bool) (kept : HistoryView) (ps : List NodePath)
    → made_in s (with_changes kept (deletions due kept ps)).transactions ≡ made_in s kept.transactions
made_in-deletions s due kept [] = refl
made_in-deletions s due kept (p ∷ ps) =
    let next = with_change kept (Deletes p) in
    elim (due (newest_tree kept p)) as (λ b. made_in s (with_changes kept (cond b (Deletes p ∷ deletions due next ps)
    (deletions due kept ps))).transactions ≡ made_in s kept.transactions) [
      | true ↦ made_in-deletions s due next ps ∙ made_in-deleted s kept.transactions p
      | false ↦ made_in-deletions s due kept ps
    ]

deletions-next : (due : Option Node → Bool) (kept : HistoryView) (p : NodePath) (ps : List NodePath)
    → with_changes kept (deletions due kept (p ∷ ps))
    ≡ with_changes (with_changes kept (deletions due kept (p ∷ []))) (deletions due (with_changes kept (deletions due kept (p ∷ []))) ps)
deletions-next due kept p ps =
    let next = with_change kept (Deletes p) in
    elim (due (newest_tree kept p)) as (λ b. with_changes kept (cond b (Deletes p ∷ deletions due next ps) (deletions due kept ps))
    ≡ with_changes (with_changes kept (cond b (Deletes p ∷ []) [])) (deletions due (with_changes kept (cond b (Deletes p ∷ []) [])) ps)) [
      | true ↦ refl
      | false ↦ refl
    ]

-- one path more is looked at
pub deletions-more : {X : Type 0} (view : X → NodePath) (due : Option Node → Bool) (xs : List X) (i : ℕ) (x : X)
    (kept after whole : HistoryView) → i < length xs → x ≡ get_or xs i x
    → after ≡ with_changes kept (deletions due kept (view x ∷ []))
    → with_changes kept (deletions due kept (map view (drop i xs))) ≡ whole
    → with_changes after (deletions due after (map view (drop (i + 1) xs))) ≡ whole
deletions-more view due xs i x kept after whole within is then so_far =
    let rest = map view (drop (i + 1) xs) in
    ap (λ k. with_changes k (deletions due k rest)) (then ∙ ap (λ y. with_changes kept (deletions due kept (view y ∷ []))) is)
    ∙ sym (deletions-next due kept (view (get_or xs i x)) rest)
    ∙ sym (at_drop_more (λ left. with_changes kept (deletions due kept (map view left))) xs i x within) ∙ so_far

told_kept : (s : ℤ) (paths : List (Option Text)) (kept told : HistoryView)
    → told ≡ with_changes kept (deletions is_some kept (map named paths)) → made_in s told.transactions ≡ made_in s kept.transactions
told_kept s paths kept told then =
    ap (λ (k : HistoryView). made_in s k.transactions) then ∙ made_in-deletions s is_some kept (map named paths)

-- what is told is deleted, and then what is owned
pub closed_by : {A : Type 0} (made : BTreeMap ℤ (Vec Text A)) (s : ℤ) (paths : List (Option Text)) (kept told after : HistoryView)
    (owned : List Text) → told ≡ with_changes kept (deletions is_some kept (map named paths)) → owned ≡ paths_made made s
    → AreMade made kept → after ≡ with_changes told (deletions (is_owned s) told (map path_of owned))
    → after ≡ with_changes kept (close_changes s paths kept)
closed_by made s paths kept told after owned first is right then =
    let D = deletions is_some kept (map named paths) in
    let all : map path_of owned ≡ made_in s told.transactions =
    ap (map path_of) is ∙ right s ∙ sym (told_kept s paths kept told first) in
    then ∙ ap (λ ps. with_changes told (deletions (is_owned s) told ps)) all
    ∙ ap (λ (k : HistoryView). with_changes k (deletions (is_owned s) k (made_in s k.transactions))) first
    ∙ sym (with_changes-append kept D (deletions (is_owned s) (with_changes kept D) (made_in s (with_changes kept D).transactions)))

pub AreMade-closed : {A : Type 0} (made : BTreeMap ℤ (Vec Text A)) (s : ℤ) (paths : List (Option Text)) (kept told after : HistoryView)
    (owned : List Text) → told ≡ with_changes kept (deletions is_some kept (map named paths)) → AreMade made kept
    → after ≡ with_changes told (deletions (is_owned s) told (map path_of owned)) → AreMade made after
AreMade-closed made s paths kept told after owned first right then = λ q.
    right q ∙ sym (told_kept q paths kept told first) ∙ sym (made_in-deletions q (is_owned s) told (map path_of owned))
    ∙ ap (λ (k : HistoryView). made_in q k.transactions) (sym then)
