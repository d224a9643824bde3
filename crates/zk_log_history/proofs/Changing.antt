-- Changes, one after another.
use Rattle.std.proofs.Common.{◌≡◌, ◌≢◌, ℕ, ◌+◌, ◌<◌, ℤ, true, false, List, [], ◌∷◌, ◌++◌, length}
use Rattle.std.proofs.Common.{map, drop, get_or, refl, sym, ap, ◌∙◌, cond}
use Rattle.std.proofs.lemmas.List.{append_assoc, append-nil, at_drop_more}
use Rattle.zk_jute.specs.Layout.{Value}
use Rattle.zk_nodes.specs.Path.{NodePath}
use Rattle.zk_nodes.specs.History.{Change, Creates, Sets, Deletes, Transaction}
use Rattle.zk_history.specs.HistoryView.{HistoryView, last_with, with_one, with_change, with_transaction, made_transaction}
use Rattle.zk_log.specs.Kinds.{part}
use Rattle.zk_log_history.specs.Changes.{with_changes, made_by, made_in, is_owner, part_changes, all_changes}
use Rattle.zk_log_history.specs.Following.{with_whole}

pub with_changes-append : (kept : HistoryView) (xs ys : List Change) → with_changes kept (xs ++ ys) ≡ with_changes (with_changes kept xs) ys
with_changes-append kept [] ys = refl
with_changes-append kept (x ∷ xs) ys = with_changes-append (with_change kept x) xs ys

last_with-end : (ts : List Transaction) (one : Transaction) (c : Change) → last_with (ts ++ one ∷ []) c ≡ ts ++ with_one one c ∷ []
last_with-end [] one c = refl
last_with-end (a ∷ []) one c = refl
last_with-end (a ∷ b ∷ ts) one c = ap (λ us. a ∷ us) (last_with-end (b ∷ ts) one c)

abbrev with_more : Transaction → List Change → Transaction
with_more one changes = made_transaction one.zxid one.time (one.changes ++ changes)

with_whole-changes : (kept : HistoryView) (one : Transaction) (cs : List Change)
    → with_changes (with_whole kept one) cs ≡ with_whole kept (with_more one cs)
with_whole-changes kept one [] = ap (λ cs. with_whole kept (made_transaction one.zxid one.time cs)) (sym (append-nil one.changes))
with_whole-changes kept one (c ∷ cs) =
    ap (λ (ts : List Transaction). with_changes (record { nodes = kept.nodes; transactions = ts }) cs)
    (last_with-end kept.transactions one c)
    ∙ with_whole-changes kept (with_one one c) cs
    ∙ ap (λ xs. with_whole kept (made_transaction one.zxid one.time xs)) (append_assoc one.changes (c ∷ []) cs)

-- a transaction that is begun, and its changes
pub begun-changes : (kept : HistoryView) (zxid : ℕ) (time : ℤ) (cs : List Change)
    → with_changes (with_transaction kept zxid time) cs ≡ with_whole kept (made_transaction zxid time cs)
begun-changes kept zxid time cs = with_whole-changes kept (made_transaction zxid time []) cs

-- ---- what a session made

made_by-append : (s : ℤ) (xs ys : List Change) → made_by s (xs ++ ys) ≡ made_by s xs ++ made_by s ys
made_by-append s [] ys = refl
made_by-append s (Creates p c owner ∷ xs) ys =
    ap (λ ps. cond (is_owner s owner) (p ∷ ps) ps) (made_by-append s xs ys)
    ∙ elim (is_owner s owner) as (λ b. cond b (p ∷ made_by s xs ++ made_by s ys) (made_by s xs ++ made_by s ys)
    ≡ cond b (p ∷ made_by s xs) (made_by s xs) ++ made_by s ys) [ true ↦ refl | false ↦ refl ]
made_by-append s (Sets p c ∷ xs) ys = made_by-append s xs ys
made_by-append s (Deletes p ∷ xs) ys = made_by-append s xs ys

pub made_in-begun : (s : ℤ) (ts : List Transaction) (zxid : ℕ) (time : ℤ)
    → made_in s (ts ++ made_transaction zxid time [] ∷ []) ≡ made_in s ts
made_in-begun s [] zxid time = refl
made_in-begun s (one ∷ ts) zxid time = ap (λ ps. made_by s one.changes ++ ps) (made_in-begun s ts zxid time)

pub made_in-with : (s : ℤ) (ts : List Transaction) (c : Change) → ts ≢ [] → made_in s (last_with ts c) ≡ made_in s ts ++ made_by s (c ∷ [])
made_in-with s [] c some = absurd (some refl)
made_in-with s (one ∷ []) c some =
    append-nil (made_by s (one.changes ++ c ∷ [])) ∙ made_by-append s one.changes (c ∷ [])
    ∙ ap (λ ps. ps ++ made_by s (c ∷ [])) (sym (append-nil (made_by s one.changes)))
made_in-with s (one ∷ two ∷ more) c some =
    ap (λ ps. made_by s one.changes ++ ps) (made_in-with s (two ∷ more) c (λ e. cc))
    ∙ sym (append_assoc (made_by s one.changes) (made_in s (two ∷ more)) (made_by s (c ∷ [])))

pub made_in-deleted : (s : ℤ) (ts : List Transaction) (p : NodePath) → made_in s (last_with ts (Deletes p)) ≡ made_in s ts
made_in-deleted s [] p = refl
made_in-deleted s (one ∷ ts) p = made_in-with s (one ∷ ts) (Deletes p) (λ e. cc) ∙ append-nil (made_in s (one ∷ ts))

-- ---- the parts of a multi

pub parts_more : {X : Type 0} (view : X → Value part) (s : ℤ) (parts : List X) (i : ℕ) (one : X) (kept after whole : HistoryView)
    → i < length parts → one ≡ get_or parts i one → after ≡ with_changes kept (part_changes s (view one))
    → with_changes kept (all_changes s (map view (drop i parts))) ≡ whole
    → with_changes after (all_changes s (map view (drop (i + 1) parts))) ≡ whole
parts_more view s parts i one kept after whole within is then so_far =
    let rest = all_changes s (map view (drop (i + 1) parts)) in
    ap (λ k. with_changes k rest) (then ∙ ap (λ p. with_changes kept (part_changes s (view p))) is)
    ∙ sym (with_changes-append kept (part_changes s (view (get_or parts i one))) rest)
    ∙ sym (at_drop_more (λ left. with_changes kept (all_changes s (map view left))) parts i one within) ∙ so_far
