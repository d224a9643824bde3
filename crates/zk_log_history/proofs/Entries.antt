-- What entries change, by their operations.
use Rattle.std.proofs.Common.{◌≡◌, ℕ, ◌+◌, ◌<◌, ℤ, List, [], map, length, drop, get_or, Option, Some, None, refl, sym, ap, ◌∙◌}
use Rattle.std.proofs.lemmas.List.{map-id, at_drop_more}
use Rattle.std.specs.Option.{option_map}
use Rattle.zk_jute.specs.Lenient.{or_empty}
use Rattle.zk_jute.specs.declared.then.Then.{Then}
use Rattle.zk_jute.specs.declared.list.List.{List as Listed}
use Rattle.zk_history.specs.HistoryView.{HistoryView, natural, with_transaction}
use Rattle.zk_log.specs.declared.entry.LogEntry.{LogEntry}
use Rattle.zk_log.specs.declared.txn.Txn.{Txn}
use Rattle.zk_log.specs.declared.txn.Txn.TheVariants as txn
use Rattle.zk_log.specs.Views.{kind_of, body_of, part_of, entry_of}
use Rattle.zk_log_history.specs.Changes.{with_changes, listed, operation_change, parts_changes, close_changes}
use Rattle.zk_log_history.specs.Following.{entry_changes, with_whole, transaction_of, with_entries}
use Rattle.zk_log.specs.Format.{Logged}
use Rattle.zk_log_history.proofs.Changing.{begun-changes}

-- a list that is there or not, seen element by element
pub listed_as : {V X Y : Type 0} (items : V → List X) (view : X → Y) (some : Option V)
    → map view (or_empty (option_map items some)) ≡ or_empty (option_map (λ v. map view (items v)) some)
listed_as items view None = refl
listed_as items view (Some v) = refl

abbrev changed : {A : Type 0} → ℤ → HistoryView → Txn A → HistoryView
changed s kept t = with_changes kept (entry_changes s kept (kind_of t) (body_of t))

pub multi_as : {A : Type 0} (s : ℤ) (kept after : HistoryView) (one : Txn A) (parts : Listed (Then ℤ (Option (List ℕ))) A)
    (items : List (Then ℤ (Option (List ℕ)))) → one ≡ txn.Multi parts → items ≡ or_empty (option_map (λ v. v.items) parts.elements)
    → after ≡ with_changes kept (parts_changes s (map part_of items))
    → after ≡ with_changes kept (entry_changes s kept (kind_of one) (body_of one))
multi_as s kept after one parts items is all added =
    added ∙ ap (λ ps. with_changes kept (parts_changes s ps)) (ap (map part_of) all ∙ listed_as (λ v. v.items) part_of parts.elements)
    ∙ ap (changed s kept) (sym is)

pub closed_as : {A : Type 0} (s : ℤ) (kept after : HistoryView) (one : Txn A) (paths : Listed (Option (List ℕ)) A)
    (items : List (Option (List ℕ))) → one ≡ txn.CloseSession paths → items ≡ or_empty (option_map (λ v. v.items) paths.elements)
    → after ≡ with_changes kept (close_changes s items kept)
    → after ≡ with_changes kept (entry_changes s kept (kind_of one) (body_of one))
closed_as s kept after one paths items is all closed =
    closed
    ∙ ap (λ ps. with_changes kept (close_changes s ps kept))
    (all ∙ sym (map-id _) ∙ listed_as (λ v. v.items) (λ t. t) paths.elements)
    ∙ ap (changed s kept) (sym is)

pub alone_as : {A : Type 0} (s : ℤ) (kept after : HistoryView) (one : Txn A) (items : List (Option (List ℕ)))
    → one ≡ txn.CloseSessionAlone → items ≡ [] → after ≡ with_changes kept (close_changes s items kept)
    → after ≡ with_changes kept (entry_changes s kept (kind_of one) (body_of one))
alone_as s kept after one items is none closed =
    closed ∙ ap (λ ps. with_changes kept (close_changes s ps kept)) none ∙ ap (changed s kept) (sym is)

pub rest_as : {A : Type 0} (s : ℤ) (kept after : HistoryView) (one : Txn A)
    → ((parts : Listed (Then ℤ (Option (List ℕ))) A) → one ≡ txn.Multi parts → ⊥)
    → ((paths : Listed (Option (List ℕ)) A) → one ≡ txn.CloseSession paths → ⊥) → (one ≡ txn.CloseSessionAlone → ⊥)
    → after ≡ with_changes kept (listed (operation_change s (kind_of one) (body_of one)))
    → after ≡ with_changes kept (entry_changes s kept (kind_of one) (body_of one))
rest_as s kept after (txn.Multi parts) multi close alone added = absurd (multi parts refl)
rest_as s kept after (txn.CloseSession paths) multi close alone added = absurd (close paths refl)
rest_as s kept after txn.CloseSessionAlone multi close alone added = absurd (alone refl)
rest_as s kept after _ multi close alone added = added

-- the changes are those of the session under its other name
pub session_as : {A : Type 0} (n s : ℤ) (kept after : HistoryView) (one : Txn A) → n ≡ s
    → after ≡ with_changes kept (entry_changes n kept (kind_of one) (body_of one))
    → after ≡ with_changes kept (entry_changes s kept (kind_of one) (body_of one))
session_as n s kept after one same added =
    added ∙ ap (λ (m : ℤ). with_changes kept (entry_changes m kept (kind_of one) (body_of one))) same

-- an entry is a transaction of its changes
pub followed_as : {A : Type 0} (kept begun after : HistoryView) (entry : LogEntry A) (zxid time session : ℤ)
    → zxid ≡ entry.zxid → time ≡ entry.time → session ≡ entry.session
    → begun ≡ with_transaction kept (natural zxid) time
    → after ≡ with_changes begun (entry_changes session begun (kind_of entry.txn) (body_of entry.txn))
    → after ≡ with_whole kept (transaction_of kept (entry_of entry))
followed_as kept begun after entry zxid time session z t s then added =
    let first : begun ≡ with_transaction kept (natural entry.zxid) entry.time =
    then ∙ ap (λ (n : ℤ). with_transaction kept (natural n) time) z ∙ ap (with_transaction kept (natural entry.zxid)) t in
    added ∙ ap (λ (n : ℤ). with_changes begun (entry_changes n begun (kind_of entry.txn) (body_of entry.txn))) s
    ∙ ap (λ (k : HistoryView). with_changes k (entry_changes entry.session k (kind_of entry.txn) (body_of entry.txn))) first
    ∙ begun-changes kept (natural entry.zxid) entry.time
    (entry_changes entry.session (with_transaction kept (natural entry.zxid) entry.time) (kind_of entry.txn) (body_of entry.txn))

-- one entry more is followed
pub entries_more : {X : Type 0} (view : X → Logged) (entries : List X) (i : ℕ) (one : X) (kept after whole : HistoryView)
    → i < length entries → one ≡ get_or entries i one → after ≡ with_whole kept (transaction_of kept (view one))
    → with_entries kept (map view (drop i entries)) ≡ whole → with_entries after (map view (drop (i + 1) entries)) ≡ whole
entries_more view entries i one kept after whole within is then so_far =
    ap (λ k. with_entries k (map view (drop (i + 1) entries))) (then ∙ ap (λ e. with_whole kept (transaction_of kept (view e))) is)
    ∙ sym (at_drop_more (λ left. with_entries kept (map view left)) entries i one within) ∙ so_far
