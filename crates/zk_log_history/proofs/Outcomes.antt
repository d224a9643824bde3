-- What comes of entries, by their operations.
use Rattle.std.proofs.Common.{◌≡◌, ℕ, ℤ, true, List, [], map, Option, None, refl, sym, ap, ◌∙◌, subst}
use Rattle.std.proofs.lemmas.List.{map-id}
use Rattle.std.specs.Option.{option_map}
use Rattle.zk_jute.specs.Lenient.{or_empty}
use Rattle.zk_jute.specs.declared.then.Then.{Then}
use Rattle.zk_jute.specs.declared.list.List.{List as Listed}
use Rattle.zk_nodes.specs.History.{Change, newest}
use Rattle.zk_history.specs.HistoryView.{HistoryView, natural, with_transaction}
use Rattle.zk_log.specs.declared.entry.LogEntry.{LogEntry}
use Rattle.zk_log.specs.declared.txn.Txn.{Txn}
use Rattle.zk_log.specs.declared.txn.Txn.TheVariants as txn
use Rattle.zk_log.specs.Views.{kind_of, body_of, part_of, entry_of}
use Rattle.zk_log_history.specs.Changes.{listed, operation_change, parts_changes, close_changes}
use Rattle.zk_log_history.specs.Following.{comes_next, entry_changes}
use Rattle.zk_log_history.specs.Refused.{AreTaken, IsLater, IsTold, IsUntold, entry_fault, first_fault, operation_fault}
use Rattle.zk_log_history.specs.inner.Refused.{BeginUntold, Refuses}
use Rattle.zk_log_history.specs.Refused.{parts_fault, path_fault}
use Rattle.zk_log_history.specs.declared.untold.Untold.{Untold}
use Rattle.zk_log_history.specs.declared.untold.Untold.TheVariants as untold
use Rattle.zk_log_history.proofs.Entries.{listed_as}

-- an entry has this first fault and these changes
abbrev pub Makes : {A : Type 0} → ℤ → HistoryView → Option Untold → List Change → Txn A → Type 0
Makes s kept fault changes t =
    (fault ≡ entry_fault (kind_of t) (body_of t)) × (changes ≡ entry_changes s kept (kind_of t) (body_of t))

pub multi_is : {A : Type 0} (s : ℤ) (kept : HistoryView) (one : Txn A) (parts : Listed (Then ℤ (Option (List ℕ))) A)
    (items : List (Then ℤ (Option (List ℕ)))) → one ≡ txn.Multi parts → items ≡ or_empty (option_map (λ v. v.items) parts.elements)
    → Makes s kept (parts_fault (map part_of items)) (parts_changes s (map part_of items)) one
multi_is s kept one parts items is all =
    let same = ap (map part_of) all ∙ listed_as (λ v. v.items) part_of parts.elements in
    subst (λ t. Makes s kept (parts_fault (map part_of items)) (parts_changes s (map part_of items)) t) (sym is)
    (ap parts_fault same, ap (parts_changes s) same)

pub closed_is : {A : Type 0} (s : ℤ) (kept : HistoryView) (one : Txn A) (paths : Listed (Option (List ℕ)) A)
    (items : List (Option (List ℕ))) → one ≡ txn.CloseSession paths → items ≡ or_empty (option_map (λ v. v.items) paths.elements)
    → Makes s kept (first_fault path_fault items) (close_changes s items kept) one
closed_is s kept one paths items is all =
    let same = all ∙ sym (map-id _) ∙ listed_as (λ v. v.items) (λ t. t) paths.elements in
    subst (λ t. Makes s kept (first_fault path_fault items) (close_changes s items kept) t) (sym is)
    (ap (first_fault path_fault) same, ap (λ ps. close_changes s ps kept) same)

pub alone_is : {A : Type 0} (s : ℤ) (kept : HistoryView) (one : Txn A) (items : List (Option (List ℕ)))
    → one ≡ txn.CloseSessionAlone → items ≡ [] → Makes s kept (first_fault path_fault items) (close_changes s items kept) one
alone_is s kept one items is none =
    subst (λ t. Makes s kept (first_fault path_fault items) (close_changes s items kept) t) (sym is)
    (ap (first_fault path_fault) none, ap (λ ps. close_changes s ps kept) none)

pub rest_is : {A : Type 0} (s : ℤ) (kept : HistoryView) (one : Txn A)
    → ((parts : Listed (Then ℤ (Option (List ℕ))) A) → one ≡ txn.Multi parts → ⊥)
    → ((paths : Listed (Option (List ℕ)) A) → one ≡ txn.CloseSession paths → ⊥) → (one ≡ txn.CloseSessionAlone → ⊥)
    → Makes s kept (operation_fault (kind_of one) (body_of one)) (listed (operation_change s (kind_of one) (body_of one))) one
rest_is s kept (txn.Multi parts) multi close alone = absurd (multi parts refl)
rest_is s kept (txn.CloseSession paths) multi close alone = absurd (close paths refl)
rest_is s kept txn.CloseSessionAlone multi close alone = absurd (alone refl)
rest_is s kept _ multi close alone = (refl, refl)

pub taken_is : {A : Type 0} (n s : ℤ) (kept : HistoryView) (fault : Option Untold) (changes : List Change) (one : Txn A) → n ≡ s
    → Makes n kept fault changes one → (fault ≡ None) × AreTaken kept changes
    → (entry_fault (kind_of one) (body_of one) ≡ None) × AreTaken kept (entry_changes s kept (kind_of one) (body_of one))
taken_is n s kept fault changes one same (is, makes) (none, taken) = (
  sym is ∙ none,
  subst (λ (m : ℤ). AreTaken kept (entry_changes m kept (kind_of one) (body_of one))) same (subst (AreTaken kept) makes taken),
)

pub refused_is : {A : Type 0} (n s : ℤ) (kept : HistoryView) (fault : Option Untold) (changes : List Change) (one : Txn A) (why : Untold)
    → n ≡ s → Makes n kept fault changes one → Refuses fault kept changes why
    → Refuses (entry_fault (kind_of one) (body_of one)) kept (entry_changes s kept (kind_of one) (body_of one)) why
refused_is n s kept fault changes one why same (is, makes) refused =
    subst (λ (m : ℤ). Refuses (entry_fault (kind_of one) (body_of one)) kept (entry_changes m kept (kind_of one) (body_of one)) why) same
    (subst (λ cs. Refuses (entry_fault (kind_of one) (body_of one)) kept cs why) makes
    (subst (λ f. Refuses f kept changes why) is refused))

-- ---- entries

first_begun : {A : Type 0} (kept begun : HistoryView) (entry : LogEntry A) (zxid time : ℤ) → zxid ≡ entry.zxid → time ≡ entry.time
    → begun ≡ with_transaction kept (natural zxid) time → begun ≡ with_transaction kept (natural entry.zxid) entry.time
first_begun kept begun entry zxid time z t then =
    then ∙ ap (λ (n : ℤ). with_transaction kept (natural n) time) z ∙ ap (with_transaction kept (natural entry.zxid)) t

pub followed_taken : {A : Type 0} (kept begun : HistoryView) (entry : LogEntry A) (zxid time session : ℤ)
    → zxid ≡ entry.zxid → time ≡ entry.time → session ≡ entry.session
    → begun ≡ with_transaction kept (natural zxid) time → IsLater kept zxid
    → comes_next (newest 0 kept.transactions) (natural zxid) ≡ true
    → (entry_fault (kind_of entry.txn) (body_of entry.txn) ≡ None)
    × AreTaken begun (entry_changes session begun (kind_of entry.txn) (body_of entry.txn))
    → IsTold kept (entry_of entry)
followed_taken kept begun entry zxid time session z t s then rising next (none, taken) = (
  subst (λ (n : ℤ). IsLater kept n) z rising,
  subst (λ (n : ℤ). comes_next (newest 0 kept.transactions) (natural n) ≡ true) z next,
  none,
  subst (λ k. AreTaken k (entry_changes entry.session k (kind_of entry.txn) (body_of entry.txn)))
      (first_begun kept begun entry zxid time z t then)
      (subst (λ (n : ℤ). AreTaken begun (entry_changes n begun (kind_of entry.txn) (body_of entry.txn))) s taken),
)

pub followed_refused : {A : Type 0} (kept begun : HistoryView) (entry : LogEntry A) (zxid time session : ℤ) (why : Untold)
    → zxid ≡ entry.zxid → time ≡ entry.time → session ≡ entry.session
    → begun ≡ with_transaction kept (natural zxid) time
    → Refuses (entry_fault (kind_of entry.txn) (body_of entry.txn)) begun
    (entry_changes session begun (kind_of entry.txn) (body_of entry.txn)) why
    → IsUntold kept (entry_of entry) why
followed_refused kept begun entry zxid time session (untold.Path x) z t s then r = r
followed_refused kept begun entry zxid time session (untold.Part x) z t s then r = r
followed_refused kept begun entry zxid time session untold.Order z t s then r = absurd r
followed_refused kept begun entry zxid time session untold.Missing z t s then r = absurd r
followed_refused kept begun entry zxid time session untold.Illegal z t s then r = λ taken. r
    (subst (λ (n : ℤ). AreTaken begun (entry_changes n begun (kind_of entry.txn) (body_of entry.txn))) (sym s)
    (subst (λ k. AreTaken k (entry_changes entry.session k (kind_of entry.txn) (body_of entry.txn)))
    (sym (first_begun kept begun entry zxid time z t then)) taken))
followed_refused kept begun entry zxid time session untold.Memory z t s then r = r

pub begin_refused : {A : Type 0} (kept : HistoryView) (entry : LogEntry A) (zxid : ℤ) (why : Untold) → zxid ≡ entry.zxid
    → BeginUntold kept zxid why → IsUntold kept (entry_of entry) why
begin_refused kept entry zxid (untold.Path x) z r = absurd r
begin_refused kept entry zxid (untold.Part x) z r = absurd r
begin_refused kept entry zxid untold.Order z r = subst (λ (n : ℤ). BeginUntold kept n untold.Order) z r
begin_refused kept entry zxid untold.Missing z r = subst (λ (n : ℤ). BeginUntold kept n untold.Missing) z r
begin_refused kept entry zxid untold.Illegal z r = absurd r
begin_refused kept entry zxid untold.Memory z r = r
