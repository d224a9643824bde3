-- A session that has ended has no node.
use Rattle.std.proofs.Common.{◌≡◌, ◌≢◌, ℤ, pos, Bool, true, false, ◌&&◌, not, List, [], ◌∷◌, ◌++◌, map, Option, Some, None}
use Rattle.std.proofs.Common.{is_some, refl, sym, ap, ◌∙◌, cond}
use Rattle.std.proofs.lemmas.Bool.{false≢true}
use Rattle.std.proofs.lemmas.Bool.Decides.{Decides-int_eq}
use Rattle.std.specs.Ordering.{int_eq}
use Rattle.std.specs.Prelude.{codes}
use Rattle.zk_jute.specs.Layout.{Value}
use Rattle.zk_jute.specs.Lenient.{or_empty}
use Rattle.zk_nodes.specs.Path.{Text, NodePath, path_of, path_eq}
use Rattle.zk_nodes.specs.History.{Change, Transaction, made}
use Rattle.zk_history.specs.HistoryView.{HistoryView, natural, newest_tree, first_tree, root_tree, made_transaction}
use Rattle.zk_history.specs.HistoryView.{first_node}
use Rattle.zk_log.specs.declared.kind.TxnKind.{TxnKind}
use Rattle.zk_log.specs.declared.kind.TxnKind.TheVariants.{CloseSession, CloseSessionAlone}
use Rattle.zk_log.specs.Kinds.{fields}
use Rattle.zk_log.specs.Format.{Logged}
use Rattle.zk_log_history.specs.Changes.{named, is_owner, is_owned, made_in, with_changes, deletions, close_changes}
use Rattle.zk_log_history.specs.Following.{entry_changes, begun, transaction_of, with_whole, with_entries, first_kept}
use Rattle.zk_log_history.specs.Ended.{is_end, EndsLeaveNone}
use Rattle.zk_log_history.proofs.Changing.{with_changes-append, begun-changes}
use Rattle.zk_log_history.proofs.Owned.{has, owned-after, root-after, some-changes, nodes-changes, owned-deletions, owned-none}
use Rattle.zk_log_history.proofs.Sessions.{differs, and_false}

-- after the end of a session none of its nodes is left, if it had none before the first transaction
left : (s : ℤ) (kept : HistoryView) (told : List Change) (p : NodePath) → kept.transactions ≢ []
    → is_owned s (first_tree kept p) ≡ false → is_owned s (newest_tree (with_changes (with_changes kept told)
    (deletions (is_owned s) (with_changes kept told) (made_in s (with_changes kept told).transactions))) p) ≡ false
left s kept told [] some none =
    let now = with_changes kept told in
    owned-deletions s (is_owned s) now (made_in s now.transactions) []
    (root-after s now.transactions (first_tree now)
    (ap (λ (ts : List Transaction). is_owned s (first_tree (record { nodes = ts; transactions = [] }) [])) (nodes-changes kept told)
    ∙ none))
left s kept told (name ∷ path) some none = go (has (name ∷ path) (made_in s now.transactions)) refl where
  now : HistoryView
  now = with_changes kept told

  go : (b : Bool) → has (name ∷ path) (made_in s now.transactions) ≡ b
      → is_owned s (newest_tree (with_changes now (deletions (is_owned s) now (made_in s now.transactions))) (name ∷ path)) ≡ false
  go true e = owned-none s now (made_in s now.transactions) name path (some-changes kept told some) e
  go false e =
      owned-deletions s (is_owned s) now (made_in s now.transactions) (name ∷ path)
      (owned-after s now.transactions (first_tree now) (name ∷ path)
      (ap (λ (ts : List Transaction). is_owned s (first_tree (record { nodes = ts; transactions = [] }) (name ∷ path)))
      (nodes-changes kept told) ∙ none) e)

pub closed_left : (s : ℤ) (kept : HistoryView) (paths : List (Option Text)) (p : NodePath) → kept.transactions ≢ []
    → is_owned s (first_tree kept p) ≡ false → is_owned s (newest_tree (with_changes kept (close_changes s paths kept)) p) ≡ false
closed_left s kept paths p some none =
    let told = deletions is_some kept (map named paths) in
    let now = with_changes kept told in
    ap (λ (k : HistoryView). is_owned s (newest_tree k p))
    (with_changes-append kept told (deletions (is_owned s) now (made_in s now.transactions)))
    ∙ left s kept told p some none

-- ---- entries

entry_closes : (s : ℤ) (kept : HistoryView) (kind : TxnKind) (body : Value (fields kind)) → is_end kind ≡ true
    → (paths : List (Option Text)) × (entry_changes s kept kind body ≡ close_changes s paths kept)
entry_closes s kept CloseSession body e = (or_empty body, refl)
entry_closes s kept CloseSessionAlone body e = ([], refl)
entry_closes s kept _ body e = cc

with_entries-end : (kept : HistoryView) (entries : List Logged) (last : Logged)
    → with_entries kept (entries ++ last ∷ []) ≡ with_whole (with_entries kept entries) (transaction_of (with_entries kept entries) last)
with_entries-end kept [] last = refl
with_entries-end kept (one ∷ entries) last = with_entries-end (with_whole kept (transaction_of kept one)) entries last

nodes-entries : (kept : HistoryView) (entries : List Logged) → (with_entries kept entries).nodes ≡ kept.nodes
nodes-entries kept [] = refl
nodes-entries kept (one ∷ entries) = nodes-entries (with_whole kept (transaction_of kept one)) entries

pub some_end : (ts : List Transaction) (one : Transaction) → ts ++ one ∷ [] ≢ []
some_end [] one = λ e. cc
some_end (two ∷ ts) one = λ e. cc

-- nobody has a session
nobody : (s : ℤ) → is_owner s (pos 0) ≡ false
nobody s = go (int_eq s (pos 0)) refl where
  go : (b : Bool) → int_eq s (pos 0) ≡ b → is_owner s (pos 0) ≡ false
  go true e = ap (λ b. not b && int_eq (pos 0) s) e
  go false e =
      let apart : int_eq (pos 0) s ≡ false =
      differs (pos 0) s (λ same. false≢true (sym e ∙ (Decides-int_eq s (pos 0)).1 (sym same))) in
      ap (λ b. not (int_eq s (pos 0)) && b) apart ∙ and_false (not (int_eq s (pos 0)))

-- the first nodes are nobody's
root_owner : (s : ℤ) (p : NodePath) → is_owned s (root_tree p) ≡ false
root_owner s p = go (path_eq p []) where
  go : (b : Bool) → is_owned s (cond b (Some (made 0 (pos 0) (Some []) (pos 0))) None) ≡ false
  go true = nobody s
  go false = refl

none_made : (s : ℤ) (paths : List NodePath) → made_in s (map (λ path. first_node path (Some []) (pos 0)) paths) ≡ []
none_made s [] = refl
none_made s (path ∷ paths) =
    ap (λ b. cond b (path ∷ []) [] ++ made_in s (map (λ q. first_node q (Some []) (pos 0)) paths)) (nobody s) ∙ none_made s paths

first_made : (s : ℤ) (p : NodePath) → has p (made_in s first_kept.nodes) ≡ false
first_made s p =
    ap (has p) (none_made s (path_of (codes "/zookeeper") ∷ path_of (codes "/zookeeper/quota") ∷ path_of (codes "/zookeeper/config") ∷ []))

first_owner : (s : ℤ) (p : NodePath) → is_owned s (first_tree first_kept p) ≡ false
first_owner s p = owned-after s first_kept.nodes root_tree p (root_owner s p) (first_made s p)

pub ends_leave_none : EndsLeaveNone
ends_leave_none entries last p ends =
    let kept = with_entries first_kept entries in
    let s = last.session in
    let start = begun kept last in
    let closes = entry_closes s start last.kind last.body ends in
    let whole : with_entries first_kept (entries ++ last ∷ []) ≡ with_changes start (close_changes s closes.0 start) =
    with_entries-end first_kept entries last
    ∙ sym (begun-changes kept (natural last.zxid) last.time (entry_changes s start last.kind last.body))
    ∙ ap (with_changes start) closes.1 in
    let none : is_owned s (first_tree start p) ≡ false =
    ap (λ (ts : List Transaction). is_owned s (first_tree (record { nodes = ts; transactions = [] }) p)) (nodes-entries first_kept entries)
    ∙ first_owner s p in
    ap (λ (k : HistoryView). is_owned s (newest_tree k p)) whole
    ∙ closed_left s start closes.0 p (some_end kept.transactions (made_transaction (natural last.zxid) last.time [])) none
