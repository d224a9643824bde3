-- What is left of a session that has ended.
use Rattle.std.specs.Prelude.{◌≡◌, Bool, true, false, List, [], ◌∷◌, ◌++◌}
use Rattle.zk_nodes.specs.Path.{NodePath}
use Rattle.zk_history.specs.HistoryView.{newest_tree}
use Rattle.zk_log.specs.declared.kind.TxnKind.{TxnKind}
use Rattle.zk_log.specs.declared.kind.TxnKind.TheVariants.{CloseSession, CloseSessionAlone}
use Rattle.zk_log.specs.Format.{Logged}
use Rattle.zk_log_history.specs.Changes.{is_owned}
use Rattle.zk_log_history.specs.Following.{with_entries, first_kept}

abbrev pub is_end : TxnKind → Bool
is_end CloseSession = true
is_end CloseSessionAlone = true
is_end kind = false

-- Right after the end of a session no node is the session's, whichever nodes the entry tells.
abbrev pub EndsLeaveNone : Type 0
EndsLeaveNone =
    (entries : List Logged) (last : Logged) (path : NodePath) → is_end last.kind ≡ true
    → is_owned last.session (newest_tree (with_entries first_kept (entries ++ last ∷ [])) path) ≡ false
