-- What is read changes what the operation changes: `read_changes`; what is not read stops: `unread_stops`. The session's number fits, so it
-- stays itself.
use Rattle.std.proofs.Common.{◌≡◌, rules, ap, ◌∙◌, ℤ, w64, to_z, of_z}
use Rattle.std.proofs.lemmas.Int.{to_z-of_z}
use Rattle.std.specs.Option.{option_map}
use Rattle.zk_nodes.specs.Path.{path_of}
use Rattle.zk_history.specs.Made.{change_of}
use Rattle.zk_log.specs.Views.{kind_of, body_of, entry_of}
use Rattle.zk_log_history.specs.Changes.{listed, operation_change}
use Rattle.zk_log_history.specs.Refused.{operation_fault}
use Rattle.zk_log_history.specs.inner.Refused.{Unread}
use Rattle.zk_log_history.specs.Known.{changes_told, known_of}
use Rattle.zk_log_history.proofs.Known.{if_ok, on_ok, if_err, read_changes, unread_stops}
use Rattle.zk_log_history.proofs.path_entry.with_operation.Goals as goal

pub returns-in-Ok : goal.returns-in-Ok
returns-in-Ok g c =
    let t = c.args.txn.now in
    let e = c.args.entry.now in
    let n = to_z w64 (of_z w64 e.session) in
    let same : n ≡ e.session = to_z-of_z w64 e.session (search rules) in
    read_changes (path_of c.args.path.now) (entry_of e) (operation_fault (kind_of t) (body_of t)) _
    (listed (operation_change e.session (kind_of t) (body_of t))) (known_of c.args.known) c.with_change.result
    (on_ok _ c.operation_change.result c.in-Ok.change c.in-Ok.is c.operation_change.ensures.read)
    (ap listed (if_ok (λ ch. option_map change_of ch ≡ operation_change n (kind_of t) (body_of t)) c.operation_change.result c.in-Ok.change
    c.in-Ok.is c.operation_change.ensures.change)
    ∙ ap (λ (m : ℤ). listed (operation_change m (kind_of t) (body_of t))) same)
    c.with_change.ensures

pub returns-in-Err : goal.returns-in-Err
returns-in-Err g c =
    let t = c.args.txn.now in
    let e = c.args.entry.now in
    let fault = operation_fault (kind_of t) (body_of t) in
    unread_stops fault (changes_told (path_of c.args.path.now) (entry_of e) (listed (operation_change e.session (kind_of t) (body_of t)))
    (known_of c.args.known)) c.in-Err.why
    (if_err (Unread fault) c.operation_change.result c.in-Err.why c.in-Err.is c.operation_change.ensures.unread)
