-- What is read changes what the part changes: `read_changes`; what is not read stops: `unread_stops`. The session's number fits, so it
-- stays itself.
use Rattle.std.proofs.Common.{◌≡◌, rules, ap, ◌∙◌, ℤ, w64, to_z, of_z}
use Rattle.std.proofs.lemmas.Int.{to_z-of_z}
use Rattle.std.specs.Option.{option_map}
use Rattle.zk_nodes.specs.Path.{path_of}
use Rattle.zk_history.specs.Made.{change_of}
use Rattle.zk_log.specs.Views.{part_of, entry_of}
use Rattle.zk_log_history.specs.Changes.{listed, part_changes}
use Rattle.zk_log_history.specs.Refused.{part_fault}
use Rattle.zk_log_history.specs.inner.Refused.{Unread}
use Rattle.zk_log_history.specs.Known.{changes_told, known_of}
use Rattle.zk_log_history.proofs.Known.{if_ok, on_ok, if_err, read_changes, unread_stops}
use Rattle.zk_log_history.proofs.path_entry.with_part.Goals as goal

pub returns-in-Ok : goal.returns-in-Ok
returns-in-Ok g c =
    let p = part_of c.args.part.now in
    let e = c.args.entry.now in
    let n = to_z w64 (of_z w64 e.session) in
    let same : n ≡ e.session = to_z-of_z w64 e.session (search rules) in
    read_changes (path_of c.args.path.now) (entry_of e) (part_fault p) _ (part_changes e.session p) (known_of c.args.known)
    c.with_change.result
    (on_ok _ c.part_change.result c.in-Ok.change c.in-Ok.is c.part_change.ensures.read)
    (if_ok (λ ch. listed (option_map change_of ch) ≡ part_changes n p) c.part_change.result c.in-Ok.change
    c.in-Ok.is c.part_change.ensures.change
    ∙ ap (λ (m : ℤ). part_changes m p) same)
    c.with_change.ensures

pub returns-in-Err : goal.returns-in-Err
returns-in-Err g c =
    let p = part_of c.args.part.now in
    let e = c.args.entry.now in
    unread_stops (part_fault p) (changes_told (path_of c.args.path.now) (entry_of e) (part_changes e.session p) (known_of c.args.known))
    c.in-Err.why (if_err (Unread (part_fault p)) c.part_change.result c.in-Err.why c.in-Err.is c.part_change.ensures.unread)
