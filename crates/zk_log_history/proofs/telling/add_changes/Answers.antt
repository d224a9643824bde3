-- By the operation: the parts of a multi, the end of a session with paths or without, and what makes one change at most. The session's
-- number fits, so it stays itself.
use Rattle.std.proofs.Common.{◌≡◌, rules, w64, to_z, of_z}
use Rattle.std.proofs.lemmas.Int.{to_z-of_z}
use Rattle.std.proofs.lemmas.Result.{on_ok_weaker, MatchResult-weaker}
use Rattle.zk_log_history.proofs.Entries.{multi_as, closed_as, alone_as, rest_as, session_as}
use Rattle.zk_log_history.proofs.Outcomes.{multi_is, closed_is, alone_is, rest_is, taken_is, refused_is}
use Rattle.zk_log_history.proofs.telling.add_changes.Goals as goal

pub returns-in-Multi-clause-added : goal.returns-in-Multi-clause-added
returns-in-Multi-clause-added g c =
    let n = to_z w64 (of_z w64 c.args.session) in
    let same : n ≡ c.args.session = to_z-of_z w64 c.args.session (search rules) in
    on_ok_weaker c.add_parts.result
    (λ added made. session_as n c.args.session c.args.history.now _ c.args.txn.now same
    (multi_as n c.args.history.now _ c.args.txn.now c.in-Multi.parts c.or_empty.result.now c.in-Multi.is c.or_empty.ensures added))
    c.add_parts.ensures.added

pub returns-in-CloseSession-clause-added : goal.returns-in-CloseSession-clause-added
returns-in-CloseSession-clause-added g c =
    let n = to_z w64 (of_z w64 c.args.session) in
    let same : n ≡ c.args.session = to_z-of_z w64 c.args.session (search rules) in
    on_ok_weaker c.close.result
    (λ closed made. session_as n c.args.session c.args.history.now _ c.args.txn.now same
    (closed_as n c.args.history.now _ c.args.txn.now c.in-CloseSession.paths c.or_empty-in-CloseSession.result.now c.in-CloseSession.is
    c.or_empty-in-CloseSession.ensures (closed made)))
    c.close.ensures.closed

pub returns-in-CloseSessionAlone-clause-added : goal.returns-in-CloseSessionAlone-clause-added
returns-in-CloseSessionAlone-clause-added g c =
    let n = to_z w64 (of_z w64 c.args.session) in
    let same : n ≡ c.args.session = to_z-of_z w64 c.args.session (search rules) in
    on_ok_weaker c.close-in-CloseSessionAlone.result
    (λ closed made. session_as n c.args.session c.args.history.now _ c.args.txn.now same
    (alone_as n c.args.history.now _ c.args.txn.now c.or_empty-in-CloseSessionAlone.result.now c.in-CloseSessionAlone.is
    c.or_empty-in-CloseSessionAlone.ensures (closed made)))
    c.close-in-CloseSessionAlone.ensures.closed

pub returns-in_default-clause-added : goal.returns-in_default-clause-added
returns-in_default-clause-added g c =
    let n = to_z w64 (of_z w64 c.args.session) in
    let same : n ≡ c.args.session = to_z-of_z w64 c.args.session (search rules) in
    on_ok_weaker c.add_operation.result
    (λ added made. session_as n c.args.session c.args.history.now _ c.args.txn.now same
    (rest_as n c.args.history.now _ c.args.txn.now c.in_default.not-Multi c.in_default.not-CloseSession
    c.in_default.not-CloseSessionAlone added))
    c.add_operation.ensures.added

pub returns-in-Multi-clause-taken : goal.returns-in-Multi-clause-taken
returns-in-Multi-clause-taken g c =
    let n = to_z w64 (of_z w64 c.args.session) in
    let same : n ≡ c.args.session = to_z-of_z w64 c.args.session (search rules) in
    let makes = multi_is n c.args.history.now c.args.txn.now c.in-Multi.parts c.or_empty.result.now c.in-Multi.is c.or_empty.ensures in
    on_ok_weaker c.add_parts.result (λ taken made. taken_is n c.args.session c.args.history.now _ _ c.args.txn.now same makes taken)
    c.add_parts.ensures.taken

pub returns-in-Multi-clause-refused : goal.returns-in-Multi-clause-refused
returns-in-Multi-clause-refused g c =
    let n = to_z w64 (of_z w64 c.args.session) in
    let same : n ≡ c.args.session = to_z-of_z w64 c.args.session (search rules) in
    let makes = multi_is n c.args.history.now c.args.txn.now c.in-Multi.parts c.or_empty.result.now c.in-Multi.is c.or_empty.ensures in
    MatchResult-weaker c.add_parts.result c.add_parts.ensures.refused (λ x p. p)
    (λ why refused made. refused_is n c.args.session c.args.history.now _ _ c.args.txn.now why same makes refused)

pub returns-in-CloseSession-clause-taken : goal.returns-in-CloseSession-clause-taken
returns-in-CloseSession-clause-taken g c =
    let n = to_z w64 (of_z w64 c.args.session) in
    let same : n ≡ c.args.session = to_z-of_z w64 c.args.session (search rules) in
    let makes = closed_is n c.args.history.now c.args.txn.now c.in-CloseSession.paths c.or_empty-in-CloseSession.result.now
    c.in-CloseSession.is c.or_empty-in-CloseSession.ensures in
    on_ok_weaker c.close.result (λ taken made. taken_is n c.args.session c.args.history.now _ _ c.args.txn.now same makes (taken made))
    c.close.ensures.taken

pub returns-in-CloseSession-clause-refused : goal.returns-in-CloseSession-clause-refused
returns-in-CloseSession-clause-refused g c =
    let n = to_z w64 (of_z w64 c.args.session) in
    let same : n ≡ c.args.session = to_z-of_z w64 c.args.session (search rules) in
    let makes = closed_is n c.args.history.now c.args.txn.now c.in-CloseSession.paths c.or_empty-in-CloseSession.result.now
    c.in-CloseSession.is c.or_empty-in-CloseSession.ensures in
    MatchResult-weaker c.close.result c.close.ensures.refused (λ x p. p)
    (λ why refused made. refused_is n c.args.session c.args.history.now _ _ c.args.txn.now why same makes (refused made))

pub returns-in-CloseSessionAlone-clause-taken : goal.returns-in-CloseSessionAlone-clause-taken
returns-in-CloseSessionAlone-clause-taken g c =
    let n = to_z w64 (of_z w64 c.args.session) in
    let same : n ≡ c.args.session = to_z-of_z w64 c.args.session (search rules) in
    let makes = alone_is n c.args.history.now c.args.txn.now c.or_empty-in-CloseSessionAlone.result.now
    c.in-CloseSessionAlone.is c.or_empty-in-CloseSessionAlone.ensures in
    on_ok_weaker c.close-in-CloseSessionAlone.result (λ taken made. taken_is n c.args.session c.args.history.now _ _
    c.args.txn.now same makes (taken made))
    c.close-in-CloseSessionAlone.ensures.taken

pub returns-in-CloseSessionAlone-clause-refused : goal.returns-in-CloseSessionAlone-clause-refused
returns-in-CloseSessionAlone-clause-refused g c =
    let n = to_z w64 (of_z w64 c.args.session) in
    let same : n ≡ c.args.session = to_z-of_z w64 c.args.session (search rules) in
    let makes = alone_is n c.args.history.now c.args.txn.now c.or_empty-in-CloseSessionAlone.result.now
    c.in-CloseSessionAlone.is c.or_empty-in-CloseSessionAlone.ensures in
    MatchResult-weaker c.close-in-CloseSessionAlone.result c.close-in-CloseSessionAlone.ensures.refused (λ x p. p)
    (λ why refused made. refused_is n c.args.session c.args.history.now _ _ c.args.txn.now why same makes (refused made))

pub returns-in_default-clause-taken : goal.returns-in_default-clause-taken
returns-in_default-clause-taken g c =
    let n = to_z w64 (of_z w64 c.args.session) in
    let same : n ≡ c.args.session = to_z-of_z w64 c.args.session (search rules) in
    let makes = rest_is n c.args.history.now c.args.txn.now c.in_default.not-Multi c.in_default.not-CloseSession
    c.in_default.not-CloseSessionAlone in
    on_ok_weaker c.add_operation.result (λ taken made. taken_is n c.args.session c.args.history.now _ _ c.args.txn.now same makes taken)
    c.add_operation.ensures.taken

pub returns-in_default-clause-refused : goal.returns-in_default-clause-refused
returns-in_default-clause-refused g c =
    let n = to_z w64 (of_z w64 c.args.session) in
    let same : n ≡ c.args.session = to_z-of_z w64 c.args.session (search rules) in
    let makes = rest_is n c.args.history.now c.args.txn.now c.in_default.not-Multi c.in_default.not-CloseSession
    c.in_default.not-CloseSessionAlone in
    MatchResult-weaker c.add_operation.result c.add_operation.ensures.refused (λ x p. p)
    (λ why refused made. refused_is n c.args.session c.args.history.now _ _ c.args.txn.now why same makes refused)
