-- The payload after the length spells the record that was asked, by `record_spelled`: so by what `Request::take` ensures, that one is read,
-- or memory is refused. The number of a call that its caller has spelled is that of no operation, by `raw_unread`.
use Rattle.std.proofs.Common.{◌≡◌, ap, subst, sym, ◌∙◌, [], drop, length, ℕ}
use Rattle.std.proofs.Common.{take as first}
use Rattle.zk_jute.specs.Cursor.{bytes_left, payload_len}
use Rattle.zk_jute.specs.Spelling.{IsBytes}
use Rattle.zk_records.specs.Operations.{request_layout}
use Rattle.zk_records.specs.Asked.{asked_value}
use Rattle.zk_bench.specs.inner.Refusals.{stop_of_request}
use Rattle.zk_bench.proofs.Asked.{behind_four, record_spelled, raw_unread, errs_match, errs_never}
use Rattle.zk_bench.proofs.payloads.next_request.Goals as goal

pub returns-in_err-request-clause-read : goal.returns-in_err-request-clause-read
returns-in_err-request-clause-read g c = λ asked read.
    let payload = first c.args.length (drop 4 c.args.bytes.now) in
    let left : bytes_left c.new.result ≡ payload =
    c.new.ensures.left ∙ ap (λ (n : ℕ). first n (drop 4 c.args.bytes.now)) (behind_four c.args.length) in
    let spelled =
    record_spelled (request_layout asked.operation) (asked_value asked) payload (subst IsBytes left c.new.result.bytes) read in
    let only = c.in_err-request.ensures.only asked [] spelled.0 (left ∙ spelled.1) in
    errs_match c.from_residual.result _ _ _ c.from_residual.ensures.1 (λ stop is. is ∙ ap stop_of_request only)

pub returns-clause-read : goal.returns-clause-read
returns-clause-read g c = λ asked read.
    let payload = first c.args.length (drop 4 c.args.bytes.now) in
    let left : bytes_left c.new.result ≡ payload =
    c.new.ensures.left ∙ ap (λ (n : ℕ). first n (drop 4 c.args.bytes.now)) (behind_four c.args.length) in
    let spelled =
    record_spelled (request_layout asked.operation) (asked_value asked) payload (subst IsBytes left c.new.result.bytes) read in
    (c.in_ok-request.ensures.only asked [] spelled.0 (left ∙ spelled.1)).0

pub returns-clause-fits : goal.returns-clause-fits
returns-clause-fits g c = c.in_ok-request.ensures.found.0.1.1

pub returns-in_err-request-clause-unknown : goal.returns-in_err-request-clause-unknown
returns-in_err-request-clause-unknown g c = λ operation given xid read. errs_never c.from_residual.result _ c.from_residual.ensures.1

pub returns-clause-unknown : goal.returns-clause-unknown
returns-clause-unknown g c = λ operation given xid read.
    let payload = first c.args.length (drop 4 c.args.bytes.now) in
    let left : bytes_left c.new.result ≡ payload =
    c.new.ensures.left ∙ ap (λ (n : ℕ). first n (drop 4 c.args.bytes.now)) (behind_four c.args.length) in
    let long : payload_len c.new.result ≡ length payload =
    c.new.ensures.len ∙ ap (λ (n : ℕ). length (first n (drop 4 c.args.bytes.now))) (behind_four c.args.length) in
    let none = raw_unread operation given xid (payload_len c.new.result) (bytes_left c.new.result) payload long left read in
    let both = sym c.in_ok-request.ensures.exact ∙ none in
    absurd cc
