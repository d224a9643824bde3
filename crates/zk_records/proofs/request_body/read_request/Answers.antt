-- By what is found: a fault of the header (`header_fails`), a number that is no operation's (`is_unknown`), a fault of the record
-- (`body_fails`), or both read (`is_read`). The header's numbers fit 32 bits, so they stay themselves.
use Rattle.std.proofs.Common.{sym}
use Rattle.std.specs.Int.{w32}
use Rattle.std.proofs.lemmas.Int.{to_z-of_z}
use Rattle.std.proofs.lemmas.Result.{err_from_is_err_and}
use Rattle.zk_records.proofs.Asking.{is_read, is_unknown, header_fails, body_fails, header_fits}
use Rattle.zk_records.proofs.request_body.read_request.Goals as goal

pub returns-in_err-header-clause-gives : goal.returns-in_err-header-clause-gives
returns-in_err-header-clause-gives g c =
    let p = err_from_is_err_and c.from_residual.result c.from_residual.ensures.1 in
    rw (p.1, p.2) (header_fails _ _ _ c.in_err-header.ensures.gives)

pub returns-in_err-request-in-Some-clause-gives : goal.returns-in_err-request-in-Some-clause-gives
returns-in_err-request-in-Some-clause-gives g c =
    let p = err_from_is_err_and c.from_residual-in_err-request-in-Some.result c.from_residual-in_err-request-in-Some.ensures.1 in
    let fits = header_fits _ _ _ c.args.at.now.bytes c.in_ok-header.ensures.gives in
    let known = rw (to_z-of_z w32 c.in_ok-header.header.operation fits.1) at c.in-Some.ensures.found in
    let fails = rw c.in_ok-header.ensures.len at c.in_err-request-in-Some.ensures.gives in
    rw (p.1, p.2) (body_fails _ _ _ _ _ _ c.in_ok-header.ensures.gives (sym known) fails)

pub returns-in-None-clause-gives : goal.returns-in-None-clause-gives
returns-in-None-clause-gives g c other =
    let fits = header_fits _ _ _ c.args.at.now.bytes c.in_ok-header.ensures.gives in
    let number = to_z-of_z w32 c.in_ok-header.header.operation fits.1 in
    let unknown = rw number at c.in-None.ensures.found in
    rw number (is_unknown _ _ _ _ c.in_ok-header.ensures.gives (sym unknown))

pub returns-in_ok-request-in-Some-clause-gives : goal.returns-in_ok-request-in-Some-clause-gives
returns-in_ok-request-in-Some-clause-gives g c =
    let fits = header_fits _ _ _ c.args.at.now.bytes c.in_ok-header.ensures.gives in
    let found = rw (to_z-of_z w32 c.in_ok-header.header.operation fits.1) at c.in-Some.ensures.found in
    let known = rw (sym c.in_ok-request-in-Some.ensures.same) at found in
    let behind = rw c.in_ok-header.ensures.len at c.in_ok-request-in-Some.ensures.gives in
    rw (to_z-of_z w32 _ fits.0) (is_read _ _ _ _ _ _ _ c.in_ok-header.ensures.gives (sym known) behind)
