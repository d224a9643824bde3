-- What is read is spelled so, by `request_takes`. A request that is spelled is read (`request_again`), so a call gives the same one
-- (`is_the_one`), or fails for memory alone (`is_memory`).
use Rattle.std.proofs.lemmas.Result.{err_from_is_err_and}
use Rattle.zk_records.proofs.Asking.{is_memory, is_the_one, request_takes, request_again}
use Rattle.zk_records.proofs.request.Request.take.Goals as goal

pub returns-in_err-request-clause-only : goal.returns-in_err-request-clause-only
returns-in_err-request-clause-only g c asked rest fits e =
    let p = err_from_is_err_and c.from_residual.result c.from_residual.ensures.1 in
    rw (p.1, p.2) (is_memory _ _ _ c.in_err-request.ensures.gives (request_again _ _ asked rest fits e))

pub returns-clause-found : goal.returns-clause-found
returns-clause-found g c = request_takes _ _ _ c.args.at.now.bytes c.in_ok-request.ensures.gives

pub returns-clause-only : goal.returns-clause-only
returns-clause-only g c asked rest fits e = is_the_one _ _ _ _ _ c.in_ok-request.ensures.gives (request_again _ _ asked rest fits e)
