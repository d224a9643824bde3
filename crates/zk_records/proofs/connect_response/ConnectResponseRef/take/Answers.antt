-- What is read is the payload's response, lent, by `response_takes`. A payload of a response gives it back (`response_again`), so a call
-- gives the same one (`is_the_one`), or fails for memory alone (`is_memory`).
use Rattle.std.proofs.lemmas.Result.{err_from_is_err_and}
use Rattle.zk_jute.proofs.Taking.{is_memory, is_the_one}
use Rattle.zk_records.specs.inner.ResponseLaws.{response_takes, response_again}
use Rattle.zk_records.proofs.connect_response.ConnectResponseRef.take.Goals as goal

pub returns-in_err-response-clause-only : goal.returns-in_err-response-clause-only
returns-in_err-response-clause-only g c r ignored payload =
    let p = err_from_is_err_and c.from_residual.result c.from_residual.ensures.1 in
    rw (p.1, p.2) (is_memory _ _ _ c.in_err-response.ensures.gives (response_again _ _ r ignored payload))

pub returns-clause-found : goal.returns-clause-found
returns-clause-found g c = response_takes _ _ _ c.args.at.now.bytes c.in_ok-response.ensures.gives

pub returns-clause-only : goal.returns-clause-only
returns-clause-only g c r ignored payload = is_the_one _ _ _ _ _ c.in_ok-response.ensures.gives (response_again _ _ r ignored payload)
