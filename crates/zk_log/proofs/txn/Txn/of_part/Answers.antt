-- By what is found: a number that is no operation's, a fault of the fields (`fields_fail`), or an operation, if nothing is left
-- (`fields_read`).
use Rattle.std.specs.Int.{w32}
use Rattle.std.proofs.lemmas.Int.{to_z-of_z}
use Rattle.zk_log.specs.Parts.{operation_of}
use Rattle.zk_log.proofs.PartLaws.{fields_fail, fields_read, unknown}
use Rattle.zk_log.proofs.txn.Txn.of_part.Goals as goal

pub returns-in_err-txn-in-Some : goal.returns-in_err-txn-in-Some
returns-in_err-txn-in-Some g c =
    let number = to_z-of_z w32 c.args.number c.ranges.number in
    fields_fail operation_of _ _ _ _ _ c.at.result _ _ _ c.from_residual.ensures.1 number c.at.ensures c.in-Some.is c.new-at.ensures.len
    c.new-at.ensures.left c.in_err-txn-in-Some.ensures.gives

pub returns-in-None : goal.returns-in-None
returns-in-None g c =
    let number = to_z-of_z w32 c.args.number c.ranges.number in
    λ other. unknown _ _ _ c.at.result number c.at.ensures c.in-None.is

pub returns-in_ok-txn-in-Some : goal.returns-in_ok-txn-in-Some
returns-in_ok-txn-in-Some g c =
    let number = to_z-of_z w32 c.args.number c.ranges.number in
    fields_read operation_of _ _ _ _ _ _ _ _ c.at.result _ _ _ _ c.whole_part.result number c.at.ensures c.in-Some.is
    c.in_ok-txn-in-Some.ensures.same c.new-at.ensures.len c.new-at.ensures.left c.in_ok-txn-in-Some.ensures.gives
    c.in_ok-txn-in-Some.ensures.len c.place.ensures c.rest.ensures c.whole_part.ensures.ok c.whole_part.ensures.err
