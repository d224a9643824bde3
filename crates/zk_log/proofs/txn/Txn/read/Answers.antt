-- By the operation: a fault in reading its fields is the fault of the whole, by `handed_on`.
use Rattle.zk_log.proofs.FieldFaults.{handed_on}
use Rattle.zk_log.proofs.txn.Txn.read.Goals as goal

pub returns-in_err-read-in-Create-clause-gives : goal.returns-in_err-read-in-Create-clause-gives
returns-in_err-read-in-Create-clause-gives g c =
    handed_on _ _ _ _ _ _ _ c.in-Create.is c.from_residual.ensures.1 c.in_err-read-in-Create.ensures.gives

pub returns-in_err-read-in-Create2-clause-gives : goal.returns-in_err-read-in-Create2-clause-gives
returns-in_err-read-in-Create2-clause-gives g c =
    handed_on _ _ _ _ _ _ _ c.in-Create2.is c.from_residual-in_err-read-in-Create2.ensures.1 c.in_err-read-in-Create2.ensures.gives

pub returns-in_err-read-in-CreateContainer-clause-gives : goal.returns-in_err-read-in-CreateContainer-clause-gives
returns-in_err-read-in-CreateContainer-clause-gives g c =
    handed_on _ _ _ _ _ _ _ c.in-CreateContainer.is c.from_residual-in_err-read-in-CreateContainer.ensures.1
    c.in_err-read-in-CreateContainer.ensures.gives

pub returns-in_err-read-in-CreateTtl-clause-gives : goal.returns-in_err-read-in-CreateTtl-clause-gives
returns-in_err-read-in-CreateTtl-clause-gives g c =
    handed_on _ _ _ _ _ _ _ c.in-CreateTtl.is c.from_residual-in_err-read-in-CreateTtl.ensures.1 c.in_err-read-in-CreateTtl.ensures.gives

pub returns-in_err-read-in-Delete-clause-gives : goal.returns-in_err-read-in-Delete-clause-gives
returns-in_err-read-in-Delete-clause-gives g c =
    handed_on _ _ _ _ _ _ _ c.in-Delete.is c.from_residual-in_err-read-in-Delete.ensures.1 c.in_err-read-in-Delete.ensures.gives

pub returns-in_err-read-in-DeleteContainer-clause-gives : goal.returns-in_err-read-in-DeleteContainer-clause-gives
returns-in_err-read-in-DeleteContainer-clause-gives g c =
    handed_on _ _ _ _ _ _ _ c.in-DeleteContainer.is c.from_residual-in_err-read-in-DeleteContainer.ensures.1
    c.in_err-read-in-DeleteContainer.ensures.gives

pub returns-in_err-read-in-Set-clause-gives : goal.returns-in_err-read-in-Set-clause-gives
returns-in_err-read-in-Set-clause-gives g c =
    handed_on _ _ _ _ _ _ _ c.in-Set.is c.from_residual-in_err-read-in-Set.ensures.1 c.in_err-read-in-Set.ensures.gives

pub returns-in_err-read-in-Reconfig-clause-gives : goal.returns-in_err-read-in-Reconfig-clause-gives
returns-in_err-read-in-Reconfig-clause-gives g c =
    handed_on _ _ _ _ _ _ _ c.in-Reconfig.is c.from_residual-in_err-read-in-Reconfig.ensures.1 c.in_err-read-in-Reconfig.ensures.gives
