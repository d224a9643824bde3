-- As of `read`.
use Rattle.zk_log.proofs.FieldFaults.{handed_on}
use Rattle.zk_log.proofs.txn.Txn.read_other.Goals as goal

pub returns-in_err-read-in-SetAcl-clause-gives : goal.returns-in_err-read-in-SetAcl-clause-gives
returns-in_err-read-in-SetAcl-clause-gives g c =
    handed_on _ _ _ _ _ _ _ c.in-SetAcl.is c.from_residual.ensures.1 c.in_err-read-in-SetAcl.ensures.gives

pub returns-in_err-read-in-Check-clause-gives : goal.returns-in_err-read-in-Check-clause-gives
returns-in_err-read-in-Check-clause-gives g c =
    handed_on _ _ _ _ _ _ _ c.in-Check.is c.from_residual-in_err-read-in-Check.ensures.1 c.in_err-read-in-Check.ensures.gives

pub returns-in_err-read-in-Multi-clause-gives : goal.returns-in_err-read-in-Multi-clause-gives
returns-in_err-read-in-Multi-clause-gives g c =
    handed_on _ _ _ _ _ _ _ c.in-Multi.is c.from_residual-in_err-read-in-Multi.ensures.1 c.in_err-read-in-Multi.ensures.gives

pub returns-in_err-read-in-CreateSession-clause-gives : goal.returns-in_err-read-in-CreateSession-clause-gives
returns-in_err-read-in-CreateSession-clause-gives g c =
    handed_on _ _ _ _ _ _ _ c.in-CreateSession.is c.from_residual-in_err-read-in-CreateSession.ensures.1
    c.in_err-read-in-CreateSession.ensures.gives

pub returns-in_err-read-in-CloseSession-clause-gives : goal.returns-in_err-read-in-CloseSession-clause-gives
returns-in_err-read-in-CloseSession-clause-gives g c =
    handed_on _ _ _ _ _ _ _ c.in-CloseSession.is c.from_residual-in_err-read-in-CloseSession.ensures.1
    c.in_err-read-in-CloseSession.ensures.gives

pub returns-in_err-read-in-Error-clause-gives : goal.returns-in_err-read-in-Error-clause-gives
returns-in_err-read-in-Error-clause-gives g c =
    handed_on _ _ _ _ _ _ _ c.in-Error.is c.from_residual-in_err-read-in-Error.ensures.1 c.in_err-read-in-Error.ensures.gives
