-- By the case of the question: what the read of its record ensures, with `record_of` unfolded; a delete and a close read nothing,
-- and what the caller has spelled is answered by all that is left.
use Rattle.std.proofs.Common.{refl, ap, sym, Ok}
use Rattle.zk_conversation.specs.Results.{record_of, Brought}
use Rattle.zk_conversation.proofs.result.read_record.Goals as goal

pub returns-in-Exists-clause-gives : goal.returns-in-Exists-clause-gives
unfolding record_of
returns-in-Exists-clause-gives g c = rw c.in-Exists.is c.read_stat.ensures.gives

pub returns-in-GetData-clause-gives : goal.returns-in-GetData-clause-gives
unfolding record_of
returns-in-GetData-clause-gives g c = rw c.in-GetData.is c.read_data.ensures.gives

pub returns-in-GetChildren-clause-gives : goal.returns-in-GetChildren-clause-gives
unfolding record_of
returns-in-GetChildren-clause-gives g c = rw c.in-GetChildren.is c.read_names.ensures

pub returns-in-SetData-clause-gives : goal.returns-in-SetData-clause-gives
unfolding record_of
returns-in-SetData-clause-gives g c = rw c.in-SetData.is c.read_stat-in-SetData.ensures.gives

pub returns-in-Create-clause-gives : goal.returns-in-Create-clause-gives
unfolding record_of
returns-in-Create-clause-gives g c = rw c.in-Create.is c.read_created.ensures.gives

pub returns-in-Delete-clause-gives : goal.returns-in-Delete-clause-gives
unfolding record_of
returns-in-Delete-clause-gives g c = rw c.in-Delete.is refl

pub returns-in-Close-clause-gives : goal.returns-in-Close-clause-gives
unfolding record_of
returns-in-Close-clause-gives g c = rw c.in-Close.is refl

pub returns-in-Raw-clause-gives : goal.returns-in-Raw-clause-gives
unfolding record_of
returns-in-Raw-clause-gives g c = rw c.in-Raw.is (ap (λ bytes. Ok (Brought bytes)) (sym c.rest.ensures))
