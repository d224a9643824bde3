-- Up to each of three places `whole_schedule` is a schedule, so its client is served there; what it keeps and has seen is computed.
use Rattle.theory_witnesses.proofs.Meets.{lost_served, written_served, expired_served, good_kept, last_seven}
use Rattle.theory_witnesses.proofs.clients_are_served.Goals as goal

pub returns-clause-lost : goal.returns-clause-lost
returns-clause-lost c = lost_served

pub returns-clause-kept : goal.returns-clause-kept
returns-clause-kept c = good_kept

pub returns-clause-written : goal.returns-clause-written
returns-clause-written c = written_served

pub returns-clause-last : goal.returns-clause-last
returns-clause-last c = last_seven

pub returns-clause-expired : goal.returns-clause-expired
returns-clause-expired c = expired_served
