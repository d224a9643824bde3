-- Each happening of the past is in range, so the request that it sends fits its layout and a frame can tell its length: for calls, parts
-- and connects two lemmas of `Requested` each. A new start and a ping are in range as they are.
use Rattle.zk_turns.proofs.Fitting.{ping_fits}
use Rattle.zk_turns.proofs.Requested.{new_resumable, call_told, call_of, parts_told, parts_of, connect_told, connect_of}
use Rattle.zk_turns.proofs.requests_fit.Goals as goal

pub returns-clause-new : goal.returns-clause-new
returns-clause-new c timeout t = new_resumable timeout t

pub returns-clause-call : goal.returns-clause-call
returns-clause-call c start items since ticket call before a e = call_of start items since before ticket call a e

pub returns-clause-call_told : goal.returns-clause-call_told
returns-clause-call_told c start items since ticket call before e = call_told start items since before ticket call e

pub returns-clause-parts : goal.returns-clause-parts
returns-clause-parts c start items since welcome before s a e = parts_of start items since before welcome s a e

pub returns-clause-parts_told : goal.returns-clause-parts_told
returns-clause-parts_told c start items since welcome before e = parts_told start items since before welcome e

pub returns-clause-connect : goal.returns-clause-connect
returns-clause-connect c start items since before s e = connect_of start items since before s e

pub returns-clause-connect_told : goal.returns-clause-connect_told
returns-clause-connect_told c start items since before s e = connect_told start items since before s e

pub returns-clause-ping : goal.returns-clause-ping
returns-clause-ping c = ping_fits
