-- One more piece by `behind` and `prints_after`; after the last piece the end, by `ended`, and a client that does not wait (`cut_settles`).
-- Halts come after what was brought: `halts_behind`, `halts_ended`.
use Rattle.std.proofs.Common.{rules}
use Rattle.script_live.proofs.Printing.{prints_after}
use Rattle.script_live.proofs.HeardLemmas.{behind, cut_settles, ended, halts_behind, halts_ended}
use Rattle.script_live.proofs.link.Link.settle.Goals as goal

pub loop-preserved : goal.loop-preserved
loop-preserved g c = record {
  brings = behind _ _ _ c.loop.invariant.brings c.in_ok-bring.ensures.ok;
  flows = prints_after _ _ _ _ _ _ c.loop.invariant.flows c.in_ok-bring.ensures.flows;
}

pub returns-clause-ok : goal.returns-clause-ok
returns-clause-ok g c = ended _ _ _ c.loop.invariant.brings c.in_ok-cut.ensures.ok

pub returns-clause-settled : goal.returns-clause-settled
returns-clause-settled g c = cut_settles _ _ c.in_ok-cut.ensures.ok

pub returns-in_err-bring-clause-halt : goal.returns-in_err-bring-clause-halt
returns-in_err-bring-clause-halt g c =
    let halted = halts_behind _ _ _ c.in_err-bring.field-0.0 c.loop.invariant.brings c.in_err-bring.ensures.halt in search rules

pub returns-in_err-cut-clause-halt : goal.returns-in_err-cut-clause-halt
returns-in_err-cut-clause-halt g c =
    let halted = halts_ended _ _ _ c.in_err-cut.field-0.0 c.loop.invariant.brings c.in_err-cut.ensures.halt in search rules

pub returns-clause-flows : goal.returns-clause-flows
returns-clause-flows g c = prints_after _ _ _ _ _ _ c.loop.invariant.flows c.in_ok-cut.ensures.flows
