-- One more piece by `behind` and `prints_after`; after the last piece the end, by `ended`. Halts come after what was brought:
-- `halts_behind`, `halts_ended`.
use Rattle.std.proofs.lemmas.Result.{err_from_is_err_and}
use Rattle.script_live.proofs.Printing.{prints_after}
use Rattle.script_live.proofs.HeardLemmas.{behind, ended, halts_behind, halts_ended}
use Rattle.script_live.proofs.link.Link.wait.Goals as goal

pub loop-preserved : goal.loop-preserved
loop-preserved g c = record {
  brings = behind _ _ _ c.loop.invariant.brings c.in_ok-outputs.ensures.ok;
  flows = prints_after _ _ _ _ _ _ c.loop.invariant.flows c.in_ok-outputs.ensures.flows;
}

pub returns-clause-ok : goal.returns-clause-ok
returns-clause-ok g c = ended _ _ _ c.loop.invariant.brings c.in_ok-cut.ensures.ok

pub returns-in_err-outputs-clause-halt : goal.returns-in_err-outputs-clause-halt
returns-in_err-outputs-clause-halt g c =
    let p = err_from_is_err_and c.from_residual.result c.from_residual.ensures.1 in
    rw (p.1, p.2) (halts_behind _ _ _ c.in_err-outputs.field-0.0 c.loop.invariant.brings c.in_err-outputs.ensures.halt)

pub returns-in_err-cut-clause-halt : goal.returns-in_err-cut-clause-halt
returns-in_err-cut-clause-halt g c =
    let p = err_from_is_err_and c.from_residual-in_err-cut.result c.from_residual-in_err-cut.ensures.1 in
    rw (p.1, p.2) (halts_ended _ _ _ c.in_err-cut.field-0.0 c.loop.invariant.brings c.in_err-cut.ensures.halt)

pub returns-clause-flows : goal.returns-clause-flows
returns-clause-flows g c = prints_after _ _ _ _ _ _ c.loop.invariant.flows c.in_ok-cut.ensures.flows
