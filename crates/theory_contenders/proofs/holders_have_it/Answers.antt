-- First at a listing and still there, so first at each zxid between: `holders_have_it`.
use Rattle.theory_contenders.proofs.Having.{holders_have_it}
use Rattle.theory_contenders.proofs.holders_have_it.Goals as goal

pub returns : goal.returns
returns c = holders_have_it
