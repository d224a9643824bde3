-- Who has left is taken out (`gone`); else nothing changes (`stays`, `same_there`).
use Rattle.std.proofs.Common.{◌∙◌, ap, nat_eq, sym}
use Rattle.indexmap.specs.IndexMap.{get}
use Rattle.std.specs.Map.{update}
use Rattle.zk_contend.proofs.Told.{gone, same_there, stays}
use Rattle.zk_contend.proofs.roll.drop_left.Goals as goal

pub returns-then-has_left_at : goal.returns-then-has_left_at
returns-then-has_left_at g c =
    let old = get nat_eq c.args.all.now in
    λ other.
    c.take_out.ensures.rest other
    ∙ ap (λ o. update nat_eq old c.args.ticket o other) (sym (gone (old c.args.ticket) (sym c.has_left_at.ensures ∙ c.if-has_left_at.true)))

pub returns-else-has_left_at : goal.returns-else-has_left_at
returns-else-has_left_at g c =
    let old = get nat_eq c.args.all.now in
    λ other. same_there old c.args.ticket other _ (sym (stays (old c.args.ticket) (sym c.has_left_at.ensures ∙ c.if-has_left_at.false)))
