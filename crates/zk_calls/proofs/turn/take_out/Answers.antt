-- Where the call was handed over, one less was: `handed_removed`.
use Rattle.std.proofs.Common.{◌-◌, List, subst, sym}
use Rattle.zk_calls.specs.declared.entry.Entry.{Entry}
use Rattle.zk_calls.specs.Orders.{AreHanded}
use Rattle.zk_calls.proofs.Handed.{handed_removed}
use Rattle.zk_calls.proofs.turn.take_out.Goals as goal

pub returns-then-place-handed-clause-handed : goal.returns-then-place-handed-clause-handed
returns-then-place-handed-clause-handed g c =
    subst (λ (es : List (Entry g.row.A.Denot)). AreHanded (c.args.handed.now - 1) es) (sym c.leave.ensures)
    (handed_removed c.args.entries.now.items c.args.handed.now c.args.place c.requires.within c.if-place-handed.true c.requires.handed)
