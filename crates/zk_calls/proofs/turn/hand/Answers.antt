-- The first call that waits is marked as sent (`handed_there`), so all up to its place are handed over (`handed_next`).
use Rattle.std.proofs.Common.{true, refl}
use Rattle.zk_calls.specs.Lines.{waits_turn}
use Rattle.zk_calls.proofs.Answering.{handed_there, within}
use Rattle.zk_calls.proofs.Handed.{handed_next}
use Rattle.zk_calls.proofs.Places.{is_first}
use Rattle.zk_calls.proofs.turn.hand.Goals as goal

pub returns-clause-entries : goal.returns-clause-entries
returns-clause-entries g c = handed_there c.args.entries.now.items c.args.place c.index_mut.result.now c.requires c.index_mut.ensures.value

pub returns-clause-handed : goal.returns-clause-handed
returns-clause-handed g c =
    handed_next c.args.entries.now.items c.args.place (record c.index_mut.result.now { is_sent = true })
    (within waits_turn c.args.entries.now.items c.args.place c.requires)
    (λ k d less. let there = is_first waits_turn c.args.entries.now.items c.args.place d c.requires in there.2 k less) refl
