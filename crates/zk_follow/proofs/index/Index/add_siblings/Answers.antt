-- Who has the path of a subject of the ticket is found by that subject's place: `siblings`.
use Rattle.std.proofs.Common.{◌<◌, arith, length, subst, sym}
use Rattle.std.specs.Prelude.{All}
use Rattle.std.proofs.lemmas.Result.{on_ok_weaker}
use Rattle.zk_follow.proofs.Beside.{siblings}
use Rattle.zk_follow.proofs.index.Index.add_siblings.Goals as goal

pub add_by_paths-requires-clause-within : goal.add_by_paths-requires-clause-within
add_by_paths-requires-clause-within g c =
    let count = c.args.self.now.count in
    let own = c.in_ok-add_by_ticket.ensures.below
    (subst (All (λ at. at < count)) (sym c.new-own.ensures.items) (λ k d within. absurd (omega (arith, within)))) in
    subst (All (λ at. at < length c.args.subjects.now)) (sym c.as_slice.ensures.value)
    (subst (λ n. All (λ at. at < n) c.add_by_ticket.new.all.items) c.requires.count own)

pub returns-clause-siblings : goal.returns-clause-siblings
returns-clause-siblings g c =
    on_ok_weaker c.add_by_paths.result
    (siblings c.args.subjects.now c.args.self.now.count c.args.ticket c.add_by_ticket.new.all.items c.as_slice.result.now
    c.add_by_paths.new.all.items c.requires.count c.as_slice.ensures.value c.in_ok-add_by_ticket.ensures.each)
    c.add_by_paths.ensures.each
