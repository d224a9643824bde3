-- No place is lost, neither by the shuffle nor between the groups.
use Rattle.std.proofs.Common.{◌≡◌, ◌+◌, arith, subst}
use Rattle.std.specs.List.Sorted.{IsPermutation}
use Rattle.std.proofs.lemmas.List.Sorted.{IsPermutation-trans}
use Rattle.zk_dialler.specs.Orders.{numbers}
use Rattle.zk_dialler.proofs.dialler.Dialler.change_addresses.Goals as goal

pub returns-clause-each : goal.returns-clause-each
returns-clause-each g c =
    let sum : c.in-Some.count ≡ c.args.kept + c.args.added = grind (arith, c.in-Some.ensures) in
    IsPermutation-trans (numbers (c.args.kept + c.args.added)) c.in_ok-ring.ring.order.items c.in_ok-self.field-0.order.items
    (subst (λ count. IsPermutation (numbers count) c.in_ok-ring.ring.order.items) sum c.in_ok-ring.ensures.each) c.in_ok-self.ensures.each
