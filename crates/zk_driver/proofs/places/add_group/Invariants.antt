-- Those of the group among the addresses so far were added.
use Rattle.std.proofs.Common.{◌≡◌, ◌++◌, take}
use Rattle.zk_driver.specs.Places.{group}
use Rattle.zk_driver.proofs.places.add_group.Given as goal

abbrev pub invariant-loop-address : goal.invariant-loop-address
invariant-loop-address g l =
    l.order.items ≡ l.fn.order.items ++ group (λ a. a.now) l.others l.is_kept (take l.address-index l.addresses)
