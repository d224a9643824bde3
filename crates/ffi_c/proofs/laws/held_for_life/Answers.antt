-- The law of who holds: the listing was answered, as `coherent_for_life` says, and so `held_is_true` of `zk_contend` applies.
use Rattle.std.proofs.Common.{List, sym, subst}
use Rattle.zk_turns.specs.Turns.{Item, Start}
use Rattle.zk_contend.specs.Standings.{HasHeard}
use Rattle.zk_contend.proofs.Helds.{held_here}
use Rattle.ffi_device.specs.Contending.{view_in}
use Rattle.ffi_c.proofs.laws.held_for_life.Goals as goal

pub returns : goal.returns
returns c = λ uses session coherent h ticket contender own listed token seen on below start items there place rises shows.
    held_here h (view_in session.agent) contender own listed token seen place
    (subst (λ (s : Start). HasHeard s seen.items contender.directory listed) (sym start)
    (subst (λ (l : List Item). HasHeard coherent.chapter.start l contender.directory listed) (sym items)
    (coherent.listings on below ticket contender own listed there place))) rises shows
