-- One more is told of after those before it (`folds_next`); at the end all are (`take_all`).
use Rattle.std.proofs.Common.{◌≤◌, ℕ, List, arith, get_or, length, nat_eq, refl, subst}
use Rattle.std.specs.List.{FoldsTo}
use Rattle.std.proofs.lemmas.List.{get_or_default, take_all}
use Rattle.indexmap.specs.IndexMap.{get}
use Rattle.zk_client.specs.Clients.{view_of}
use Rattle.zk_contend.specs.Collections.{TellsAt}
use Rattle.zk_contend.specs.inner.Rolls.{hall}
use Rattle.zk_contend.proofs.Folds.{folds_next}
use Rattle.zk_contend.proofs.roll.tell_each.Goals as goal

pub loop-ticket-init : goal.loop-ticket-init
loop-ticket-init g c = refl

pub loop-ticket-preserved : goal.loop-ticket-preserved
loop-ticket-preserved g c =
    let tickets = c.args.tickets.now in
    let index = c.loop-ticket.ticket-index in
    folds_next (TellsAt (view_of c.args.client.now)) tickets index (get_or tickets index 0)
    (hall (get nat_eq c.args.all.now) c.args.news.now.items) (hall (get nat_eq c.loop-ticket.all) c.loop-ticket.news.items)
    (hall (get nat_eq c.tell_at.new.all) c.tell_at.new.news.items)
    c.loop-ticket-test.true (get_or_default tickets index 0 (get_or tickets index 0) c.loop-ticket-test.true)
    c.loop-ticket.invariant c.in_ok-tell_at.ensures

pub returns : goal.returns
returns g c =
    let tickets = c.args.tickets.now in
    let past : length tickets ≤ c.loop-ticket.ticket-index = omega (arith, c.loop-ticket-test.false) in
    subst (λ (l : List ℕ). FoldsTo (TellsAt (view_of c.args.client.now)) (hall (get nat_eq c.args.all.now) c.args.news.now.items) l
    (hall (get nat_eq c.loop-ticket.all) c.loop-ticket.news.items))
    (take_all c.loop-ticket.ticket-index tickets past) c.loop-ticket.invariant
