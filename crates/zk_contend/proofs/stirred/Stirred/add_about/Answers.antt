-- One more contender is looked at if the report is about it: `one_more`, with what `next` takes from the iterator (`rest_more`).
use Rattle.std.proofs.Common.{◌∙◌, ◌++◌, ◌∷◌, [], if◌then◌else◌, ap, sym}
use Rattle.std.proofs.lemmas.Map.Iter.{rest_more}
use Rattle.std.specs.List.{filter}
use Rattle.std.specs.Map.Iter.{deref_pair}
use Rattle.zk_contend.specs.Contenders.{is_about}
use Rattle.zk_contend.specs.inner.Stirred.{about}
use Rattle.zk_contend.proofs.Stirring.{one_more}
use Rattle.zk_contend.proofs.stirred.Stirred.add_about.Goals as goal

pub loop-ticket-preserved : goal.loop-ticket-preserved
loop-ticket-preserved g c =
    let path = c.args.path.now in
    let ticket = c.in-Some.ticket.now in
    let one = c.in-Some.contender.now in
    let awake = c.loop-ticket.self.awake.items in
    let untold = c.loop-ticket.self.untold.items in
    let left = filter (λ e. is_about path e.1) c.next.new.self in
    let rest = rest_more deref_pair _ _ _ _ c.in-Some.is c.next.ensures.steps in
    record {
      awake = one_more (is_about path one) (ticket, one) left awake c.add_if.new.self.awake.items
          (c.in_ok-add_if.ensures.awake ∙ ap (λ b. if b then awake ++ ticket ∷ [] else awake) c.is_about.ensures)
          ∙ ap (λ s. awake ++ about path s) (sym rest) ∙ c.loop-ticket.invariant.awake;
      untold = one_more (is_about path one) (ticket, one) left untold c.add_if.new.self.untold.items
          (c.in_ok-add_if.ensures.untold ∙ ap (λ b. if b then untold ++ ticket ∷ [] else untold) c.is_about.ensures)
          ∙ ap (λ s. untold ++ about path s) (sym rest) ∙ c.loop-ticket.invariant.untold;
    }
