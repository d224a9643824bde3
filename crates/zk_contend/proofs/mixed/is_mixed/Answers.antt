-- The last name of another family before ten colons is one (`one_found`); if none is before those, there is none (`none_found`).
use Rattle.std.proofs.Common.{◌≡◌, true, false, IfSome, sym, subst}
use Rattle.std.specs.List.{list_any}
use Rattle.zk_conclusions.specs.Kinds.{kind_of}
use Rattle.zk_conclusions.specs.Numbers.{Kind, is_rival}
use Rattle.zk_conclusions.specs.Predecessors.{IsPredecessor}
use Rattle.zk_contend.proofs.Families.{beyond, none_found, one_found}
use Rattle.zk_contend.proofs.mixed.is_mixed.Goals as goal

pub returns-in-Some : goal.returns-in-Some
returns-in-Some g c =
    let names = c.args.listing.now.names.now in
    let its = kind_of c.others.result in
    sym (subst (λ (k : Kind). list_any (is_rival k) names ≡ true) c.others.ensures
    (one_found its names _
    (subst (λ o. IfSome o (λ name. IsPredecessor its names beyond name.now)) c.in-Some.is c.predecessor.ensures.some)))

pub returns-in-None : goal.returns-in-None
returns-in-None g c =
    let names = c.args.listing.now.names.now in
    sym (subst (λ (k : Kind). list_any (is_rival k) names ≡ false) c.others.ensures
    (none_found (kind_of c.others.result) names (c.predecessor.ensures.none c.in-None.is)))
