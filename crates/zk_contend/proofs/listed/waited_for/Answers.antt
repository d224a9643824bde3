-- Nobody (`nobody_named`), or what `behind_of` gives of the kind of its family, and of as many as may hold at once.
use Rattle.std.proofs.Common.{◌∙◌, Bool, ℕ, IfOk, Option, sym, subst}
use Rattle.zk_nodes.specs.Path.{Name}
use Rattle.zk_conclusions.specs.Kinds.{kind_of}
use Rattle.zk_conclusions.specs.Numbers.{Kind}
use Rattle.zk_contend.specs.Namings.{is_mixed, kind_in, most_in}
use Rattle.zk_contend.specs.Places.{IsBehindName, IsBehindOne, IsBehindWhere}
use Rattle.zk_contend.proofs.Wishes.{nobody_named}
use Rattle.zk_contend.proofs.listed.waited_for.Goals as goal

pub returns-in_default : goal.returns-in_default
returns-in_default g c =
    let names = c.args.listing.now.names.now in
    nobody_named (is_mixed c.args.naming names) c.args.listing.now.directory.now (kind_in c.args.naming) (most_in c.args.naming) names
    c.args.own.now c.new.result.items c.in_default.ensures c.new.ensures.items

pub returns-then-is_mixed : goal.returns-then-is_mixed
returns-then-is_mixed g c =
    let dir = c.args.listing.now.directory.now in
    let names = c.args.listing.now.names.now in
    subst (λ (b : Bool). IsBehindWhere b dir (kind_in c.args.naming) (most_in c.args.naming) names c.args.own.now
    c.new-then-is_mixed.result.items)
    (sym c.if-is_mixed.true ∙ c.is_mixed.ensures) c.new-then-is_mixed.ensures.items

pub returns : goal.returns
returns g c =
    let dir = c.args.listing.now.directory.now in
    let names = c.args.listing.now.names.now in
    let own = c.args.own.now in
    let most = most_in c.args.naming in
    subst (λ (b : Bool). IfOk c.behind_of.result (λ behind. IsBehindWhere b dir (kind_in c.args.naming) most names own behind.items))
    (sym c.if-is_mixed.false ∙ c.is_mixed.ensures)
    (subst (λ (o : Option Name). IfOk c.behind_of.result (λ behind. IsBehindOne dir (kind_in c.args.naming) most names o behind.items))
    c.in-Some.ensures
    (subst (λ (k : Kind). IfOk c.behind_of.result (λ behind. IsBehindName dir k most names c.in-Some.name.now behind.items))
    c.kind.ensures
    (subst (λ (m : ℕ). IfOk c.behind_of.result (λ behind. IsBehindName dir (kind_of c.kind.result) m names c.in-Some.name.now
    behind.items)) c.most.ensures c.behind_of.ensures)))
