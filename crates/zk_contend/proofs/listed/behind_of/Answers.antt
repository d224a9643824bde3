-- One turn more has the path of one rival more: `chain_next`. It ends after all turns, where no rival is before, or where a name makes no
-- path.
use Rattle.std.proofs.Common.{◌≡◌, ◌+◌, List, None, Some, arith, rules, sym, subst}
use Rattle.zk_nodes.specs.Path.{Text}
use Rattle.zk_conclusions.specs.Kinds.{kind_of}
use Rattle.zk_conclusions.specs.Predecessors.{IsPredecessor}
use Rattle.zk_conclusions.specs.Standings.{IsFirstOf}
use Rattle.zk_contend.specs.Places.{path_in, IsBehindName}
use Rattle.zk_contend.proofs.Chaining.{chain_all, chain_end, chain_next, chain_unnamed, IsChain}
use Rattle.zk_contend.proofs.listed.behind_of.Goals as goal

pub returns-in_default : goal.returns-in_default
returns-in_default g c =
    let first : IsFirstOf (kind_of c.args.kind.now) c.args.listing.now.names.now c.loop-turn.last.now =
    c.predecessor.ensures.none c.in_default.is in
    subst (λ (b : List Text). IsBehindName c.args.listing.now.directory.now (kind_of c.args.kind.now) c.args.most
    c.args.listing.now.names.now c.args.own.now b) (sym c.new.ensures.items)
    (chain_end (kind_of c.args.kind.now) c.args.listing.now.names.now c.args.own.now c.args.listing.now.directory.now c.loop-turn._turn
    c.args.most
    c.loop-turn.last.now c.loop-turn.behind.items c.loop-turn.invariant.1 (omega (arith, c.loop-turn-test.true)) first)

pub returns-in-None : goal.returns-in-None
returns-in-None g c =
    let last : IsPredecessor (kind_of c.args.kind.now) c.args.listing.now.names.now c.loop-turn.last.now c.in-Some.name.now =
    search rules in
    let none : path_in c.args.listing.now.directory.now c.in-Some.name.now ≡ None = search rules in
    subst (λ (b : List Text). IsBehindName c.args.listing.now.directory.now (kind_of c.args.kind.now) c.args.most
    c.args.listing.now.names.now c.args.own.now b) (sym c.new-in-None.ensures.items)
    (chain_unnamed (kind_of c.args.kind.now) c.args.listing.now.names.now c.args.own.now c.args.listing.now.directory.now
    c.loop-turn._turn c.args.most
    c.loop-turn.last.now c.in-Some.name.now c.loop-turn.behind.items c.loop-turn.invariant.1 (omega (arith, c.loop-turn-test.true))
    last none)

pub loop-turn-preserved : goal.loop-turn-preserved
loop-turn-preserved g c =
    let last : IsPredecessor (kind_of c.args.kind.now) c.args.listing.now.names.now c.loop-turn.last.now c.in-Some.name.now =
    search rules in
    let named : path_in c.args.listing.now.directory.now c.in-Some.name.now ≡ Some c.in-Some-2.path = search rules in (
      search rules,
      subst (λ (b : List Text). IsChain (kind_of c.args.kind.now) c.args.listing.now.names.now c.args.own.now
          c.args.listing.now.directory.now
          (c.loop-turn._turn + 1) c.in-Some.name.now b) (sym c.in_ok-push-in-Some-2.ensures.items)
          (chain_next (kind_of c.args.kind.now) c.args.listing.now.names.now c.args.own.now c.args.listing.now.directory.now
          c.loop-turn._turn
          c.loop-turn.last.now c.in-Some.name.now c.in-Some-2.path c.loop-turn.behind.items c.loop-turn.invariant.1 last named),
      omega (arith, c.loop-turn-test.true),
    )

pub returns : goal.returns
returns g c =
    chain_all (kind_of c.args.kind.now) c.args.listing.now.names.now c.args.own.now c.args.listing.now.directory.now c.loop-turn._turn
    c.args.most
    c.loop-turn.last.now c.loop-turn.behind.items c.loop-turn.invariant.1 (omega (arith, c.loop-turn-test.false, c.loop-turn.invariant.2))
