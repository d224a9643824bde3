-- One turn more reaches the last rival before the one at which it is: `reached_next`. It ends after all turns, or where no rival is before.
use Rattle.std.proofs.Common.{arith, rules}
use Rattle.zk_conclusions.specs.Kinds.{kind_of}
use Rattle.zk_conclusions.specs.Predecessors.{IsPredecessor}
use Rattle.zk_conclusions.specs.Standings.{IsFirstOf}
use Rattle.zk_contend.proofs.Chaining.{reached_all, reached_end, reached_next}
use Rattle.zk_contend.proofs.lease.are_before.Goals as goal

pub returns-in_default-clause-no : goal.returns-in_default-clause-no
returns-in_default-clause-no g c e =
    let first : IsFirstOf (kind_of c.args.kind.now) c.args.listing.now.names.now c.loop-turn.last.now = search rules in
    reached_end (kind_of c.args.kind.now) c.args.listing.now.names.now c.args.own.now c.loop-turn._turn c.args.count c.loop-turn.last.now
    c.loop-turn.invariant.1 (omega (arith, c.loop-turn-test.true)) first

pub loop-turn-preserved : goal.loop-turn-preserved
loop-turn-preserved g c =
    let last : IsPredecessor (kind_of c.args.kind.now) c.args.listing.now.names.now c.loop-turn.last.now c.in-Some.name.now =
    search rules in (
      search rules,
      reached_next (kind_of c.args.kind.now) c.args.listing.now.names.now c.args.own.now c.loop-turn._turn c.loop-turn.last.now
          c.in-Some.name.now
          c.loop-turn.invariant.1 last,
      omega (arith, c.loop-turn-test.true),
    )

pub returns-clause-yes : goal.returns-clause-yes
returns-clause-yes g c e =
    reached_all (kind_of c.args.kind.now) c.args.listing.now.names.now c.args.own.now c.loop-turn._turn c.args.count c.loop-turn.last.now
    c.loop-turn.invariant.1 (omega (arith, c.loop-turn-test.false, c.loop-turn.invariant.2))
