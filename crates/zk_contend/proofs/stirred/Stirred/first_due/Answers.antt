-- A turn through those that are looked at: `turns_begin`, `turns_more`; it ends at one of which a call is due (`turns_found`), or after all
-- (`turns_end`).
use Rattle.std.proofs.Common.{◌≡◌, ◌∙◌, ◌++◌, IfSome, arith, length, nat_eq, rules, refl, ap}
use Rattle.std.specs.Option.{option_to_list}
use Rattle.indexmap.specs.IndexMap.{get}
use Rattle.zk_client.specs.Clients.{view_of}
use Rattle.zk_contend.specs.Dues.{IsAtRest}
use Rattle.zk_contend.proofs.Stirring.{turns_begin, turns_more}
use Rattle.zk_contend.proofs.stirred.Stirred.first_due.Goals as goal

pub loop-turn-init : goal.loop-turn-init
loop-turn-init g c =
    let count : c.len-turn-end.result ≡ length c.args.self.now.awake.items =
    omega (arith, c.len-turn-end.ensures, c.args.self.now.awake.ok.0) in
    record { turns = turns_begin _ _ _ c.args.self.now.awake.items _ count; untold = refl }

pub loop-turn-preserved : goal.loop-turn-preserved
loop-turn-preserved g c =
    let rests : IfSome (get nat_eq c.args.all.now c.in-Some.ticket) (IsAtRest (view_of c.args.client.now) c.args.now) = search rules in
    record {
      turns = turns_more _ _ _ c.args.self.now.awake.items _ c.loop-turn._turn c.in-Some.ticket c.loop-turn.self.awake.items
          c.pop_front.new.self.items c.keep.new.self.awake.items c.loop-turn.invariant.turns c.loop-turn-test.true
          (c.pop_front.ensures.items ∙ ap (λ r. option_to_list r ++ c.pop_front.new.self.items) c.in-Some.is)
          rests c.in_ok-keep.ensures.kept;
      untold = c.keep.ensures.untold ∙ c.loop-turn.invariant.untold;
    }
