-- By whether another epoch was seen: what `read_anew` ensures, or nothing, rewritten with the test of the two zxids, which are in range.
use Rattle.std.proofs.Common.{◌≡◌, arith, w64, sym, ap, subst, refl, ◌∙◌}
use Rattle.std.proofs.lemmas.Int.{ints}
use Rattle.std.specs.Prelude.{OnOk}
use mir.Val.{to_z, of_z}
use Rattle.zk_agent.specs.Agents.{rises, trail_of, DoubtsWhere}
use Rattle.zk_agent.proofs.agent.Agent.doubt_where_risen.Goals as goal

pub returns-then-rises-clause-doubts : goal.returns-then-rises-clause-doubts
returns-then-rises-clause-doubts g c =
    let was : to_z w64 (of_z w64 c.args.was) ≡ c.args.was = omega (arith, ints) in
    let last : to_z w64 (of_z w64 c.last_zxid.result) ≡ c.last_zxid.result = omega (arith, ints) in
    subst (λ risen. OnOk c.read_anew.result (DoubtsWhere risen c.args.now (trail_of c.args.self.now c.args.actions.now.items)
    (trail_of c.read_anew.new.self c.read_anew.new.actions.items)))
    (sym c.if-rises.true ∙ c.rises.ensures ∙ ap (λ z. rises z (to_z w64 (of_z w64 c.last_zxid.result))) was
    ∙ ap (rises c.args.was) (last ∙ c.last_zxid.ensures)) c.read_anew.ensures.doubts

pub returns-clause-doubts : goal.returns-clause-doubts
returns-clause-doubts g c =
    let was : to_z w64 (of_z w64 c.args.was) ≡ c.args.was = omega (arith, ints) in
    let last : to_z w64 (of_z w64 c.last_zxid.result) ≡ c.last_zxid.result = omega (arith, ints) in
    let old = trail_of c.args.self.now c.args.actions.now.items in
    subst (λ risen. DoubtsWhere risen c.args.now old old)
    (sym c.if-rises.false ∙ c.rises.ensures ∙ ap (λ z. rises z (to_z w64 (of_z w64 c.last_zxid.result))) was
    ∙ ap (rises c.args.was) (last ∙ c.last_zxid.ensures)) refl
