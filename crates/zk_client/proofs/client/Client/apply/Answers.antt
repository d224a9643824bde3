-- A halt leaves the state and what is saved of the session as they were, and no lists and no answers: `halts`. Else the rule of the turn is
-- put together from what `turn` and `known_of_given` ensure.
use Rattle.std.proofs.Common.{◌≡◌, refl, ◌∙◌, w64, arith}
use mir.Val.{to_z, of_z}
use Rattle.std.proofs.lemmas.Int.{ints}
use Rattle.zk_turns.specs.Turns.{signals_of}
use Rattle.zk_turns.specs.Rule.{says_signals}
use Rattle.zk_client.specs.Clients.{view_of}
use Rattle.zk_client.specs.inner.Given.{given_view}
use Rattle.zk_client.proofs.Whole.{halts}
use Rattle.zk_client.proofs.client.Client.apply.Goals as goal

pub returns-then-self-clause-halt : goal.returns-then-self-clause-halt
returns-then-self-clause-halt g c =
    let client = c.args.self.now in
    let core = client.core in
    let new = c.halt.new.self in
    let last : to_z w64 (of_z w64 c.last_zxid-last.result) ≡ c.last_zxid-last.result = omega (arith, ints) in
    halts client.reader.bytes client.reader.bytes core.halted new.halted core.session new.session core.conversation new.conversation
    core.registry new.registry core.cache new.cache
    c.halt.ensures.halted (c.halt.ensures.state ∙ c.state-state.ensures)
    (rw last at c.halt.ensures.last ∙ c.last_zxid-last.ensures.last) c.halt.ensures.saved c.halt.ensures.lists c.halt.ensures.answers

pub returns-in_default-clause-halt : goal.returns-in_default-clause-halt
returns-in_default-clause-halt g c =
    let client = c.args.self.now in
    let core = client.core in
    let new = c.halt-in_default.new.self in
    let last : to_z w64 (of_z w64 c.last_zxid-last.result) ≡ c.last_zxid-last.result = omega (arith, ints) in
    halts client.reader.bytes c.turn.new.reader.bytes core.halted new.halted core.session new.session core.conversation new.conversation
    core.registry new.registry core.cache new.cache
    c.halt-in_default.ensures.halted (c.halt-in_default.ensures.state ∙ c.state-state.ensures)
    (rw last at c.halt-in_default.ensures.last ∙ c.last_zxid-last.ensures.last)
    (c.halt-in_default.ensures.saved ∙ c.turn.ensures.origin) c.halt-in_default.ensures.lists c.halt-in_default.ensures.answers

pub returns-clause-rule : goal.returns-clause-rule
returns-clause-rule g c = record {
  outputs = says_signals (view_of c.args.self.now) (signals_of (given_view c.args.given));
  added = c.in-Ok.ensures.says;
  rule = record { asked = c.known_of_given.ensures.asked; goes_on = c.if-self.false; outputs = refl; next = c.in-Ok.ensures.next };
}
