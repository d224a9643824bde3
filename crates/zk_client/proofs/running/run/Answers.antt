-- One input more is one turn more (`further`); the run halts with its step (`halted`), and is whole where no input comes (`ended`).
use Rattle.zk_client.specs.Clients.{view_of}
use Rattle.zk_client.specs.Views.{input_view, said}
use Rattle.std.specs.Prelude.{[], ◌∷◌}
use Rattle.zk_turns.specs.Turns.{Input, Halts}
use Rattle.zk_client.specs.Runs.{Ran}
use Rattle.zk_client.proofs.Holding.{further, ended, halted, at_an_error}
use Rattle.zk_client.proofs.running.run.Goals as goal

pub returns-in_err-outputs-clause-halt : goal.returns-in_err-outputs-clause-halt
returns-in_err-outputs-clause-halt g c =
    at_an_error c.from_residual.result
    ((input : Input) × Ran (view_of c.args.client.now) (view_of c.step.new.self) (g.O.Outside.told c.args.outside.now)
    (g.O.Outside.told c.next.new.self) (Halts ∷ []) (input ∷ [])) (
      input_view c.in-Some.input,
      halted (view_of c.args.client.now) (view_of c.loop-input.client) (view_of c.step.new.self)
          (g.O.Outside.told c.args.outside.now)
          (g.O.Outside.told c.loop-input.outside)
          (g.O.Outside.told c.next.new.self)
          (input_view c.in-Some.input) c.loop-input.invariant c.in-Some.ensures.hands c.in_err-outputs.ensures.halt,
    )

pub loop-input-preserved : goal.loop-input-preserved
loop-input-preserved g c =
    further (view_of c.args.client.now) (view_of c.loop-input.client) (view_of c.step.new.self) (g.O.Outside.told c.args.outside.now)
    (g.O.Outside.told c.loop-input.outside)
    (g.O.Outside.told c.next.new.self) (g.O.Outside.told c.give.new.self) (input_view c.in-Some.input)
    (said c.in_ok-outputs.outputs.items) c.loop-input.invariant c.in-Some.ensures.hands
    c.in_ok-outputs.ensures.stands c.give.ensures.given

pub returns-clause-done : goal.returns-clause-done
returns-clause-done g c =
    ended (view_of c.args.client.now) (view_of c.loop-input.client) (g.O.Outside.told c.args.outside.now)
    (g.O.Outside.told c.loop-input.outside) (g.O.Outside.told c.next.new.self)
    c.loop-input.invariant c.in_default.ensures.hands
