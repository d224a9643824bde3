-- To ask for the close is the move `Closes`: the call is handed to the agent, which is a run by `calls_run`, and no tree grows.
use Rattle.std.proofs.Common.{None, Some, refl, subst}
use Rattle.zk_agent.specs.declared.input.AgentInput.TheVariants as happens
use Rattle.zk_conversation.specs.declared.call.Call.TheVariants as call
use Rattle.zk_driver.specs.declared.engine.Engine.{Engine}
use Rattle.zk_driver.specs.Driving.{course_of, Hands}
use Rattle.zk_driver.specs.Flowing.{flow_of, Runs}
use Rattle.zk_driver.proofs.Running.{calls_run}
use Rattle.shell_watch.proofs.watcher.Watcher.ask_close.Goals as goal

pub returns : goal.returns
returns g c =
    let remaining = g.D.Stream.Read.remaining in
    let contents = g.D.Stream.Write.contents in
    let far = g.D.Stream.Stream.far in
    let state = g.D.Stream.Stream.state in
    let until = c.saturating_add-until.result in
    let asked = c.ask.new.self.engine in
    let hands = subst (λ (e : Engine g.row.A.Denot g.row.D-Stream.Denot).
    Hands (happens.Call 0 call.Close (Some until)) (course_of e None) (course_of asked None)) c.now.ensures.engine
    c.in_ok-ask.ensures.hands in
    let runs = subst (λ (e : Engine g.row.A.Denot g.row.D-Stream.Denot).
    Runs (flow_of remaining contents far state e None) (flow_of remaining contents far state asked None)) c.now.ensures.engine
    (calls_run (flow_of remaining contents far state c.now.new.self.engine None)
    (flow_of remaining contents far state asked None) c.in_ok-ask.ensures.flows) in
    (hands, runs, refl, refl, refl, refl)
