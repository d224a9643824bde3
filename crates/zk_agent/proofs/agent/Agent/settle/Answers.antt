-- What is told of credentials is the move `Presents`, and then the dialler decides: `presented`. That leaves whether a connection is there.
use Rattle.std.proofs.Common.{Bool, [], ◌∷◌, ap, sym, subst, ◌∙◌}
use Rattle.std.specs.Prelude.{OnOk}
use Rattle.zk_agent.specs.Agents.{trail_of, Presents}
use Rattle.zk_agent.specs.inner.Agents.{Acts}
use Rattle.zk_agent.specs.Credentials.{all_written, papers_of, unwritten}
use Rattle.zk_agent.proofs.Moves.{presented}
use Rattle.zk_agent.proofs.Saying.{ok_always}
use Rattle.zk_agent.proofs.agent.Agent.settle.Goals as goal

pub returns-clause-comes : goal.returns-clause-comes
returns-clause-comes g c =
    let now = c.args.now in
    let judged = c.args.judged.now in
    let frames = λ (is_there : Bool). unwritten is_there (papers_of c.args.credentials.now) in
    let old = trail_of c.args.self.now c.args.actions.now.items in
    let between = trail_of c.args.self.now c.tell.new.actions.items in
    let new = trail_of c.dial.new.self c.dial.new.actions.items in
    subst (λ is_there. OnOk c.dial.result (Acts now (Presents judged (frames is_there) ∷ []) old new))
    (c.is_open-is_open.ensures ∙ sym c.dial.ensures.open)
    (presented c.dial.result now judged (frames c.is_open-is_open.result) old between new
    (ap (λ told. record old { told = told }) c.in_ok-tell.ensures.told) c.dial.ensures.comes)

pub returns-clause-papers : goal.returns-clause-papers
returns-clause-papers g c =
    ok_always c.dial.result
    (c.in_ok-tell.ensures.papers ∙ ap (λ is_there. all_written is_there (papers_of c.args.credentials.now))
    (c.is_open-is_open.ensures ∙ sym c.dial.ensures.open))
