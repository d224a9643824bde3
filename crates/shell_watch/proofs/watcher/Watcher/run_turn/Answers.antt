-- One turn is heard (`heard_so`) and printed as the driver then is (`same_tells`): clock, print and note change nothing of the engine.
use Rattle.std.proofs.Common.{◌≡◌, ◌∙◌, Result, Ok, Err, ap, subst, sym}
use Rattle.std.specs.Prelude.{string_bytes, ◌||◌, IfErr, IsErrAnd}
use Rattle.zk_client.specs.Clients.{view_of}
use Rattle.zk_agent.specs.Telling.{told_by}
use Rattle.shell_watch.specs.declared.plan.Style.{Style}
use Rattle.shell_watch.specs.declared.growth.Growth.{Growth}
use Rattle.shell_watch.specs.Trees.{grown_after}
use Rattle.shell_watch.specs.Watching.{accepts, TellsTurn}
use Rattle.shell_watch.specs.inner.Watching.{stand_of, Heard}
use Rattle.shell_watch.proofs.Printing.{heard_so, same_tells}
use Rattle.shell_watch.proofs.watcher.Watcher.run_turn.Goals as goal

-- what is so of the error that there is
err_so : {T E : Type 0} (result : Result T E) (P : E → Type 0) → IsErrAnd result P → IfErr result P
err_so (Ok value) P is = tt
err_so (Err fault) P is = is

pub returns-in_err-text-clause-err : goal.returns-in_err-text-clause-err
returns-in_err-text-clause-err g c = err_so c.from_residual-in_err-text.result _ c.from_residual-in_err-text.ensures.1

pub returns-clause-ok : goal.returns-clause-ok
returns-clause-ok g c =
    let first = c.args.self.now.driver.engine in
    let between = c.turn.new.self.engine in
    let turn = c.in_ok-turn.turn in
    let text = string_bytes c.in_ok-text.text in
    let stamped = c.elapsed-ms.new.self in
    let told = c.printed_turn-printed.new.self in
    let noted = c.note.new.self in
    let style = c.args.self.now.style in
    let same : noted.style ≡ style = c.note.ensures.style ∙ c.printed_turn-printed.ensures.style ∙ c.elapsed-ms.ensures.style in
    let growth = c.args.self.now.growth in
    let tells : TellsTurn style turn (view_of stamped.driver.engine.agent.asker.follower.client)
    (told_by stamped.driver.engine.waiting.items) growth stamped.watched.items told.watched.items text =
    rw (c.elapsed-ms.ensures.style, c.elapsed-ms.ensures.growth) at c.in_ok-text.ensures.tells in
    let grown : noted.growth ≡ grown_after turn growth =
    c.note.ensures.growth ∙ c.in_ok-text.ensures.growth ∙ ap (λ (b : Growth). grown_after turn b) c.elapsed-ms.ensures.growth in
    subst (λ (s : Style). Heard c.args.until c.is_come-is_over.result
    (stand_of g.D.Stream.Read.remaining g.D.Stream.Write.contents g.D.Stream.Stream.far g.D.Stream.Stream.state first
    c.args.self.now.watched.items c.args.self.now.is_accepted style growth) text (stand_of g.D.Stream.Read.remaining
    g.D.Stream.Write.contents g.D.Stream.Stream.far g.D.Stream.Stream.state noted.driver.engine noted.watched.items
    noted.is_accepted s noted.growth)) (sym same)
    (heard_so g.D.Stream.Read.remaining g.D.Stream.Write.contents g.D.Stream.Stream.far g.D.Stream.Stream.state c.args.until
    c.is_come-is_over.result turn first between noted.driver.engine
    c.args.self.now.watched.items noted.watched.items c.args.self.now.is_accepted noted.is_accepted style growth noted.growth text
    (c.note.ensures.engine ∙ c.printed_turn-printed.ensures.engine ∙ c.elapsed-ms.ensures.engine) c.in_ok-turn.ensures.goes
    c.in_ok-turn.ensures.flows
    (same_tells style turn growth text between stamped.driver.engine c.args.self.now.watched.items stamped.watched.items
    told.watched.items noted.watched.items c.elapsed-ms.ensures.engine
    (ap (λ w. w.items) c.elapsed-ms.ensures.watched) (ap (λ w. w.items) c.note.ensures.watched) tells)
    (c.note.ensures.accepted ∙ ap (λ b. b || accepts turn) (c.printed_turn-printed.ensures.accepted ∙ c.elapsed-ms.ensures.accepted))
    grown c.is_come-is_over.ensures c.in_ok-turn.ensures.come c.in_ok-turn.ensures.none)
