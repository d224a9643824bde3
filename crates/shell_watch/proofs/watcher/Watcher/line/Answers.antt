-- The line is that of the watcher's client and of what it watches.
use Rattle.std.proofs.Common.{◌∙◌, List, ap}
use Rattle.std.specs.Prelude.{string_bytes}
use Rattle.std.proofs.lemmas.Result.{IfOk-weaker}
use Rattle.zk_turns.specs.View.{View}
use Rattle.zk_client.specs.Clients.{view_of}
use Rattle.shell_watch.specs.declared.shown.Watched.{Watched}
use Rattle.shell_watch.specs.Lines.{turn_line}
use Rattle.shell_watch.proofs.watcher.Watcher.line.Goals as goal

pub returns : goal.returns
returns g c =
    let at = c.unwrap_or-at.result.now in
    IfOk-weaker c.turn_line.result _ _ (λ text is. (
      at,
      is ∙ ap (λ (view : View). turn_line c.args.self.now.style c.args.ms c.as_slice-watched.result.now at view c.args.turn.now)
          c.client-client.ensures
          ∙ ap (λ (watched : List (Watched _)). turn_line c.args.self.now.style c.args.ms watched at
          (view_of c.args.self.now.driver.engine.agent.asker.follower.client) c.args.turn.now) c.as_slice-watched.ensures.value,
    ))
    c.turn_line.ensures
