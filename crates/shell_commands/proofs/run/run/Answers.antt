-- By what `run_words` ensures of the words with the servers.
use Rattle.std.proofs.Common.{◌≡◌, map, rules}
use Rattle.shell_commands.specs.Servers.{served}
use Rattle.shell_commands.proofs.ServerLemmas.{cut_off_at, done_at, faulty_at, never_at, refusal_at, undone_at, whole_at}
use Rattle.shell_commands.proofs.run.run.Goals as goal

pub returns-in-Ok : goal.returns-in-Ok
returns-in-Ok g c =
    let same : map (λ w. w.now) c.as_slice.result.now ≡ served c.args.servers.now (map (λ w. w.now) c.args.words.now) = search rules in
    let ran = c.run_words.ensures in
    record {
      done = λ is. let at = ran.done is in (at.0, done_at _ _ _ _ _ _ same at.1, at.2, at.3);
      fault = λ is. let at = ran.fault is in (at.0, at.1, faulty_at _ _ _ _ _ same at.2, at.3, at.4);
      usage = λ is. let at = ran.usage is in (at.0, refusal_at _ _ _ same at.1, at.2, at.3);
      undone = λ is. let at = ran.undone is in (at.0, undone_at _ _ _ _ _ _ _ same at.1, at.2, at.3);
      never = λ is. let at = ran.never is in (at.0, never_at _ _ _ _ same at.1, at.2, at.3);
      more = λ is. let at = ran.more is in (at.0, at.1, cut_off_at _ _ _ _ _ same at.2, at.3, at.4);
      memory = λ is. let at = ran.memory is in (at.0, whole_at _ _ _ _ _ same at.1, at.2, at.3);
    }
