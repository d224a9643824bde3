-- The reply's spelling begins the payload, as `take_reply` ensures; the bytes after it are ignored; the lines are what `push_reply` and
-- `push_end` ensure, rewritten.
use Rattle.std.proofs.Common.{refl, sym, ap, ◌∙◌, ◌++◌, List, ℕ}
use Rattle.zk_records.specs.Reply.{reply_of, reply_spelling}
use Rattle.shell_commands.specs.Show.{reply_lines}
use Rattle.shell_commands.proofs.printed.print_reply.Goals as goal

pub returns-clause-prints : goal.returns-clause-prints
returns-clause-prints g c =
    let reply = reply_of g.R.Record.view c.in_ok-reply.reply in
    let spelled = reply_spelling g.R.Record.layout reply in
    let rest = c.rest.result.now in
    record {
      lines = reply_lines g.R.Record.layout g.R.Shown.names reply;
      spelled = spelled;
      ignored = rest;
      value = record { value = reply; fits = c.in_ok-reply.ensures.found.0; spells = refl; shows = refl };
      begins = sym c.new-at.ensures.left ∙ c.in_ok-reply.ensures.found.1 ∙ ap (λ (x : List ℕ). spelled ++ x) (sym c.rest.ensures);
      printed = rw (c.as_slice.ensures.value, c.in_ok-spelled.ensures, c.in_ok-push_reply.ensures, c.new-text.ensures.bytes) at
          (c.in_ok-push_end.ensures rest refl);
    }
