-- The request's spelling begins the payload, as `take` ensures; the bytes after it are ignored; the lines are what `print_asked` ensures.
use Rattle.std.proofs.Common.{refl, sym, ap, ◌∙◌, ◌++◌, List, ℕ}
use Rattle.zk_jute.specs.Spelling.{spelling}
use Rattle.zk_records.specs.Operations.{request_layout}
use Rattle.zk_records.specs.Asked.{asked_of, asked_value}
use Rattle.shell_commands.specs.Show.{request_lines}
use Rattle.shell_commands.proofs.asked.print_request.Goals as goal

pub returns-in-Ok-clause-prints : goal.returns-in-Ok-clause-prints
returns-in-Ok-clause-prints g c =
    let asked = asked_of c.in_ok-asked.asked.0 c.in_ok-asked.asked.1 in
    let spelled = spelling (request_layout asked.operation) (asked_value asked) in
    let rest = c.rest.result.now in
    record {
      lines = request_lines asked;
      spelled = spelled;
      ignored = rest;
      value = record { value = asked; fits = c.in_ok-asked.ensures.found.0; spells = refl; shows = refl };
      begins = sym c.new-at.ensures.left ∙ c.in_ok-asked.ensures.found.1 ∙ ap (λ (x : List ℕ). spelled ++ x) (sym c.rest.ensures);
      printed = rw c.in-Ok.is at c.print_asked-printed.ensures rest refl;
    }
