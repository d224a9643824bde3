-- The writer has begun an object and written the fields, with nothing before it, and `line_of` ends and prints that: by rewriting.
use Rattle.std.proofs.Common.{rules, ◌≡◌, ◌∷◌, []}
use Rattle.std.proofs.lemmas.Result.{IfOk-weaker}
use Rattle.json.specs.Token.{begin_object}
use Rattle.shell_words.specs.Objects.{field_members}
use Rattle.shell_ask.specs.Printing.{fields}
use Rattle.shell_ask.proofs.json_lines.fields_line.Goals as goal

pub returns : goal.returns
returns g c =
    let before : c.put_fields.new.writer.before ≡ [] = search rules in
    let tokens : c.put_fields.new.writer.tokens ≡ begin_object ∷ field_members (fields c.args.stat.now) = search rules in
    IfOk-weaker c.line_of.result _ _ (λ line is. rw (before, tokens) at is) c.line_of.ensures
