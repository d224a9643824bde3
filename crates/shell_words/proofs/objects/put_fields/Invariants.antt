-- Loop over the fields: the tokens so far and the members of those left are all tokens. With none left all are written.
use Rattle.std.proofs.Common.{◌≡◌, ◌++◌, drop, map}
use Rattle.shell_words.specs.Objects.{field_members}
use Rattle.shell_words.proofs.objects.put_fields.Given as goal

-- what is written, and the members of the fields that are left, are all that was to be written
abbrev pub invariant-loop-name : goal.invariant-loop-name
invariant-loop-name g l =
    (l.writer.before ≡ l.initial.writer.before)
    × (l.writer.tokens ++ field_members (map (λ field. (field.0.now, field.1)) (drop l.name-index l.fields))
    ≡ l.initial.writer.tokens ++ field_members (map (λ field. (field.0.now, field.1)) l.fields))
