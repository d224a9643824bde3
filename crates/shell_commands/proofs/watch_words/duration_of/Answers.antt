-- The duration is the first row's word, read by `count_of`, in milliseconds, or none without a word; a refusal is told of another word.
use Rattle.std.proofs.Common.{◌≡◌, ◌∙◌, ◌*◌, ap, sym, Some}
use Rattle.std.specs.Option.{option_map}
use Rattle.shell_commands.specs.CommandLine.{duration_read}
use Rattle.shell_commands.proofs.AddressLemmas.{tells}
use Rattle.shell_commands.proofs.watch_words.duration_of.Goals as goal

pub returns-in_default-clause-ok : goal.returns-in_default-clause-ok
returns-in_default-clause-ok c = ap duration_read (sym c.in_default.ensures)

pub returns-in-Some-count_of-clause-ok : goal.returns-in-Some-count_of-clause-ok
returns-in-Some-count_of-clause-ok c =
    ap duration_read (sym c.in-Some.ensures) ∙ ap (option_map (λ seconds. Some (1000 * seconds))) (sym c.in-Some-count_of.ensures.value)

pub returns-in-None-clause-err : goal.returns-in-None-clause-err
returns-in-None-clause-err c =
    tells _ c.refused.result c.refused.ensures
    (ap duration_read (sym c.in-Some.ensures) ∙ ap (option_map (λ seconds. Some (1000 * seconds))) (sym c.in-None.ensures.value))
