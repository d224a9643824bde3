-- The wait is the first row's word, read by `count_of`, in milliseconds; a refusal is told where there is none.
use Rattle.std.proofs.Common.{◌≡◌, ◌∙◌, ap, sym}
use Rattle.std.specs.Option.{option_and_then, option_map}
use Rattle.std.specs.Prelude.{◌*◌}
use Rattle.shell_commands.specs.CommandLine.{wait_at}
use Rattle.shell_commands.proofs.AddressLemmas.{tells}
use Rattle.shell_commands.proofs.ask_words.wait_of.Goals as goal

pub returns-in_default-clause-err : goal.returns-in_default-clause-err
returns-in_default-clause-err c =
    tells _ c.no_command.result c.no_command.ensures (ap (option_and_then wait_at) (sym c.in_default.ensures))

pub returns-in-Some-count_of-clause-ok : goal.returns-in-Some-count_of-clause-ok
returns-in-Some-count_of-clause-ok c =
    ap (option_and_then wait_at) (sym c.in-Some.ensures)
    ∙ ap (option_map (λ seconds. 1000 * seconds)) (sym c.in-Some-count_of.ensures.value)

pub returns-in-None-clause-err : goal.returns-in-None-clause-err
returns-in-None-clause-err c =
    tells _ c.refused.result c.refused.ensures
    (ap (option_and_then wait_at) (sym c.in-Some.ensures) ∙ ap (option_map (λ seconds. 1000 * seconds)) (sym c.in-None.ensures.value))
