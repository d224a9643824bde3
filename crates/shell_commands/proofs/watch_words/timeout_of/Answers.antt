-- The timeout is the first row's word, read by `count_of`, and fits in 32 bits (`to_z_pos`); a refusal is told where there is none.
use Rattle.std.proofs.Common.{arith, ◌≡◌, ◌≤◌, ◌∙◌, ap, sym, Some, w32}
use Rattle.std.proofs.lemmas.Int.{to_z_pos}
use Rattle.std.specs.Option.{option_and_then, option_map}
use Rattle.std.specs.Prelude.{pos}
use Rattle.shell_commands.specs.CommandLine.{timeout_at}
use Rattle.shell_commands.proofs.AddressLemmas.{tells}
use Rattle.shell_commands.proofs.watch_words.timeout_of.Goals as goal

pub returns-in_default-clause-err : goal.returns-in_default-clause-err
returns-in_default-clause-err c =
    tells _ c.no_command.result c.no_command.ensures (ap (option_and_then timeout_at) (sym c.in_default.ensures))

pub returns-in-Some-count_of-clause-ok : goal.returns-in-Some-count_of-clause-ok
returns-in-Some-count_of-clause-ok c =
    let read = ap (option_map pos) (sym c.in-Some-count_of.ensures.value) in
    let below : c.in-Some-count_of.ms ≤ 2147483647 = c.in-Some-count_of.ensures.below in
    ap (option_and_then timeout_at) (sym c.in-Some.ensures) ∙ read
    ∙ ap Some (sym (to_z_pos w32 c.in-Some-count_of.ms (omega (arith, below))))

pub returns-in-None-clause-err : goal.returns-in-None-clause-err
returns-in-None-clause-err c =
    tells _ c.refused.result c.refused.ensures
    (ap (option_and_then timeout_at) (sym c.in-Some.ensures) ∙ ap (option_map pos) (sym c.in-None.ensures.value))
