-- The version is the first row's number, which fits in 32 bits (`to_z_pos`), or -1 where none is given; a refusal is told of another word.
use Rattle.std.proofs.Common.{arith, ◌≡◌, ◌≤◌, ◌∙◌, ap, sym, Some, w32}
use Rattle.std.proofs.lemmas.Int.{to_z_pos}
use Rattle.std.specs.Option.{option_map}
use Rattle.std.specs.Prelude.{pos}
use Rattle.script_words.specs.Numbers.{natural_of}
use Rattle.shell_commands.specs.Asks.{version_read}
use Rattle.shell_commands.proofs.AddressLemmas.{tells}
use Rattle.shell_commands.proofs.data_words.version_of.Goals as goal

pub returns-in_default-clause-ok : goal.returns-in_default-clause-ok
returns-in_default-clause-ok c = ap version_read (sym c.in_default.ensures)

pub returns-in-Some-natural_of-clause-ok : goal.returns-in-Some-natural_of-clause-ok
returns-in-Some-natural_of-clause-ok c =
    let number = ap (natural_of 2147483647) (sym c.as_bytes.ensures.value) ∙ sym c.in-Some-natural_of.ensures.value in
    let below : c.in-Some-natural_of.version ≤ 2147483647 = c.in-Some-natural_of.ensures.below in
    ap version_read (sym c.in-Some.ensures) ∙ ap (option_map pos) number
    ∙ ap Some (sym (to_z_pos w32 c.in-Some-natural_of.version (omega (arith, below))))

pub returns-in-None-clause-err : goal.returns-in-None-clause-err
returns-in-None-clause-err c =
    let number = ap (natural_of 2147483647) (sym c.as_bytes.ensures.value) ∙ sym c.in-None.ensures.value in
    tells _ c.refused.result c.refused.ensures (ap version_read (sym c.in-Some.ensures) ∙ ap (option_map pos) number)
