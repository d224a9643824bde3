-- The depth is the first row's number, or `LONGEST_PATH` where none is given; a refusal is told of another word.
use Rattle.std.proofs.Common.{◌≡◌, ◌∙◌, ap, sym}
use Rattle.script_words.specs.Numbers.{natural_of}
use Rattle.shell_commands.specs.Asks.{depth_read}
use Rattle.shell_commands.proofs.AddressLemmas.{tells}
use Rattle.shell_commands.proofs.tree_words.depth_of.Goals as goal

pub returns-in_default-clause-ok : goal.returns-in_default-clause-ok
returns-in_default-clause-ok c = ap depth_read (sym c.in_default.ensures)

pub returns-in-Some-natural_of-clause-ok : goal.returns-in-Some-natural_of-clause-ok
returns-in-Some-natural_of-clause-ok c =
    ap depth_read (sym c.in-Some.ensures) ∙ ap (natural_of 4294967295) (sym c.as_bytes.ensures.value)
    ∙ sym c.in-Some-natural_of.ensures.value

pub returns-in-None-clause-err : goal.returns-in-None-clause-err
returns-in-None-clause-err c =
    tells _ c.refused.result c.refused.ensures
    (ap depth_read (sym c.in-Some.ensures) ∙ ap (natural_of 4294967295) (sym c.as_bytes.ensures.value) ∙ sym c.in-None.ensures.value)
