-- All words between the commas are servers where none is a stranger (`each_is`), and not all are where one is (`one_is_not`).
use Rattle.std.proofs.Common.{rules, ◌≡◌, Bool, true, false, refl, sym, ◌∙◌, ap, map}
use Rattle.std.specs.List.{list_all}
use Rattle.shell_commands.specs.Hosts.{is_named_server}
use Rattle.shell_commands.proofs.AddressLemmas.{each_is, one_is_not, tells}
use Rattle.shell_commands.proofs.ask_words.hosts_of.Goals as goal

not_true : (b : Bool) → (b ≡ true → ⊥) → b ≡ false
not_true true h = absurd (h refl)
not_true false h = refl

pub returns-in-Some-clause-err : goal.returns-in-Some-clause-err
returns-in-Some-clause-err c =
    let words = c.in_ok-addresses.addresses.items in
    let other = one_is_not is_named_server words c.in-Some.word (search rules) in
    tells _ c.refused.result c.refused.ensures (rw (← c.in_ok-addresses.ensures) (not_true _ other))

pub returns-clause-accepted : goal.returns-clause-accepted
returns-clause-accepted c =
    rw (← c.in_ok-addresses.ensures) (each_is is_named_server c.in_ok-addresses.addresses.items (search rules))
