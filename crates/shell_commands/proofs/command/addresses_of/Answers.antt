-- The words are addresses where none is a stranger (`each_is`); a refusal is told where none is given or one is no address (`one_is_not`).
use Rattle.std.proofs.Common.{rules, ◌≡◌, ◌∙◌, List, map, Some, None, Option}
use Rattle.std.specs.Prelude.{option_map, codes}
use Rattle.std.specs.Borrow.{Bor}
use Rattle.clap.specs.Words.{Text, all_of, found_of, rows_of}
use Rattle.clap.proofs.WalkLemmas.{raw_values-rows}
use Rattle.script_live.specs.Addresses.{is_address}
use Rattle.shell_commands.proofs.AddressLemmas.{each_is, one_is_not, tells}
use Rattle.shell_commands.proofs.command.addresses_of.Goals as goal

abbrev given : Option (Bor (List (Bor Text))) → Option (List Text)
given words = option_map (λ s. map (λ v. v.now) s.now) words

pub returns-in_default-clause-err : goal.returns-in_default-clause-err
returns-in_default-clause-err c =
    let found = found_of c.args.matches.now in
    let is = raw_values-rows found (codes "ADDRESS") in
    let none : None ≡ all_of (codes "ADDRESS") (rows_of found) = search rules in
    tells _ c.no_command.result c.no_command.ensures (λ words are. let bad = none ∙ are.0 in cc)

pub returns-in-Some-stranger-clause-err : goal.returns-in-Some-stranger-clause-err
returns-in-Some-stranger-clause-err c =
    let found = found_of c.args.matches.now in
    let is = raw_values-rows found (codes "ADDRESS") in
    let words = c.in-Some.words.now in
    let some : Some (map (λ v. v.now) words) ≡ all_of (codes "ADDRESS") (rows_of found) = search rules in
    let other = one_is_not is_address words c.in-Some-stranger.word (search rules) in
    tells _ c.refused.result c.refused.ensures (λ given are.
    let same : map (λ v. v.now) words ≡ given = search rules in other (rw same are.1))

pub returns-clause-ok : goal.returns-clause-ok
returns-clause-ok c =
    let found = found_of c.args.matches.now in
    let is = raw_values-rows found (codes "ADDRESS") in
    let words = c.in-Some.words.now in
    let some : all_of (codes "ADDRESS") (rows_of found) ≡ Some (map (λ v. v.now) words) = search rules in
    let each = each_is is_address words (search rules) in
    (rw c.in_ok-addresses.ensures.items some, rw c.in_ok-addresses.ensures.items each)
