-- What an option's words give is added, by what `add_subjects` ensures of them (`some_given`); an option that was not given adds nothing
-- (`none_given`).
use Rattle.std.proofs.Common.{rules, ◌≡◌, List, [], ap, map, refl, sym, append-nil, Some, None, unwrap_or}
use Rattle.clap.specs.Words.{Row, Text, all_of, found_of, rows_of}
use Rattle.clap.proofs.WalkLemmas.{raw_values-rows}
use Rattle.shell_commands.specs.CommandLine.{given}
use Rattle.shell_watch.specs.Watching.{aims_of}
use Rattle.shell_commands.proofs.watch_words.add_given.Goals as goal

-- the words that the option was given
some_given : (c : goal.After-add_subjects)
    → given c.args.id.now (rows_of (found_of c.args.matches.now)) ≡ map (λ w. w.now) c.in-Some.words.now
some_given c =
    let found = found_of c.args.matches.now in
    let is = raw_values-rows found c.args.id.now in
    let some : all_of c.args.id.now (rows_of found) ≡ Some (map (λ w. w.now) c.in-Some.words.now) = search rules in
    ap (λ o. unwrap_or o []) some

pub returns-in-Some-clause-ok : goal.returns-in-Some-clause-ok
returns-in-Some-clause-ok c = rw (some_given c) c.add_subjects.ensures.ok

pub returns-in-Some-clause-accepted : goal.returns-in-Some-clause-accepted
returns-in-Some-clause-accepted c = rw (some_given c) c.add_subjects.ensures.accepted

pub returns-in-Some-clause-err : goal.returns-in-Some-clause-err
returns-in-Some-clause-err c = rw (some_given c) c.add_subjects.ensures.err

-- an option that was not given has no words
none_given : (id : Text) (rows : List Row) → all_of id rows ≡ None → given id rows ≡ []
none_given id rows none = ap (λ o. unwrap_or o []) none

pub returns-in-None-clause-ok : goal.returns-in-None-clause-ok
returns-in-None-clause-ok c =
    let is = raw_values-rows (found_of c.args.matches.now) c.args.id.now in
    let none : all_of c.args.id.now (rows_of (found_of c.args.matches.now)) ≡ None = search rules in
    rw (none_given _ _ none) (sym (append-nil (aims_of c.args.subjects.now.items)))

pub returns-in-None-clause-accepted : goal.returns-in-None-clause-accepted
returns-in-None-clause-accepted c =
    let is = raw_values-rows (found_of c.args.matches.now) c.args.id.now in
    let none : all_of c.args.id.now (rows_of (found_of c.args.matches.now)) ≡ None = search rules in
    rw (none_given _ _ none) refl
