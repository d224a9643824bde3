-- The roots are the paths of the option's words, by what `paths_of` ensures (`some_given`), or none (`none_given`); where one is refused,
-- there are no roots.
use Rattle.std.proofs.Common.{rules, ◌≡◌, ◌∙◌, List, [], ap, map, refl, sym, Some, None, unwrap_or, codes, true, false}
use Rattle.std.specs.Prelude.{Result, Ok, Err, IfErr, IfOk, OnOk}
use Rattle.std.specs.List.{list_all}
use Rattle.std.proofs.lemmas.Bool.{true≢false}
use Rattle.clap.specs.Words.{Row, Text, all_of, found_of, rows_of}
use Rattle.clap.proofs.WalkLemmas.{raw_values-rows}
use Rattle.shell_commands.specs.declared.line_fault.LineFault.{LineFault}
use Rattle.shell_commands.specs.CommandLine.{given, is_below, AreRoots}
use Rattle.shell_commands.specs.inner.CommandLine.{TellsIf}
use Rattle.shell_commands.proofs.AddressLemmas.{tells_more}
use Rattle.shell_commands.proofs.watch_words.trees_of.Goals as goal

-- the words that the option was given
some_given : (c : goal.After-paths_of) → given (codes "tree") (rows_of (found_of c.args.matches.now)) ≡ map (λ w. w.now) c.in-Some.words.now
some_given c =
    let found = found_of c.args.matches.now in
    let is = raw_values-rows found (codes "tree") in
    let some : all_of (codes "tree") (rows_of found) ≡ Some (map (λ w. w.now) c.in-Some.words.now) = search rules in
    ap (λ o. unwrap_or o []) some

both_ok : {T E : Type 0} (r : Result T E) (P : T → Type 0) (Q : Type 0) → IfOk r P → OnOk r Q → IfOk r (λ x. P x × Q)
both_ok (Ok x) P Q p q = (p, q)
both_ok (Err e) P Q p q = tt

err_more : {T : Type 0} (r : Result T LineFault) (why other : Type 0) → (why → other) → IfErr r (TellsIf why) → IfErr r (TellsIf other)
err_more (Ok x) why other so told = tt
err_more (Err e) why other so told = tells_more why other e so told

pub returns-in-Some-clause-ok : goal.returns-in-Some-clause-ok
returns-in-Some-clause-ok c = rw (some_given c) (both_ok c.paths_of.result _ _ c.paths_of.ensures.ok c.paths_of.ensures.accepted)

pub returns-in-Some-clause-err : goal.returns-in-Some-clause-err
returns-in-Some-clause-err c =
    err_more c.paths_of.result (list_all (is_below c.args.chroot.now) (map (λ w. w.now) c.in-Some.words.now) ≡ false) _
    (λ bad roots are. true≢false (sym are.1 ∙ ap (list_all (is_below c.args.chroot.now)) (some_given c) ∙ bad)) c.paths_of.ensures.err

-- an option that was not given has no words
none_given : (id : Text) (rows : List Row) → all_of id rows ≡ None → given id rows ≡ []
none_given id rows none = ap (λ o. unwrap_or o []) none

pub returns-in-None-clause-ok : goal.returns-in-None-clause-ok
returns-in-None-clause-ok c =
    let is = raw_values-rows (found_of c.args.matches.now) (codes "tree") in
    let none : all_of (codes "tree") (rows_of (found_of c.args.matches.now)) ≡ None = search rules in
    rw (none_given _ _ none, c.new.ensures.items) (refl, refl)
