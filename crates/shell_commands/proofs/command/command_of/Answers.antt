-- The matches and faults of `clap` are those of `shell_app`, which is simple: the command is found in the rows of the words (`rows_found`),
-- or a fault of `clap` (`told_is_due`) or a refusal (`nothing_is_due`) is due.
use Rattle.std.proofs.Common.{◌≡◌, ◌⊎◌, ◌∙◌, ap, sym, subst, inl, inr, refl, List, map, true}
use Rattle.std.specs.Borrow.{Bor}
use Rattle.std.proofs.lemmas.Result.{IfErr-weaker, IfOk-weaker}
use Rattle.clap.specs.Words.{App, IsAmong, Text, fault_of, kind_of, is_simple_and_free, is_simple, subcommand_of, subcommand_rows_of}
use Rattle.clap.specs.declared.error.kind.ErrorKind.{ErrorKind}
use Rattle.clap.specs.declared.error.kind.ErrorKind.TheVariants as kinds
use Rattle.shell_commands.specs.declared.line_fault.LineFault.{LineFault}
use Rattle.shell_commands.specs.declared.line_fault.LineFault.TheVariants.{Help, Refused, Memory}
use Rattle.shell_commands.specs.CommandLine.{AreKinds, AsksForNone, IsDue, IsFound, shell_app}
use Rattle.shell_commands.specs.inner.CommandLine.{Tells, TellsIf}
use Rattle.shell_commands.proofs.command.command_of.Goals as goal
use Rattle.shell_commands.proofs.command.command_of.Goals.{In-Ok}

-- the program's form is one of which `clap` gives the matches and the faults
simple_and_free : (names : Bor (List (Bor Text))) → is_simple_and_free (shell_app names) ≡ true
simple_and_free names = refl

simple : (names : Bor (List (Bor Text))) → is_simple (shell_app names) ≡ true
simple names = refl

-- what is told of an error of `clap` is due
told_is_due : (words : List Text) (names : Bor (List (Bor Text))) (kind : ErrorKind) (fault : LineFault) → AreKinds names
    → (kind ≡ kinds.OutOfMemory) ⊎ IsAmong kind (fault_of (shell_app names) words) → Tells kind fault → IsDue words fault
told_is_due words names kind (Help text) are (inl memory) (inl told) =
    absurd (let bad : kinds.DisplayHelp ≡ kinds.OutOfMemory = sym told ∙ memory in cc)
told_is_due words names kind (Help text) are (inl memory) (inr told) =
    absurd (let bad : kinds.DisplayVersion ≡ kinds.OutOfMemory = sym told ∙ memory in cc)
told_is_due words names kind (Help text) are (inr among) told = (names, are, (kind, told, among))
told_is_due words names kind (Refused text) are (inl memory) told = absurd (told.2 memory)
told_is_due words names kind (Refused text) are (inr among) told = (names, are, inl (kind, told.0, told.1, among))
told_is_due words names kind Memory are has told = tt

-- where no command is found, a refusal is due
nothing_is_due : (words : List Text) (names : Bor (List (Bor Text))) (fault : LineFault) → AreKinds names
    → TellsIf (AsksForNone (subcommand_of (shell_app names) words)) fault → IsDue words fault
nothing_is_due words names (Help text) are told = absurd told
nothing_is_due words names (Refused text) are told = (names, are, inr told)
nothing_is_due words names Memory are told = tt

pub returns-in-Err-clause-err : goal.returns-in-Err-clause-err
returns-in-Err-clause-err c =
    let form = c.in_ok-shell_form.ensures in
    let words : List Text = map (λ w. w.now) c.args.words.now in
    let kind = kind_of c.in-Err.error in
    let has = c.in-Err.ensures.kinds (ap is_simple_and_free form.2 ∙ simple_and_free form.0) in
    told_is_due words form.0 kind c.told_of.result form.1
    (subst (λ (a : App). (kind ≡ kinds.OutOfMemory) ⊎ IsAmong kind (fault_of a words)) form.2 has) c.told_of.ensures

-- the rows of the matches are what is found of the words
rows_found : (c : In-Ok)
    → subcommand_rows_of c.in-Ok.matches ≡ subcommand_of (shell_app c.in_ok-shell_form.ensures.0) (map (λ w. w.now) c.args.words.now)
rows_found c =
    let form = c.in_ok-shell_form.ensures in
    let words : List Text = map (λ w. w.now) c.args.words.now in
    (c.in-Ok.ensures.matches (ap is_simple form.2 ∙ simple form.0)).1 ∙ ap (λ (a : App). subcommand_of a words) form.2

pub returns-in-Ok-clause-err : goal.returns-in-Ok-clause-err
returns-in-Ok-clause-err c =
    let form = c.in_ok-shell_form.ensures in
    let found = rows_found (goal.at.returns-in-Ok-clause-err c).In-Ok in
    IfErr-weaker c.asked.result _ _ (λ fault told. nothing_is_due (map (λ w. w.now) c.args.words.now) form.0 fault form.1
    (subst (λ rows. TellsIf (AsksForNone rows) fault) found told)) c.asked.ensures.err

pub returns-in-Ok-clause-ok : goal.returns-in-Ok-clause-ok
returns-in-Ok-clause-ok c =
    let form = c.in_ok-shell_form.ensures in
    let found = rows_found (goal.at.returns-in-Ok-clause-ok c).In-Ok in
    IfOk-weaker c.asked.result _ _ (λ command asked. (form.0, form.1, subst (λ rows. IsFound command rows) found asked)) c.asked.ensures.ok
