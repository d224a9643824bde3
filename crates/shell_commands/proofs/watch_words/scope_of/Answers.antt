-- What is watched is what the words give, as each function ensures of its part; where a part is refused, a refusal is told (`tells_on`).
use Rattle.std.proofs.Common.{◌≡◌, ◌∙◌, sym}
use Rattle.shell_commands.proofs.AddressLemmas.{tells_on}
use Rattle.shell_commands.proofs.watch_words.scope_of.Goals as goal

pub returns-in_err-most-clause-err : goal.returns-in_err-most-clause-err
returns-in_err-most-clause-err c =
    tells_on _ _ c.from_residual.result c.in_err-most.field-0.0 c.from_residual.ensures.1 c.in_err-most.ensures.err
    (λ none sights are. let bad = sym none ∙ are.2 in cc)

pub returns-in_err-subjects-clause-err : goal.returns-in_err-subjects-clause-err
returns-in_err-subjects-clause-err c =
    tells_on _ _ c.from_residual-in_err-subjects.result c.in_err-subjects.field-0.0 c.from_residual-in_err-subjects.ensures.1
    c.in_err-subjects.ensures.err
    (λ none sights are. none sights.aims are.0)

pub returns-in_err-trees-clause-err : goal.returns-in_err-trees-clause-err
returns-in_err-trees-clause-err c =
    tells_on _ _ c.from_residual-in_err-trees.result c.in_err-trees.field-0.0 c.from_residual-in_err-trees.ensures.1
    c.in_err-trees.ensures.err
    (λ none sights are. none sights.roots are.1)

pub returns-clause-ok : goal.returns-clause-ok
returns-clause-ok c = (c.in_ok-subjects.ensures.ok, c.in_ok-trees.ensures.ok, c.in_ok-most.ensures.ok)
