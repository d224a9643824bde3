-- The tree has the parts that the words give, by what each function ensures. A refusal is told where there is no root, no servers, or no
-- path below the one chroot (`no_node`).
use Rattle.std.proofs.Common.{◌≡◌, ◌∙◌, ap, ap₂, sym, refl, Some}
use Rattle.std.specs.Prelude.{string_bytes}
use Rattle.shell_commands.specs.Asks.{absolute}
use Rattle.shell_commands.specs.CommandLine.{is_below}
use Rattle.shell_commands.proofs.AddressLemmas.{no_node, tells, tells_on}
use Rattle.shell_commands.proofs.tree_words.tree_of.Goals as goal

pub returns-in_default-clause-err : goal.returns-in_default-clause-err
returns-in_default-clause-err c =
    tells _ c.no_command.result c.no_command.ensures
    (λ addresses chroot path name deepest most form wait_ms asked. let bad = c.in_default.ensures ∙ asked.1.given in cc)

pub returns-in_err-addresses-clause-err : goal.returns-in_err-addresses-clause-err
returns-in_err-addresses-clause-err c =
    tells_on _ _ c.from_residual-in_err-addresses.result c.in_err-addresses.field-0.0 c.from_residual-in_err-addresses.ensures.1
    c.in_err-addresses.ensures.err
    (λ none addresses chroot path name deepest most form wait_ms asked. none addresses chroot asked.0)

pub returns-in_err-path-clause-err : goal.returns-in_err-path-clause-err
returns-in_err-path-clause-err c =
    tells_on _ _ c.from_residual-in_err-path.result c.in_err-path.field-0.0 c.from_residual-in_err-path.ensures.1 c.in_err-path.ensures.err
    (λ refused others other path name deepest most form wait_ms asked.
    no_node _ c.in-Some.word.now (string_bytes c.in_ok-addresses.chroot) c.as_str.result.now _ (sym c.in-Some.ensures)
    c.in_ok-addresses.ensures.ok c.as_str.ensures.value refused others other name asked.0 asked.1)

pub returns-clause-ok : goal.returns-clause-ok
returns-clause-ok c =
    let at = c.as_str.ensures.value in
    let name = c.in_ok-path.ensures.ok.1 in (
      record {
        addresses = c.in_ok-addresses.addresses;
        path = c.in_ok-path.path;
        name = c.in_ok-path.name;
        deepest = c.in_ok-deepest.deepest;
        most = c.in_ok-most.most;
        form = c.form_or_json.result;
        wait_ms = c.in_ok-wait_ms.wait_ms;
      },
      refl,
      (
        string_bytes c.in_ok-addresses.chroot,
        (
          c.in_ok-addresses.ensures.ok,
          record { given = sym c.in-Some.ensures ∙ ap Some (sym name); is = ap₂ is_below (sym at) name ∙ c.in_ok-path.ensures.accepted },
          c.in_ok-path.ensures.ok.0 ∙ ap₂ absolute at (sym name),
          c.in_ok-deepest.ensures.ok,
          c.in_ok-most.ensures.ok,
          c.form_or_json.ensures,
          c.in_ok-wait_ms.ensures.ok,
        ),
      ),
    )
