-- The watch has the parts that the words give, by what each function ensures; its timeout fits in 32 bits. A refusal is told where there
-- are no servers, or no sights below the one chroot (`no_sights`, `one_chroot`).
use Rattle.std.proofs.Common.{rules, ◌≡◌, ◌∙◌, ℕ, ℤ, List, Option, refl, subst, sym, to_z, of_z, w32}
use Rattle.std.specs.Prelude.{string_bytes}
use Rattle.clap.specs.Words.{Row, Text, found_of, rows_of}
use Rattle.shell_watch.specs.declared.plan.Style.{Style}
use Rattle.shell_commands.specs.Asks.{AreServers}
use Rattle.shell_commands.specs.CommandLine.{AreSights, IsWatch, Sights}
use Rattle.shell_commands.proofs.AddressLemmas.{one_chroot, tells_on}
use Rattle.shell_commands.proofs.command.watch_of.Goals as goal

-- What is to be watched is refused below the chroot, so no watch is asked for.
no_sights : (rows : List Row) (chroot text : Text) (addresses : List Text) → AreServers addresses chroot rows → text ≡ chroot
    → ((sights : Sights) → AreSights text sights rows → ⊥) → (others : List Text) (other : Text) (sights : Sights) (timeout_ms : ℤ)
    (for_ms : Option ℕ) (style : Style) → IsWatch others other sights timeout_ms for_ms style rows → ⊥
no_sights rows chroot text addresses servers at none others other sights timeout_ms for_ms style watched =
    let below : other ≡ text = one_chroot rows others addresses other chroot watched.0 servers ∙ sym at in
    none sights (subst (λ (t : Text). AreSights t sights rows) below watched.1)

pub returns-in_err-addresses-clause-err : goal.returns-in_err-addresses-clause-err
returns-in_err-addresses-clause-err c =
    tells_on _ _ c.from_residual-in_err-addresses.result c.in_err-addresses.field-0.0 c.from_residual-in_err-addresses.ensures.1
    c.in_err-addresses.ensures.err
    (λ none addresses chroot sights timeout_ms for_ms style watched. none addresses chroot watched.0)

pub returns-in_err-scope-clause-err : goal.returns-in_err-scope-clause-err
returns-in_err-scope-clause-err c =
    tells_on _ _ c.from_residual-in_err-scope.result c.in_err-scope.field-0.0 c.from_residual-in_err-scope.ensures.1
    c.in_err-scope.ensures.err
    (no_sights (rows_of (found_of c.args.matches.now))
    (string_bytes c.in_ok-addresses.chroot) c.as_str.result.now _ c.in_ok-addresses.ensures.ok
    c.as_str.ensures.value)

pub returns-clause-ok : goal.returns-clause-ok
returns-clause-ok c =
    let ms = c.in_ok-timeout_ms.timeout_ms in
    let same : to_z w32 (of_z w32 ms) ≡ ms = search rules in (
      c.in_ok-addresses.addresses,
      c.in_ok-scope.scope,
      to_z w32 (of_z w32 ms),
      c.in_ok-for_ms.for_ms,
      c.style_of.result,
      refl,
      string_bytes c.in_ok-addresses.chroot,
      (
        c.in_ok-addresses.ensures.ok,
        rw c.as_str.ensures.value at c.in_ok-scope.ensures.ok,
        rw same c.in_ok-timeout_ms.ensures.ok,
        c.in_ok-for_ms.ensures.ok,
        c.style_of.ensures,
      ),
    )
