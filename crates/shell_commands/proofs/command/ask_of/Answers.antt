-- The question has the parts that the words give, by what each function ensures. A refusal is told where there is no node, no servers, no
-- path below the one chroot (`no_node`, `one_chroot`), or no call (`no_call`).
use Rattle.std.proofs.Common.{◌≡◌, ◌∙◌, ℕ, List, [], ap, ap₂, sym, refl, codes, Some, None, unwrap_or}
use Rattle.std.specs.Prelude.{Option, string_bytes}
use Rattle.clap.specs.Words.{Row, Text, first_of, found_of, rows_of}
use Rattle.shell_ask.specs.declared.plan.Form.{Form}
use Rattle.zk_conversation.specs.Calls.{Call}
use Rattle.shell_commands.specs.Asks.{AreServers, absolute, call_for}
use Rattle.shell_commands.specs.CommandLine.{IsAsked, is_below}
use Rattle.shell_commands.specs.declared.verb.Verb.{Verb}
use Rattle.shell_commands.proofs.AddressLemmas.{no_node, one_chroot, tells, tells_on}
use Rattle.shell_commands.proofs.command.ask_of.Goals as goal

-- The call at the node's path is refused, so nothing is asked.
no_call : (verb : Verb) (rows : List Row) (name chroot text path : Text) (addresses : List Text) → first_of (codes "PATH") rows ≡ Some name
    → AreServers addresses chroot rows → text ≡ chroot → path ≡ absolute text name → call_for verb path rows ≡ None
    → (others : List Text) (other called : Text)
    (call : Call) (from : Option Text) (form : Form) (wait_ms : ℕ) → IsAsked verb others other called call from form wait_ms rows → ⊥
no_call verb rows name chroot text path addresses some servers at is none others other called call from form wait_ms asked =
    let same : called ≡ name = ap (λ o. unwrap_or o []) (sym asked.1.given ∙ some) in
    let below : other ≡ text = one_chroot rows others addresses other chroot asked.0 servers ∙ sym at in
    let place : absolute other called ≡ path = ap₂ absolute below same ∙ sym is in
    let bad : None ≡ Some call = sym none ∙ ap (λ (p : Text). call_for verb p rows) (sym place) ∙ asked.2 in
    cc

pub returns-in_default-clause-err : goal.returns-in_default-clause-err
returns-in_default-clause-err c =
    tells _ c.no_command.result c.no_command.ensures
    (λ addresses chroot name call from form wait_ms asked. let bad = c.in_default.ensures ∙ asked.1.given in cc)

pub returns-in_err-addresses-clause-err : goal.returns-in_err-addresses-clause-err
returns-in_err-addresses-clause-err c =
    tells_on _ _ c.from_residual-in_err-addresses.result c.in_err-addresses.field-0.0 c.from_residual-in_err-addresses.ensures.1
    c.in_err-addresses.ensures.err
    (λ none addresses chroot name call from form wait_ms asked. none addresses chroot asked.0)

pub returns-in_err-path-clause-err : goal.returns-in_err-path-clause-err
returns-in_err-path-clause-err c =
    tells_on _ _ c.from_residual-in_err-path.result c.in_err-path.field-0.0 c.from_residual-in_err-path.ensures.1 c.in_err-path.ensures.err
    (λ refused others other called call from form wait_ms asked.
    no_node _ c.in-Some.name.now (string_bytes c.in_ok-addresses.chroot) c.as_str.result.now _ (sym c.in-Some.ensures)
    c.in_ok-addresses.ensures.ok c.as_str.ensures.value refused others other called asked.0 asked.1)

pub returns-in_err-call-clause-err : goal.returns-in_err-call-clause-err
returns-in_err-call-clause-err c =
    tells_on _ _ c.from_residual-in_err-call.result c.in_err-call.field-0.0 c.from_residual-in_err-call.ensures.1 c.in_err-call.ensures.err
    (λ none. no_call c.args.verb (rows_of (found_of c.args.matches.now)) c.in-Some.name.now
    (string_bytes c.in_ok-addresses.chroot) c.as_str.result.now c.in_ok-path.path _ (sym c.in-Some.ensures) c.in_ok-addresses.ensures.ok
    c.as_str.ensures.value c.in_ok-path.ensures.ok none)

pub returns-clause-ok : goal.returns-clause-ok
returns-clause-ok c =
    let rows = rows_of (found_of c.args.matches.now) in
    let name = c.in-Some.name.now in
    let at = c.as_str.ensures.value in
    let place = c.in_ok-path.ensures.ok ∙ ap (λ (t : Text). absolute t name) at in (
      record {
        addresses = c.in_ok-addresses.addresses;
        chroot = c.in_ok-addresses.chroot;
        name = c.in-Some.name;
        call = c.in_ok-call.call;
        from = c.given-2.result;
        form = c.form_for.result;
        wait_ms = c.in_ok-wait_ms.wait_ms;
      },
      refl,
      (
        c.in_ok-addresses.ensures.ok,
        record { given = sym c.in-Some.ensures; is = ap (λ (t : Text). is_below t name) (sym at) ∙ c.in_ok-path.ensures.accepted },
        ap (λ (p : Text). call_for c.args.verb p rows) (sym place) ∙ c.in_ok-call.ensures.ok,
        c.given-2.ensures,
        c.form_for.ensures,
        c.in_ok-wait_ms.ensures.ok,
      ),
    )
