-- The servers and the chroot are the parts of the word that is given, cut at its slash. A refusal is told where there is no word, its hosts
-- are no servers (`no_servers`), or its chroot is no path (`no_root`).
use Rattle.std.proofs.Common.{◌≡◌, ◌∙◌, ◌==◌, List, [], Bool, false, ap, sym, codes, Some, unwrap_or}
use Rattle.std.specs.List.{list_all, slice_split}
use Rattle.std.proofs.lemmas.Bool.{true≢false}
use Rattle.clap.specs.Words.{Row, Text, first_of}
use Rattle.shell_commands.specs.Hosts.{is_named_server}
use Rattle.shell_commands.specs.Asks.{AreServers, chroot_text, cut_at_slash, is_root}
use Rattle.shell_commands.proofs.AddressLemmas.{tells, tells_on}
use Rattle.shell_commands.proofs.ask_words.servers_of.Goals as goal

-- what hosts come to
abbrev hosts_are : Text → Bool
hosts_are hosts = list_all is_named_server (slice_split (λ b. b == 44) hosts)

-- a word whose hosts are no addresses gives no servers
no_servers : (rows : List Row) (word : Text) (parts : Text × Text) → first_of (codes "SERVERS") rows ≡ Some word → parts ≡ cut_at_slash word
    → hosts_are parts.0 ≡ false → (addresses : List Text) (chroot : Text) → AreServers addresses chroot rows → ⊥
no_servers rows word parts given cut refused addresses chroot are =
    let same : word ≡ are.word = ap (λ o. unwrap_or o []) (sym given ∙ are.given) in
    let halves : parts ≡ cut_at_slash are.word = cut ∙ ap cut_at_slash same in
    true≢false (sym are.are.1 ∙ ap (list_all is_named_server) are.are.0 ∙ ap (λ (p : Text × Text). hosts_are p.0) (sym halves) ∙ refused)

-- a word with a chroot that is no path gives no servers
no_root : (rows : List Row) (word : Text) (parts : Text × Text) → first_of (codes "SERVERS") rows ≡ Some word → parts ≡ cut_at_slash word
    → is_root (chroot_text parts.1) ≡ false → (addresses : List Text) (chroot : Text) → AreServers addresses chroot rows → ⊥
no_root rows word parts given cut refused addresses chroot are =
    let same : word ≡ are.word = ap (λ o. unwrap_or o []) (sym given ∙ are.given) in
    let halves : parts ≡ cut_at_slash are.word = cut ∙ ap cut_at_slash same in
    true≢false (sym are.are.3 ∙ ap is_root are.are.2 ∙ ap (λ (p : Text × Text). is_root (chroot_text p.1)) (sym halves) ∙ refused)

pub returns-in_default-clause-err : goal.returns-in_default-clause-err
returns-in_default-clause-err c =
    tells _ c.no_command.result c.no_command.ensures (λ addresses chroot are. let bad = c.in_default.ensures ∙ are.given in cc)

pub returns-in_err-addresses-clause-err : goal.returns-in_err-addresses-clause-err
returns-in_err-addresses-clause-err c =
    let parts : Text × Text = (c.parted.result.0.now, c.parted.result.1.now) in
    tells_on _ _ c.from_residual.result c.in_err-addresses.field-0.0 c.from_residual.ensures.1 c.in_err-addresses.ensures.err
    (λ refused. no_servers _ c.in-Some.word.now parts (sym c.in-Some.ensures) c.parted.ensures refused)

pub returns-in_err-chroot-clause-err : goal.returns-in_err-chroot-clause-err
returns-in_err-chroot-clause-err c =
    let parts : Text × Text = (c.parted.result.0.now, c.parted.result.1.now) in
    tells_on _ _ c.from_residual-in_err-chroot.result c.in_err-chroot.field-0.0 c.from_residual-in_err-chroot.ensures.1
    c.in_err-chroot.ensures.err
    (λ refused. no_root _ c.in-Some.word.now parts (sym c.in-Some.ensures) c.parted.ensures refused)

pub returns-clause-ok : goal.returns-clause-ok
returns-clause-ok c =
    let split = c.in_ok-addresses.ensures.ok in
    record {
      word = c.in-Some.word.now;
      given = sym c.in-Some.ensures;
      are = (
        split ∙ ap (λ (p : Text × Text). slice_split (λ b. b == 44) p.0) c.parted.ensures,
        ap (list_all is_named_server) split ∙ c.in_ok-addresses.ensures.accepted,
        c.in_ok-chroot.ensures.ok ∙ ap (λ (p : Text × Text). chroot_text p.1) c.parted.ensures,
        ap is_root c.in_ok-chroot.ensures.ok ∙ c.in_ok-chroot.ensures.accepted,
      );
    }
