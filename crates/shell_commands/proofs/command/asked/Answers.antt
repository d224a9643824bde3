-- The matches of `show` give its command. Where `show`, `watch`, `tree` or a verb lacks what it is to be given, no command is asked for
-- (`without_values`, `without_watch`, `without_tree`, `without_ask`), as no other command has that name (`apart`).
use Rattle.std.proofs.Common.{rules, ◌≡◌, ◌∙◌, ℕ, ℤ, List, [], false, map, refl, sym, subst, ap, codes, Some, None, Option}
use Rattle.std.specs.Prelude.{bytes_eq, option_map, string_bytes}
use Rattle.std.proofs.lemmas.Bool.{true≢false}
use Rattle.std.proofs.lemmas.Slice.Eq.{bytes_eq-Decides}
use Rattle.std.proofs.lemmas.Result.{IfErr-weaker}
use Rattle.clap.specs.Words.{found_of, first_of, rows_of, subcommand_rows_of, Text, Row}
use Rattle.clap.proofs.WalkLemmas.{first_value-rows}
use Rattle.shell_commands.specs.declared.command.Command.{Command}
use Rattle.shell_commands.specs.declared.command.Command.TheVariants.{Show, History, Replay, Rehearse, Live, Watch, Ask, Tree}
use Rattle.shell_commands.specs.declared.kind.FrameKind.{FrameKind}
use Rattle.shell_commands.specs.Kinds.{kind_word}
use Rattle.shell_commands.specs.CommandLine.{AreAddresses, AsksForNone, AsksQuestion, AsksTour, IsAsked, IsTree, IsFound, IsWatch, Sights}
use Rattle.shell_commands.specs.CommandLine.{sights_of}
use Rattle.shell_ask.specs.declared.plan.Form.{Form}
use Rattle.zk_conversation.specs.Calls.{Call}
use Rattle.zk_conversation.specs.Views.{call_view}
use Rattle.shell_commands.specs.Asks.{verb_word}
use Rattle.shell_commands.specs.declared.verb.Verb.{Verb}
use Rattle.shell_commands.proofs.VerbLemmas.{is_new, same_verb}
use Rattle.shell_watch.specs.declared.plan.Style.{Style}
use Rattle.zk_nodes.specs.declared.side.Side.{Side}
use Rattle.shell_commands.proofs.AddressLemmas.{tells, tells_more}
use Rattle.shell_commands.proofs.command.asked.Goals as goal

abbrev name_in : Option (Text × List Row) → Text
name_in None = []
name_in (Some p) = p.0

abbrev rows_in : Option (Text × List Row) → List Row
rows_in None = []
rows_in (Some p) = p.1

-- two names that differ are not found at once
apart : {found : Option (Text × List Row)} {name other : Text} {rows others : List Row} → found ≡ Some (name, rows)
    → found ≡ Some (other, others) → bytes_eq name other ≡ false → ⊥
apart {name = name} {other = other} one two differ =
    true≢false (sym ((bytes_eq-Decides name other).1 (ap name_in (sym one ∙ two))) ∙ differ)

-- where `show` was found without its two values, the words ask for no command
without_values : (found : Option (Text × List Row)) (rows : List Row) → found ≡ Some (codes "show", rows)
    → ((kind : FrameKind) (hex : Text) → first_of (codes "KIND") rows ≡ Some (kind_word kind) → first_of (codes "HEX") rows ≡ Some hex → ⊥)
    → AsksForNone found
without_values found rows is absent (Show kind hex) f =
    let same : rows ≡ f.0 = ap rows_in (sym is ∙ f.1) in
    absent kind hex.now (rw same f.2) (rw same f.3)
without_values found rows is absent History f = apart is f.1 refl
without_values found rows is absent Replay f = apart is f.1 refl
without_values found rows is absent Rehearse f = apart is f.1 refl
without_values found rows is absent (Live addresses) f = apart is f.1 refl
without_values found rows is absent (Watch addresses scope timeout_ms for_ms style) f = apart is f.1 refl
without_values found rows is absent (Tree tour) f = apart is f.1 refl
without_values found rows is absent (Ask question) f = apart f.2 is (is_new f.0).shows

-- where `live` was found without words that are addresses, the words ask for no command
without_addresses : (found : Option (Text × List Row)) (rows : List Row) → found ≡ Some (codes "live", rows)
    → ((words : List Text) → AreAddresses words rows → ⊥) → AsksForNone found
without_addresses found rows is absent (Show kind hex) f = apart is f.1 refl
without_addresses found rows is absent History f = apart is f.1 refl
without_addresses found rows is absent Replay f = apart is f.1 refl
without_addresses found rows is absent Rehearse f = apart is f.1 refl
without_addresses found rows is absent (Live addresses) f =
    let same : rows ≡ f.0 = ap rows_in (sym is ∙ f.1) in
    absent (map (λ a. a.now) addresses.items) (rw same f.2)
without_addresses found rows is absent (Watch addresses scope timeout_ms for_ms style) f = apart is f.1 refl
without_addresses found rows is absent (Tree tour) f = apart is f.1 refl
without_addresses found rows is absent (Ask question) f = apart f.2 is (is_new f.0).lives

-- where `watch` was found without what it is to be given, the words ask for no command
without_watch : (found : Option (Text × List Row)) (rows : List Row) → found ≡ Some (codes "watch", rows)
    → ((addresses : List Text) (chroot : Text) (sights : Sights) (timeout_ms : ℤ) (for_ms : Option ℕ) (style : Style)
    → IsWatch addresses chroot sights timeout_ms for_ms style rows → ⊥)
    → AsksForNone found
without_watch found rows is absent (Show kind hex) f = apart is f.1 refl
without_watch found rows is absent History f = apart is f.1 refl
without_watch found rows is absent Replay f = apart is f.1 refl
without_watch found rows is absent Rehearse f = apart is f.1 refl
without_watch found rows is absent (Live addresses) f = apart is f.1 refl
without_watch found rows is absent (Watch addresses scope timeout_ms for_ms style) f =
    let same : rows ≡ f.0 = ap rows_in (sym is ∙ f.1) in
    absent (map (λ a. a.now) addresses.items) f.2 (sights_of scope) timeout_ms for_ms style (rw same f.3)
without_watch found rows is absent (Tree tour) f = apart is f.1 refl
without_watch found rows is absent (Ask question) f = apart f.2 is (is_new f.0).watches

-- where `tree` was found without what it is to be given, the words ask for no command
without_tree : (found : Option (Text × List Row)) (rows : List Row) → found ≡ Some (codes "tree", rows)
    → ((addresses : List Text) (chroot path name : Text) (deepest most : ℕ) (form : Form) (wait_ms : ℕ)
    → IsTree addresses chroot path name deepest most form wait_ms rows → ⊥) → AsksForNone found
without_tree found rows is absent (Show kind hex) f = apart is f.1 refl
without_tree found rows is absent History f = apart is f.1 refl
without_tree found rows is absent Replay f = apart is f.1 refl
without_tree found rows is absent Rehearse f = apart is f.1 refl
without_tree found rows is absent (Live addresses) f = apart is f.1 refl
without_tree found rows is absent (Watch addresses scope timeout_ms for_ms style) f = apart is f.1 refl
without_tree found rows is absent (Tree tour) f =
    let same : f.0 ≡ rows = ap rows_in (sym f.1 ∙ is) in
    let its = subst (λ (r : List Row). AsksTour tour r) same f.2 in
    absent (map (λ a. a.now) tour.addresses.items) its.0 tour.path tour.name tour.deepest tour.most tour.form tour.wait_ms its.1
without_tree found rows is absent (Ask question) f = apart f.2 is (is_new f.0).tours

-- where a verb was found without what it is to be given, the words ask for no command
without_ask : (verb : Verb) (found : Option (Text × List Row)) (rows : List Row) → found ≡ Some (verb_word verb, rows)
    → ((addresses : List Text) (chroot name : Text) (call : Call) (from : Option Text) (form : Form) (wait_ms : ℕ)
    → IsAsked verb addresses chroot name call from form wait_ms rows → ⊥)
    → AsksForNone found
without_ask verb found rows is absent (Show kind hex) f = apart is f.1 (is_new verb).shows
without_ask verb found rows is absent History f = apart is f.1 (is_new verb).tells
without_ask verb found rows is absent Replay f = apart is f.1 (is_new verb).replays
without_ask verb found rows is absent Rehearse f = apart is f.1 (is_new verb).rehearses
without_ask verb found rows is absent (Live addresses) f = apart is f.1 (is_new verb).lives
without_ask verb found rows is absent (Watch addresses scope timeout_ms for_ms style) f = apart is f.1 (is_new verb).watches
without_ask verb found rows is absent (Tree tour) f = apart is f.1 (is_new verb).tours
without_ask verb found rows is absent (Ask question) f =
    let its : f.0 ≡ verb = same_verb f.0 verb (ap name_in (sym f.2 ∙ is)) in
    let same : f.1 ≡ rows = ap rows_in (sym f.2 ∙ is) in
    absent (map (λ a. a.now) question.addresses.items) (string_bytes question.chroot) question.name.now (call_view question.call)
    (option_map (λ f. f.now) question.from) question.form question.wait_ms
    (subst (λ (v : Verb). AsksQuestion v question rows) its (subst (λ (r : List Row). AsksQuestion f.0 question r) same f.3))

pub returns-in-Some-show_of-clause-ok : goal.returns-in-Some-show_of-clause-ok
returns-in-Some-show_of-clause-ok c =
    let found = found_of c.in-Some-show-default.inner.now in
    let is : subcommand_rows_of c.args.matches.now ≡ Some (codes "show", rows_of found) = search rules in
    let h = c.in-Some-show_of.ensures.some in
    subst (λ (x : Command). IsFound x (subcommand_rows_of c.args.matches.now)) (sym h.2)
    (rows_of found, is, sym (first_value-rows found (codes "KIND")) ∙ h.3, sym (first_value-rows found (codes "HEX")) ∙ h.4)

pub returns-in-None-show_of-clause-err : goal.returns-in-None-show_of-clause-err
returns-in-None-show_of-clause-err c =
    let found = found_of c.in-Some-show-default.inner.now in
    let is : subcommand_rows_of c.args.matches.now ≡ Some (codes "show", rows_of found) = search rules in
    let absent = c.in-None-show_of.ensures.none in
    tells _ c.no_command.result c.no_command.ensures
    (without_values _ (rows_of found) is (λ k h first second.
    absent k h (first_value-rows found (codes "KIND") ∙ first) (first_value-rows found (codes "HEX") ∙ second)))

pub returns-in-Some-watch-default-clause-err : goal.returns-in-Some-watch-default-clause-err
returns-in-Some-watch-default-clause-err c =
    let found = found_of c.in-Some-watch-default.inner.now in
    let is : subcommand_rows_of c.args.matches.now ≡ Some (codes "watch", rows_of found) = search rules in
    IfErr-weaker c.watch_of.result _ _ (λ fault told. tells_more _ _ fault (without_watch _ (rows_of found) is) told) c.watch_of.ensures.err

pub returns-in-Some-named-clause-err : goal.returns-in-Some-named-clause-err
returns-in-Some-named-clause-err c =
    let found = found_of c.in-Some.inner.now in
    let named : subcommand_rows_of c.args.matches.now ≡ Some (c.in-Some.word.now, rows_of found) = search rules in
    let is = named ∙ ap (λ (w : Text). Some (w, rows_of found)) c.in-Some-named.ensures.some in
    IfErr-weaker c.ask_of.result _ _
    (λ fault told. tells_more _ _ fault (without_ask c.in-Some-named.verb _ (rows_of found) is) told) c.ask_of.ensures.err

pub returns-in-Some-tree-default-clause-err : goal.returns-in-Some-tree-default-clause-err
returns-in-Some-tree-default-clause-err c =
    let found = found_of c.in-Some-tree-default.inner.now in
    let is : subcommand_rows_of c.args.matches.now ≡ Some (codes "tree", rows_of found) = search rules in
    IfErr-weaker c.tree_of.result _ _ (λ fault told. tells_more _ _ fault (without_tree _ (rows_of found) is) told) c.tree_of.ensures.err
