-- Whether each word is admitted, and what is told where the words ask for nothing: by induction on the words, up to the first stranger.
use Rattle.std.proofs.Common.{◌≡◌, ◌≢◌, ◌∙◌, Bool, true, false, List, [], ◌∷◌, Option, Some, None, ap, ap₂, codes, refl, sym, subst}
use Rattle.std.proofs.Common.{map, unwrap_or}
use Rattle.std.specs.Prelude.{not, find, ◌&&◌, cond, Result, Ok, Err, IfErr, IsErrAnd}
use Rattle.std.specs.Borrow.{Bor}
use Rattle.std.specs.List.{list_all}
use Rattle.std.proofs.lemmas.Bool.{true≢false}
use Rattle.clap.specs.Words.{Row, Text, first_of}
use Rattle.shell_commands.specs.Asks.{AreServers, chroot_text, cut_at_slash}
use Rattle.shell_commands.specs.CommandLine.{IsNode, is_below}
use Rattle.shell_commands.specs.declared.line_fault.LineFault.{LineFault}
use Rattle.shell_commands.specs.declared.line_fault.LineFault.TheVariants.{Help, Refused, Memory}
use Rattle.shell_commands.specs.inner.CommandLine.{IsNoHelp, TellsIf}

-- the first word that is none of those that this admits
abbrev pub stranger : (Text → Bool) → List (Bor Text) → Option (Bor Text)
stranger admits words = find (λ w. not (admits w.now)) words

abbrev pub are_all : (Text → Bool) → List (Bor Text) → Bool
are_all admits words = list_all admits (map (λ w. w.now) words)

-- where there is none, each is admitted
pub each_is : (admits : Text → Bool) (words : List (Bor Text)) → stranger admits words ≡ None → are_all admits words ≡ true
each_is admits [] none = refl
each_is admits (word ∷ words) none = go (admits word.now) (each_is admits words) none
  where
    go : (b : Bool) → (stranger admits words ≡ None → are_all admits words ≡ true) → cond (not b) (Some word) (stranger admits words) ≡ None
        → (b && are_all admits words) ≡ true
    go true rest e = rest e
    go false rest e = cc

-- where there is one, they are not
pub one_is_not : (admits : Text → Bool) (words : List (Bor Text)) (other : Bor Text)
    → stranger admits words ≡ Some other → are_all admits words ≢ true
one_is_not admits [] other some = λ _. cc
one_is_not admits (word ∷ words) other some = go (admits word.now) (one_is_not admits words other) some
  where
    go : (b : Bool) → (stranger admits words ≡ Some other → are_all admits words ≢ true)
        → cond (not b) (Some word) (stranger admits words) ≡ Some other → (b && are_all admits words) ≢ true
    go true rest e = rest e
    go false rest e = λ same. cc

-- a refusal may be told where this holds
pub tells : (why : Type 0) (fault : LineFault) → IsNoHelp fault → why → TellsIf why fault
tells why (Help text) none holds = absurd none
tells why (Refused text) none holds = holds
tells why Memory none holds = tt

-- a refusal may be told where something holds that this follows from
pub tells_more : (why other : Type 0) (fault : LineFault) → (why → other) → TellsIf why fault → TellsIf other fault
tells_more why other (Help text) so told = absurd told
tells_more why other (Refused text) so told = so told
tells_more why other Memory so told = tt

-- a refusal that is handed on may be told where something holds that this follows from
pub tells_on : {T : Type 0} (why other : Type 0) (r : Result T LineFault) (fault : LineFault)
    → IsErrAnd r (λ e. e ≡ fault) → TellsIf why fault
    → (why → other) → IfErr r (TellsIf other)
tells_on why other (Ok x) fault is told so = tt
tells_on why other (Err e) fault is told so = subst (λ (f : LineFault). TellsIf other f) (sym is) (tells_more why other fault so told)

-- what was given has one chroot
pub one_chroot : (rows : List Row) (addresses others : List Text) (chroot other : Text)
    → AreServers addresses chroot rows → AreServers others other rows → chroot ≡ other
one_chroot rows addresses others chroot other one two =
    let same : one.word ≡ two.word = ap (λ o. unwrap_or o []) (sym one.given ∙ two.given) in
    one.are.2 ∙ ap (λ (w : Text). chroot_text (cut_at_slash w).1) same ∙ sym two.are.2

-- where the path of the node that is named is refused, no node below the chroot that was given is
pub no_node : (rows : List Row) (word chroot text : Text) (addresses : List Text)
    → first_of (codes "PATH") rows ≡ Some word → AreServers addresses chroot rows → text ≡ chroot → is_below text word ≡ false
    → (others : List Text) (other name : Text) → AreServers others other rows → IsNode other name rows → ⊥
no_node rows word chroot text addresses some servers at refused others other name are node =
    let same : name ≡ word = ap (λ o. unwrap_or o []) (sym node.given ∙ some) in
    let below : other ≡ text = one_chroot rows others addresses other chroot are servers ∙ sym at in
    true≢false (sym node.is ∙ ap₂ is_below below same ∙ refused)
