-- A look tells that a missing node does not exist; else it is the line of what is kept, without its end, by what `words_of` ensures.
use Rattle.std.proofs.Common.{◌∙◌, ◌++◌, ◌∷◌, [], ℕ, List, sym, subst}
use Rattle.std.proofs.lemmas.Result.{IfOk-weaker}
use Rattle.zk_client.specs.Clients.{view_of}
use Rattle.script_replay.specs.ClientLines.{PeekLine}
use Rattle.script_replay.specs.Played.{DoesClient}
use Rattle.shell_watch.proofs.looks.look.Goals as goal

pub returns-then-is_missing : goal.returns-then-is_missing
returns-then-is_missing g c = rw (sym c.is_missing.ensures ∙ c.if-is_missing.true) c.from_str.ensures.ok

pub returns-in-Some : goal.returns-in-Some
returns-in-Some g c =
    let view = view_of c.args.client.now in
    let line = PeekLine c.args.subject.now.side c.args.subject.now.path in
    let found : DoesClient line view view (c.in-Some.words.now ++ 10 ∷ []) =
    subst (λ (t : List ℕ). DoesClient line view view t) (sym c.as_str.ensures.value ∙ c.in-Some.ensures) c.in_ok-line.ensures in
    rw (sym c.is_missing.ensures ∙ c.if-is_missing.false)
    (IfOk-weaker c.from_str-in-Some.result _ _
    (λ text is. subst (λ (t : List ℕ). DoesClient line view view (t ++ 10 ∷ [])) (sym is) found) c.from_str-in-Some.ensures.ok)
