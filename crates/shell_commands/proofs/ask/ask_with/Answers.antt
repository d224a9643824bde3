-- What is told of a call that is not done: what `ask_over` ensures (`unanswered`), or why its file was not read (`unread`). Of the statuses
-- of `tell_unread` only `Unread` is undone (`is_unread`), and the name told is the file's (`its_name`).
use Rattle.std.proofs.Common.{◌≡◌, ◌⊎◌, inl, inr, List, [], Option, Some, None, ℕ, ap, refl, sym, subst, unwrap_or, ◌∙◌}
use Rattle.std.specs.Prelude.{option_map}
use Rattle.std.specs.Borrow.{Bor}
use Rattle.std.specs.Global.{Global}
use Rattle.clap.specs.Words.{Text}
use Rattle.zk_conversation.specs.Views.{call_view}
use Rattle.shell_commands.specs.Asks.{IsUndone, TellsWhy}
use Rattle.shell_commands.specs.Files.{unanswered, unread}
use Rattle.shell_commands.specs.declared.status.Status.{Status}
use Rattle.shell_commands.specs.declared.status.Status.TheVariants as status
use Rattle.shell_commands.proofs.ask.ask_with.Goals as goal

pub returns-in-Ok-clause-undone : goal.returns-in-Ok-clause-undone
returns-in-Ok-clause-undone g c = λ is.
    let told = c.ask_over.ensures.undone is in
    (told.0, unanswered (call_view c.in-Ok.call) c.in-Ok.ensures.ok told.1, told.2, told.3)

-- of how the telling ends, one is of a call that is not done
is_unread : (s : Status) → (s ≡ status.Unread) ⊎ ((s ≡ status.Memory) ⊎ (s ≡ status.Stream)) → IsUndone s → s ≡ status.Unread
is_unread s (inl e) undone = e
is_unread s (inr (inl e)) undone = absurd (subst IsUndone e undone)
is_unread s (inr (inr e)) undone = absurd (subst IsUndone e undone)

-- the name of the file that is named
its_name : (from : Option (Bor Text)) (default : Bor Text) (name : Text)
    → option_map (λ f. f.now) from ≡ Some name → (unwrap_or from default).now ≡ name
its_name (Some file) default name is = ap (λ (o : Option Text). unwrap_or o []) is
its_name None default name is = absurd (let bad : None ≡ Some name = is in cc)

pub returns-in-Err-clause-undone : goal.returns-in-Err-clause-undone
returns-in-Err-clause-undone g c = λ is.
    let at = is_unread c.tell_unread.result c.tell_unread.ensures.only is in
    let told = c.tell_unread.ensures.unread at in
    let err = c.in-Err.ensures.err in
    let named = ap (λ (b : Bor Text). b.now) c.unwrap_or.ensures ∙ its_name c.args.question.from _ err.0 err.1 in (
      _,
      unread err.0 err.1 at (record { why = c.in-Err.fault; not_memory = told.0; long = err.2; tells = refl }),
      rw named at told.1,
      refl,
    )
