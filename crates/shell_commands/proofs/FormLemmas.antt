-- What a form is with one more subcommand: it stands after the others.
use Rattle.std.proofs.Common.{◌≡◌, ◌∙◌, ap, true}
use Rattle.clap.specs.Words.{AddsSubcommand, App, app_of, with_subcommand}
use Rattle.clap.specs.declared.builder.command.Command.{Command}
use Rattle.clap.proofs.SimpleLemmas.{plain_fields}

-- the subcommand stands after the others
pub added : (old sub new : Command) (a : App) → app_of sub ≡ a → a.top.is_plain ≡ true → AddsSubcommand old sub new
    → app_of new ≡ with_subcommand (app_of old) a.top
added old sub new a is plain adds =
    adds.shape (plain_fields sub (ap (λ (b : App). b.top.is_plain) is ∙ plain)).globals
    ∙ ap (λ (b : App). with_subcommand (app_of old) b.top) is
