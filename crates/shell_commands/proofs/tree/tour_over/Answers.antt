-- What `tree` ensures of an end by which the walk is not done is what is promised of its status.
use Rattle.std.proofs.Common.{◌≡◌, ℕ, List, ap, refl}
use Rattle.std.specs.Global.{Global}
use Rattle.zk_link.specs.FarEnds.{FarEnd}
use Rattle.clap.specs.Words.{Text}
use Rattle.shell_ask.specs.Trees.{Ending, Tours, ending_end, ending_told}
use Rattle.shell_ask.specs.declared.end.CallEnd.{CallEnd}
use Rattle.shell_ask.specs.declared.end.CallEnd.TheVariants as ends
use Rattle.shell_commands.specs.Asks.{status_of}
use Rattle.shell_commands.specs.Tours.{TellsTree, scope_of}
use Rattle.shell_commands.specs.declared.command.Tour.{Tour}
use Rattle.shell_commands.proofs.tree.tour_over.Goals as goal

undone : {far : FarEnd} {tour : Tour} (end : CallEnd) (P : List ℕ → Type 0) (Q : Type 0)
    → ((ending : Ending) × (printed : List Text) × Tours Global far (scope_of tour) ending printed × (end ≡ ending_end ending)
    × P (ending_told tour.name tour.most ending) × Q)
    → (told : List ℕ) × TellsTree far tour (status_of end) told × P told × Q
undone {tour = tour} end P Q why = (
  ending_told tour.name tour.most why.0,
  record { ending = why.0; printed = why.1; tours = why.2; ends = ap status_of why.3; tells = refl },
  why.4,
  why.5,
)

pub returns-in-NoNode-clause-undone : goal.returns-in-NoNode-clause-undone
returns-in-NoNode-clause-undone g c = λ _. undone ends.NoNode _ _ (c.in-NoNode.ensures.told tt (λ e. cc))

pub returns-in-Refused-clause-undone : goal.returns-in-Refused-clause-undone
returns-in-Refused-clause-undone g c = λ _. undone ends.Refused _ _ (c.in-Refused.ensures.told tt (λ e. cc))

pub returns-in-Unconnected-clause-undone : goal.returns-in-Unconnected-clause-undone
returns-in-Unconnected-clause-undone g c = λ _. undone ends.Unconnected _ _ (c.in-Unconnected.ensures.told tt (λ e. cc))

pub returns-in-Unanswered-clause-undone : goal.returns-in-Unanswered-clause-undone
returns-in-Unanswered-clause-undone g c = λ _. undone ends.Unanswered _ _ (c.in-Unanswered.ensures.told tt (λ e. cc))
