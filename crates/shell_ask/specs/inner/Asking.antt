-- What contracts of private functions say: nobody has to believe it.
use Rattle.zk_client.specs.Views.{outcome_view}
use Rattle.shell_ask.specs.declared.came.Came.{Came}
use Rattle.shell_ask.specs.Asking.{Coming, Answered, Late}
use Rattle.shell_ask.specs.declared.came.Came.TheVariants as came

abbrev pub came_view : {A : Type 0} → Came A → Coming
came_view (came.Answered outcome) = Answered (outcome_view outcome)
came_view (came.Late was_sent was_accepted) = Late was_sent was_accepted
