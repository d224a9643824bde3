-- What contracts of private functions say: nobody has to believe it.
use Rattle.std.specs.Prelude.{List, [], ◌∷◌}
use Rattle.zk_driver.specs.declared.turn.Event.{Event}
use Rattle.zk_driver.specs.Noting.{Note, Made, Missed, Lost}
use Rattle.zk_driver.specs.declared.turn.Event.TheVariants as event

-- what a turn tells of connections, and the action that it hands on
abbrev pub notes_of_event : Event → List Note
notes_of_event event.Opened = Made ∷ []
notes_of_event (event.Failed why) = Missed ∷ []
notes_of_event (event.Ended why) = Lost ∷ []
notes_of_event event.Nothing = []
