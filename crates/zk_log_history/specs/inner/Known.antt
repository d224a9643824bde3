-- What is known after a step, or why it stops.
use Rattle.std.specs.Prelude.{◌≡◌, ⊤, Result, Ok, Err}
use Rattle.zk_log_history.specs.Known.{Known, known_of}
use Rattle.zk_log_history.specs.declared.knowledge.Knowledge.{Knowledge}
use Rattle.zk_log_history.specs.declared.untold.Untold.{Untold}
use Rattle.zk_log_history.specs.declared.untold.Untold.TheVariants as untold

-- this is the first fault: of memory nothing is said
abbrev pub Stops : {S : Type 0} → Result S Untold → Untold → Type 0
Stops told untold.Memory = ⊤
Stops told why = told ≡ Err why

abbrev pub Gives : {A : Type 0} → Result (Knowledge A) Untold → Result Known Untold → Type 0
Gives (Ok known) told = told ≡ Ok (known_of known)
Gives (Err why) told = Stops told why
