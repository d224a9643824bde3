-- What contracts of private functions say: nobody has to believe it.
use Rattle.std.specs.Prelude.{List}
use Rattle.zk_turns.specs.Turns.{Input}
use Rattle.script_live.specs.Heard.{Tape, AllBrought, HaltsAmong}

-- It halts at an input that comes from the connection.
pub record HaltsBrought (old new : Tape) : Type 0 where
  pub inputs : List Input
  pub brought : AllBrought inputs
  pub halts : HaltsAmong old inputs new
