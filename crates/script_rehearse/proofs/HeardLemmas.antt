-- One more output is heard after those before it.
use Rattle.std.proofs.Common.{◌≡◌, List, [], ◌∷◌, ◌++◌, refl}
use Rattle.zk_turns.specs.Turns.{Output}
use Rattle.zk_bench.specs.Served.{Served}
use Rattle.script_rehearse.specs.Heard.{heard, heard_all}

pub one_more : (outputs : List Output) (output : Output) (served : Served)
    → heard_all (outputs ++ output ∷ []) served ≡ heard output (heard_all outputs served)
one_more [] output served = refl
one_more (first ∷ outputs) output served = one_more outputs output (heard first served)
