-- What contracts of private functions say: nobody has to believe it.
use Rattle.std.specs.Prelude.{List, [], ◌∷◌}
use Rattle.zk_laws.specs.Served.{Entry, Serves}
use Rattle.theory_serving.specs.Steps.{Step}

-- the steps as entries of a schedule, the newest first
abbrev pub behind : List Step → List Entry → List Entry
behind [] earlier = earlier
behind (one ∷ more) earlier = behind more (Serves one.step one.payloads ∷ earlier)
