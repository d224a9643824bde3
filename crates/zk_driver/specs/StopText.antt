-- What is said if memory ran out.
use Rattle.std.specs.Prelude.{ℕ, List, codes}
use Rattle.zk_client.specs.FaultText.{halt_words}
use Rattle.zk_driver.specs.declared.stop.Stop.{Stop}
use Rattle.zk_driver.specs.declared.stop.Stop.TheVariants.{Halted, Memory}

abbrev pub stop_words : Stop → List ℕ
stop_words Halted = halt_words
stop_words Memory = codes "out of memory: what came, or what the client said of it, was lost"
