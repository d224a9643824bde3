-- The law is `come_whole`: by induction over the deeds, what the agent was handed and what is held are what the stream gave.
use Rattle.zk_driver.proofs.Flowed.{come_whole}
use Rattle.zk_driver.proofs.laws.bytes_come_whole.Goals as goal

pub returns : goal.returns
returns g c = come_whole g.row.A.Denot g.S.Stream.far
