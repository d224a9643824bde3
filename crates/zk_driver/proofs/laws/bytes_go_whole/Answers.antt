-- The law is `go_whole`: by induction over the deeds, what the stream took and what is unsent are what was sent.
use Rattle.zk_driver.proofs.Flowed.{go_whole}
use Rattle.zk_driver.proofs.laws.bytes_go_whole.Goals as goal

pub returns : goal.returns
returns g c = go_whole g.row.A.Denot g.S.Stream.far
