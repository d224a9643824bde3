-- What waited still waits: the list is the old one, with one more at its end or without (`extends_by`), by what `push_back` ensures.
use Rattle.std.specs.Prelude.{is_ok}
use Rattle.zk_driver.proofs.Carrying.{extends_by}
use Rattle.zk_driver.proofs.engine.keep.Goals as goal

pub returns-clause-kept : goal.returns-clause-kept
returns-clause-kept g c =
    extends_by (is_ok c.push_back.result) c.args.waiting.now.items c.push_back.new.self.items c.args.action c.push_back.ensures.items
