-- Each drop has a cause that was due where it happened: `law_before`, which splits the past there.
use Rattle.zk_laws.proofs.Headlines.{law_before}
use Rattle.zk_laws.proofs.drops_are_due.Goals as goal

pub returns : goal.returns
returns c h is start items view s served = law_before h is start items s.asked served
