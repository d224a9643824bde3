-- Each reply that was taken has a zxid of at least the saved one: `above_saved`, over the run of the model that a served client matches.
use Rattle.zk_laws.proofs.Headlines.{above_saved}
use Rattle.zk_laws.proofs.above_the_saved.Goals as goal

pub returns : goal.returns
returns c h is start items view s served = above_saved h is start items s.asked served
