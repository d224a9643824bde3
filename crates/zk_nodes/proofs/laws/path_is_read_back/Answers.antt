-- A path of good names is read back from its text: `path_of-text_of`, by induction over the names.
use Rattle.zk_nodes.proofs.PathTexts.{path_of-text_of}
use Rattle.zk_nodes.proofs.laws.path_is_read_back.Goals as goal

pub returns : goal.returns
returns c = path_of-text_of
