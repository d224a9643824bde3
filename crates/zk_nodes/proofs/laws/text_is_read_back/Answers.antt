-- A text that begins with a slash is the text of its path: `text_path`.
use Rattle.zk_nodes.proofs.PathTexts.{text_path}
use Rattle.zk_nodes.proofs.laws.text_is_read_back.Goals as goal

pub returns : goal.returns
returns c = text_path
