-- Two texts of paths are equal exactly where their paths are: `path_eq-text`.
use Rattle.zk_nodes.proofs.PathTexts.{path_eq-text}
use Rattle.zk_log_history.proofs.knowledge.has_text.Goals as goal

pub returns : goal.returns
returns g c = path_eq-text c.args.path.now c.args.text.now _ c.requires c.as_str.ensures.path c.as_str.ensures.text _ c.eq.ensures
