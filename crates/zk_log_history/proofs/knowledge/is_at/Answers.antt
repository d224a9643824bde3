-- A path that is not the root's is at the other exactly where their texts are equal: `at_told`.
use Rattle.std.proofs.Common.{rules, ap, ◌∙◌}
use Rattle.zk_nodes.specs.Path.{path_of, path_eq}
use Rattle.zk_log_history.proofs.Known.{at_told}
use Rattle.zk_log_history.proofs.knowledge.is_at.Goals as goal

pub returns-then-not-is_root : goal.returns-then-not-is_root
returns-then-not-is_root g c =
    at_told (path_of c.args.path.now) (path_of c.args.other.now) c.is_root.result _ (search rules) c.is_root.ensures.root
    (c.has_text.ensures ∙ ap (λ t. path_eq (path_of t) (path_of c.args.other.now)) c.as_str.ensures.text)
