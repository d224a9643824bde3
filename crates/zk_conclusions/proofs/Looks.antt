-- What was looked up at one last seen zxid is of one tree: each answer is that of the tree at its zxid, which is the same.
use Rattle.std.proofs.Common.{ℤ, refl, subst}
use Rattle.zk_nodes.specs.History.{History, tree_at}
use Rattle.zk_laws.specs.Messages.{from_zero}
use Rattle.zk_conclusions.specs.Seen.{Is}
use Rattle.zk_conclusions.specs.Looks.{Look, Node_seen, Names_seen, WasShown, IsOfTree, OneZxidIsOneTree}
use Rattle.zk_conclusions.proofs.Truths.{data_fits, names_fit}

shown_there : (h : History) (zxid : ℤ) (look : Look) → (s : WasShown h zxid look) → IsOfTree (tree_at h (from_zero s.view.saved.last)) look
shown_there h zxid (Node_seen path answer) s = data_fits (Is path) h s.view path answer s.seen refl s.kept
shown_there h zxid (Names_seen path names) s = names_fit (Is path) h s.view path names s.seen refl s.kept

pub one_zxid_here : OneZxidIsOneTree
one_zxid_here h zxid look s = subst (λ (z : ℤ). IsOfTree (tree_at h (from_zero z)) look) s.at (shown_there h zxid look s)
