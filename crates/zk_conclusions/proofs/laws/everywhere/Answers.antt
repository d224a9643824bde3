-- Each is its law at the paths that it is about, since servers of the model keep to it there: `by_model`.
use Rattle.zk_conclusions.proofs.Everywhere.{one_tree_everywhere, looks_everywhere, subtree_everywhere, paths_everywhere, held_everywhere}
use Rattle.zk_conclusions.proofs.Everywhere.{one_shows_everywhere, later_tokens_everywhere, listing_everywhere, standing_everywhere}
use Rattle.zk_conclusions.proofs.Everywhere.{shown_everywhere}
use Rattle.zk_conclusions.proofs.laws.everywhere.Goals as goal

pub returns-clause-tree : goal.returns-clause-tree
returns-clause-tree c = one_tree_everywhere

pub returns-clause-looks : goal.returns-clause-looks
returns-clause-looks c = looks_everywhere

pub returns-clause-subtree : goal.returns-clause-subtree
returns-clause-subtree c = subtree_everywhere

pub returns-clause-paths : goal.returns-clause-paths
returns-clause-paths c = paths_everywhere

pub returns-clause-held : goal.returns-clause-held
returns-clause-held c = held_everywhere

pub returns-clause-one : goal.returns-clause-one
returns-clause-one c = one_shows_everywhere

pub returns-clause-later : goal.returns-clause-later
returns-clause-later c = later_tokens_everywhere

pub returns-clause-listing : goal.returns-clause-listing
returns-clause-listing c = listing_everywhere

pub returns-clause-standing : goal.returns-clause-standing
returns-clause-standing c = standing_everywhere

pub returns-clause-shown : goal.returns-clause-shown
returns-clause-shown c = shown_everywhere
