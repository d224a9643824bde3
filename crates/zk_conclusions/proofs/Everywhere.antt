-- Servers that keep to the model at some paths keep to it at fewer, and servers of the model keep to it at any; so each conclusion is one
-- of clients whose servers keep to it everywhere.
use Rattle.std.proofs.Common.{refl, sym, subst, inl, inr}
use Rattle.zk_nodes.specs.Path.{Text}
use Rattle.zk_nodes.specs.History.{History}
use Rattle.zk_turns.specs.View.{View}
use Rattle.theory_local.proofs.Following.{local_served, served_fewer}
use Rattle.zk_conclusions.specs.Seen.{Is, IsEither, IsServedAt, IsServedFrom}
use Rattle.zk_conclusions.specs.Snapshots.{IsOneOf}
use Rattle.zk_conclusions.specs.Looks.{path_in}
use Rattle.zk_conclusions.specs.Subtrees.{IsOneReached}
use Rattle.zk_conclusions.specs.Everywhere.{OneTreeEverywhere, LooksEverywhere, SubtreeEverywhere, PathsEverywhere, HeldEverywhere}
use Rattle.zk_conclusions.specs.Everywhere.{OneShowsEverywhere, LaterTokensEverywhere, ListingEverywhere, StandingEverywhere}
use Rattle.zk_conclusions.specs.Everywhere.{ShownEverywhere}
use Rattle.zk_conclusions.proofs.Truths.{one_tree_here}
use Rattle.zk_conclusions.proofs.Reached.{one_subtree_here, paths_are_all}
use Rattle.zk_conclusions.proofs.Holding.{held_here, one_shows, later_tokens}
use Rattle.zk_conclusions.proofs.Listed.{listing_here}
use Rattle.zk_conclusions.proofs.Stands.{standing_here}

pub at_fewer : (P Q : Text → Type 0) (h : History) (view : View) → ((path : Text) → Q path → P path)
    → IsServedAt P h view → IsServedAt Q h view
at_fewer P Q h view fewer s = record {
  start = s.start;
  items = s.items;
  stands = s.stands;
  history = s.history;
  served = served_fewer P Q fewer h s.start s.items s.served;
}

pub at_two : (P : Text → Type 0) (h : History) (view : View) (this that : Text) → P this → P that
    → IsServedAt P h view → IsServedAt (IsEither this that) h view
at_two P h view this that at too s = at_fewer P (IsEither this that) h view of_two s
  where
    of_two : (path : Text) → IsEither this that path → P path
    of_two path (inl e) = subst P (sym e) at
    of_two path (inr e) = subst P (sym e) too

pub by_model : (P : Text → Type 0) (h : History) (view : View) → IsServedFrom h view → IsServedAt P h view
by_model P h view s = record {
  start = s.start;
  items = s.items;
  stands = s.stands;
  history = s.history;
  served = local_served h P s.start s.items s.served;
}

pub one_tree_everywhere : OneTreeEverywhere
one_tree_everywhere h view s nodes parents whole = one_tree_here h view nodes parents (by_model (IsOneOf nodes parents) h view s) whole

pub looks_everywhere : LooksEverywhere
looks_everywhere h view look s kept = record { view = view; seen = by_model (Is (path_in look)) h view s; at = refl; kept = kept }

pub subtree_everywhere : SubtreeEverywhere
subtree_everywhere h view root s is whole = one_subtree_here h view root (by_model (IsOneReached view.cache root) h view s) is whole

pub paths_everywhere : PathsEverywhere
paths_everywhere h view root paths s is whole reached =
    paths_are_all h view root paths (by_model (IsOneReached view.cache root) h view s) is whole reached

pub held_everywhere : HeldEverywhere
held_everywhere h view dir prefix path token s shows =
    held_here h view dir prefix path token (by_model (IsEither dir path) h view s) shows

pub one_shows_everywhere : OneShowsEverywhere
one_shows_everywhere h one other dir prefix path its token later s t at shows shown =
    one_shows h one other dir prefix path its token later (by_model (IsEither dir path) h one s) (by_model (IsEither dir its) h other t) at
    shows shown

pub later_tokens_everywhere : LaterTokensEverywhere
later_tokens_everywhere h one other dir prefix path its token later s t rises le shows shown =
    later_tokens h one other dir prefix path its token later (by_model (IsEither dir path) h one s) (by_model (IsEither dir its) h other t)
    rises le shows shown

pub listing_everywhere : ListingEverywhere
unfolding by_model
listing_everywhere h view s ticket dir watch zxid names stat among =
    listing_here h view dir (by_model (Is dir) h view s) ticket watch zxid names stat among

pub standing_everywhere : StandingEverywhere
standing_everywhere h view dir kind names listed path token s rises all shows =
    standing_here h view dir kind names listed path token (by_model (Is path) h view s) rises all shows

pub shown_everywhere : ShownEverywhere
shown_everywhere h view dir kind names listed path token s rises all shows = record {
  seen = by_model (Is path) h view s;
  rises = rises;
  names = names;
  listed = listed;
  all = all;
  shows = shows;
}
