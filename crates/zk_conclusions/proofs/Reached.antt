-- What is kept whole below a root is what the tree has there: each node kept whole is true, with its names, so by induction on the names
-- below the root all that is there is reached.
use Rattle.std.proofs.Common.{ℕ, ◌≡◌, if◌then◌else◌, not, Bool, true, false, List, [], ◌∷◌, ◌++◌, Option, Some, None, refl, ap, sym, ◌∙◌}
use Rattle.std.proofs.Common.{subst}
use Rattle.std.specs.Prelude.{is_some}
use Rattle.std.specs.FinSet as set
use Rattle.zk_nodes.specs.Path.{Text, Name, NodePath, path_of, text_of, child_text, has_no_slash, is_empty}
use Rattle.zk_nodes.specs.PathFault.{IsPath, child_fault, fault_of}
use Rattle.zk_nodes.specs.declared.path_fault.PathFault.TheVariants.{EmptyName, SlashInName}
use Rattle.zk_nodes.specs.History.{Node, History, contents_of}
use Rattle.zk_nodes.specs.declared.data_stat.DataStat.{DataStat}
use Rattle.zk_nodes.proofs.Children.{joined_path}
use Rattle.zk_nodes.proofs.PathLemmas.{IsPath-text}
use Rattle.zk_turns.specs.Meaning.{Among}
use Rattle.zk_cache.specs.declared.held.Kept.{Kept}
use Rattle.zk_cache.specs.Kept.{Full, Names, good, as_good}
use Rattle.zk_turns.specs.View.{View, Cache}
use Rattle.zk_laws.specs.Server.{Fits}
use Rattle.zk_laws.specs.Messages.{from_zero}
use Rattle.zk_conclusions.specs.Seen.{IsServedAt, tree_seen}
use Rattle.zk_conclusions.proofs.Truths.{data_fits, names_fit, names_there}
use Rattle.zk_conclusions.specs.Subtrees.{IsKeptWhole, HasName, text_below, IsReached, IsWholeBelow, IsTrueAt, IsSubtreeOf, WholeIsSubtree}
use Rattle.zk_conclusions.specs.Subtrees.{IsOneReached, PathsAreAll}
use Rattle.zk_conclusions.proofs.Rooted.{rooted_at}

-- the answer of what is kept is the one that is good
pub same_kept : {A : Type 0} (kept : Kept A) (answer : A) (found : Option (Kept A))
    → found ≡ Some kept → found ≡ good answer → kept.answer ≡ answer
same_kept {A} kept answer found e f = ap (λ (o : Option (Kept A)). elim o [ None ↦ answer | Some k ↦ k.answer ]) (sym e ∙ f)

-- a name that is kept below a path which is kept whole makes a path
pub named : (cache : Cache) (path : Text) (name : Name) (whole : IsKeptWhole cache path)
    → HasName cache path name → set.contains whole.names.names name ≡ true
named cache path name whole has =
    let same = same_kept has.kept whole.names (cache.children path) has.there whole.full.children in
    subst (λ (n : Names). set.contains n.names name ≡ true) same has.has

pub no_fault : (cache : Cache) (path : Text) (name : Name) → IsKeptWhole cache path → HasName cache path name → child_fault path name ≡ None
no_fault cache path name whole has = whole.paths name (named cache path name whole has)

-- a child that has no fault is a path
pub is_child : (path : Text) (name : Name) → child_fault path name ≡ None → IsPath (child_text path name)
is_child path name e = go (has_no_slash name) (is_empty name) refl refl e
  where
    go : (one some : Bool) → has_no_slash name ≡ one → is_empty name ≡ some
        → (if not one then Some SlashInName else (if some then Some EmptyName else fault_of (child_text path name))) ≡ None
        → IsPath (child_text path name)
    go false some h k n = absurd cc
    go true true h k n = absurd cc
    go true false h k n = n

-- a path below the root is a path, and its names are those below the root's
pub place_below : (cache : Cache) (root : Text) → IsPath root → IsWholeBelow cache root → (below : List Name) → IsReached cache root below
    → IsPath (text_below root below) × (path_of (text_below root below) ≡ below ++ path_of root)
place_below cache root is whole [] reached = (is, refl)
place_below cache root is whole (name ∷ below) reached =
    let above = place_below cache root is whole below reached.0 in
    let good_name = no_fault cache (text_below root below) name (whole below reached.0) reached.1 in (
      is_child (text_below root below) name good_name,
      joined_path (text_below root below) name above.0 good_name ∙ ap (λ (p : NodePath). name ∷ p) above.1,
    )

-- what is kept whole is true
pub true_at : (P : Text → Type 0) (h : History) (view : View) (path : Text)
    → IsServedAt P h view → P path → IsKeptWhole view.cache path → IsTrueAt (tree_seen h view) view.cache path
true_at P h view path seen p whole = record {
  names = whole.names;
  full = whole.full;
  node = data_fits P h view path (Full whole.full.bytes whole.full.stat) seen p whole.full.node;
  children = names_fit P h view path whole.names seen p whole.full.children;
}

-- the path of these names is one that is reached
one_below : (view : View) (root : Text) (below : List Name) → IsReached view.cache root below
    → IsOneReached view.cache root (text_below root below)
one_below view root below reached = record { below = below; reached = reached; is = refl }

-- what is there is reached
all_reached : (h : History) (view : View) (root : Text) → IsServedAt (IsOneReached view.cache root) h view → IsPath root
    → IsWholeBelow view.cache root → (below : List Name) → is_some (tree_seen h view (below ++ path_of root)) ≡ true
    → IsReached view.cache root below
all_reached h view root seen is whole [] there = tt
all_reached h view root seen is whole (name ∷ below) there =
    let above = all_reached h view root seen is whole below
    (rooted_at h (from_zero view.saved.last) seen.history name (below ++ path_of root) there) in
    let kept = whole below above in
    let place = (place_below view.cache root is whole below above).1 in
    let here : is_some (tree_seen h view (name ∷ path_of (text_below root below))) ≡ true =
    subst (λ (p : NodePath). is_some (tree_seen h view (name ∷ p)) ≡ true) (sym place) there in
    let fits = names_fit (IsOneReached view.cache root) h view (text_below root below) kept.names seen
    (one_below view root below above) kept.full.children in (
      above,
      record {
        kept = as_good kept.names;
        there = kept.full.children;
        has = names_there kept.names (tree_seen h view)
            (path_of (text_below root below)) (tree_seen h view (path_of (text_below root below))) fits name here;
      },
    )

pub one_subtree_here : WholeIsSubtree
one_subtree_here h view root seen is whole = record {
  sound = λ below reached. (
    (place_below view.cache root is whole below reached).1,
    true_at (IsOneReached view.cache root) h view (text_below root below) seen
        (one_below view root below reached) (whole below reached),
  );
  complete = all_reached h view root seen is whole;
}

-- where data are there to see, a node is
is_there : (answer_bytes : Option (List ℕ)) (stat : DataStat) (found : Option Node)
    → Fits (Full answer_bytes stat) (contents_of found) → is_some found ≡ true
is_there bytes stat None fits = absurd fits
is_there bytes stat (Some node) fits = refl

same_text_of : (a b : Text) → IsPath a → IsPath b → path_of a ≡ path_of b → a ≡ b
same_text_of a b is too e = sym (IsPath-text a is) ∙ (ap text_of e ∙ IsPath-text b too)

pub paths_are_all : PathsAreAll
paths_are_all h view root paths seen is whole reached path below good_path names = (there, among)
  where
    all : IsSubtreeOf (tree_seen h view) view.cache root
    all = one_subtree_here h view root seen is whole

    there : Among path paths → is_some (tree_seen h view (path_of path)) ≡ true
    there m =
        let one = reached.each path m in
        let true_here = (all.sound one.below one.reached).1 in
        let found : is_some (tree_seen h view (path_of (text_below root one.below))) ≡ true =
        is_there true_here.full.bytes true_here.full.stat (tree_seen h view (path_of (text_below root one.below))) true_here.node in
        subst (λ (t : Text). is_some (tree_seen h view (path_of t)) ≡ true) (sym one.is) found

    among : is_some (tree_seen h view (path_of path)) ≡ true → Among path paths
    among found =
        let here = all.complete below (subst (λ (p : NodePath). is_some (tree_seen h view p) ≡ true) names found) in
        let place = place_below view.cache root is whole below here in
        let same : text_below root below ≡ path = same_text_of (text_below root below) path place.0 good_path (place.1 ∙ sym names) in
        subst (λ (t : Text). Among t paths) same (reached.all below here)
