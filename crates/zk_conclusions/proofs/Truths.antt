-- What is good is the history's, where the client was served from it: by the law of coherence at some paths, path by path of what is
-- shown.
use Rattle.std.proofs.Common.{◌≡◌, ℕ, zero, suc, true, false, List, [], ◌∷◌, Option, Some, None, refl, ap, sym, ◌∙◌, subst, inl, inr}
use Rattle.std.proofs.lemmas.Bool.{and_parts}
use Rattle.std.specs.Prelude.{slice_get, is_some}
use Rattle.std.specs.FinSet as set
use Rattle.std.proofs.Math.ListN.{get_or}
use Rattle.std.proofs.lemmas.Option.{get_or_from_slice_get}
use Rattle.zk_turns.specs.Meaning.{Among}
use Rattle.zk_nodes.specs.Path.{Text, Name, NodePath, path_of}
use Rattle.zk_nodes.specs.History.{Node, Tree, History, children_of, view as to_see}
use Rattle.zk_nodes.specs.declared.side.Side.TheVariants.{Data, Child}
use Rattle.zk_cache.specs.declared.held.Kept.{Kept}
use Rattle.zk_cache.specs.declared.held.Mark.{Mark}
use Rattle.zk_cache.specs.declared.held.Mark.TheVariants.{Good, Stale}
use Rattle.zk_cache.specs.Kept.{Answer, Names, good, as_good, is_good, is_marked_good}
use Rattle.zk_turns.specs.View.{View}
use Rattle.zk_laws.specs.Server.{Fits, FitsNames}
use Rattle.theory_local.specs.LocalHeadline.{IsCoherentAt}
use Rattle.theory_local.proofs.Headlines_at.{coherent_at}
use Rattle.zk_conclusions.specs.Seen.{IsServedAt, tree_seen}
use Rattle.zk_conclusions.specs.Snapshots.{all_good, is_whole, IsOneOf, WholeIsOfOneTree}

-- its good answers at these paths are the history's at the last seen zxid
pub coherent : (P : Text → Type 0) (h : History) (view : View) → IsServedAt P h view → IsCoherentAt P h view
coherent P h view seen = coherent_at P h seen.history seen.start seen.items view seen.stands seen.served

the_one : {X : Type 0} (x y : X) → Some x ≡ Some y → x ≡ y
the_one {X} x y e = ap (λ (o : Option X). elim o [ None ↦ x | Some z ↦ z ]) e

-- what is marked good is a good answer
pub good_there : {A : Type 0} (kept : Option (Kept A)) → is_marked_good kept ≡ true → (answer : A) × (kept ≡ good answer)
good_there None e = absurd cc
good_there (Some kept) e = (kept.answer, go kept.mark refl)
  where
    go : (mark : Mark) → kept.mark ≡ mark → Some kept ≡ good kept.answer
    go Good f = ap (λ (m : Mark). Some (record { answer = kept.answer; mark = m })) f
    go Stale f = let k : is_good kept.mark ≡ true = e in let l : is_good kept.mark ≡ false = ap is_good f in absurd cc

-- of each of these paths, where all are good
pub each_good : {A : Type 0} (kept : Text → Option (Kept A)) (paths : List Text) → all_good kept paths ≡ true → (path : Text)
    → Among path paths → is_marked_good (kept path) ≡ true
each_good kept [] e path there = absurd there
each_good kept (one ∷ more) e path (inl same) =
    subst (λ (p : Text). is_marked_good (kept p) ≡ true) (sym same) (and_parts (is_marked_good (kept one)) (all_good kept more) e).0
each_good kept (one ∷ more) e path (inr there) =
    each_good kept more (and_parts (is_marked_good (kept one)) (all_good kept more) e).1 path there

-- the path at this place is among them
pub there_at : (paths : List Text) (place : ℕ) (path : Text) → slice_get paths place ≡ Some path → Among path paths
there_at [] place path e = absurd cc
there_at (one ∷ more) zero path e = let k : one ≡ path = ap (λ (o : Option Text). elim o [ None ↦ one | Some p ↦ p ]) e in inl (sym k)
there_at (one ∷ more) (suc place) path e = inr (there_at more place path e)

-- what is found of the path at a place, where all are good
pub found_at : {A : Type 0} (kept : Text → Option (Kept A)) (paths : List Text) (place : ℕ) (other path : Text) (found : Kept A)
    → all_good kept paths ≡ true → Some found ≡ kept (get_or paths place other) → slice_get paths place ≡ Some path
    → kept path ≡ good found.answer
found_at {A} kept paths place other path found e is at =
    let here : Some found ≡ kept path = is ∙ ap kept (get_or_from_slice_get paths place path other at) in
    let k = good_there (kept path) (each_good kept paths e path (there_at paths place path at)) in
    let l : found ≡ as_good k.0 = the_one found (as_good k.0) (here ∙ k.1) in
    k.1 ∙ ap (λ (a : Kept A). good a.answer) (sym l)

-- the same of a snapshot
pub data_at : (view : View) (nodes parents : List Text) (place : ℕ) (other path : Text) (found : Kept Answer)
    → is_whole view.cache nodes parents ≡ true → Some found ≡ view.cache.nodes (get_or nodes place other)
    → slice_get nodes place ≡ Some path → view.cache.nodes path ≡ good found.answer
data_at view nodes parents place other path found e is at =
    found_at view.cache.nodes nodes place other path found
    (and_parts (all_good view.cache.nodes nodes) (all_good view.cache.children parents) e).0 is at

pub names_at : (view : View) (nodes parents : List Text) (place : ℕ) (other path : Text) (found : Kept Names)
    → is_whole view.cache nodes parents ≡ true → Some found ≡ view.cache.children (get_or parents place other)
    → slice_get parents place ≡ Some path → view.cache.children path ≡ good found.answer
names_at view nodes parents place other path found e is at =
    found_at view.cache.children parents place other path found
    (and_parts (all_good view.cache.nodes nodes) (all_good view.cache.children parents) e).1 is at

-- a good answer is what there is to see at the last seen zxid
pub data_fits : (P : Text → Type 0) (h : History) (view : View) (path : Text) (answer : Answer)
    → IsServedAt P h view → P path → view.cache.nodes path ≡ good answer → Fits answer (to_see Data (tree_seen h view) (path_of path))
data_fits P h view path answer seen p kept = (coherent P h view seen).nodes path p (as_good answer) kept refl

pub names_fit : (P : Text → Type 0) (h : History) (view : View) (path : Text) (names : Names)
    → IsServedAt P h view → P path → view.cache.children path ≡ good names
    → FitsNames names (to_see Child (tree_seen h view) (path_of path))
names_fit P h view path names seen p kept = (coherent P h view seen).children path p (as_good names) kept refl

-- a name that is there is one of those that fit
pub names_there : (names : Names) (tree : Tree) (dir : NodePath) (found : Option Node)
    → FitsNames names (children_of (λ name. is_some (tree (name ∷ dir))) found)
    → (name : Name) → is_some (tree (name ∷ dir)) ≡ true → set.contains names.names name ≡ true
names_there names tree dir None fits name there = absurd fits
names_there names tree dir (Some node) fits name there = fits.1 name ∙ there

pub one_tree_here : WholeIsOfOneTree
one_tree_here h view nodes parents seen whole =
    let parts = and_parts (all_good view.cache.nodes nodes) (all_good view.cache.children parents) whole in
    record {
      seen = λ path there. let k = good_there (view.cache.nodes path) (each_good view.cache.nodes nodes parts.0 path there) in
          (k.0, k.1, data_fits (IsOneOf nodes parents) h view path k.0 seen (inl there) k.1);
      listed = λ path there. let k = good_there (view.cache.children path) (each_good view.cache.children parents parts.1 path there) in
          (k.0, k.1, names_fit (IsOneOf nodes parents) h view path k.0 seen (inr there) k.1);
    }
