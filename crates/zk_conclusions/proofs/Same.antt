-- Where the same is good, the same is concluded: each conclusion looks only at what is good, part by part.
use Rattle.std.proofs.Common.{◌≡◌, ℕ, Bool, ◌&&◌, not, List, [], ◌∷◌, Option, Some, None, refl, sym, ap, subst, ◌∙◌}
use Rattle.zk_turns.specs.Meaning.{Among}
use Rattle.zk_turns.specs.View.{Cache}
use Rattle.zk_nodes.specs.Path.{Text, Name}
use Rattle.zk_cache.specs.Kept.{Answer, Absent, Known, Full, Names, good, as_good, is_marked_good, without_stale}
use Rattle.zk_cache.specs.declared.held.Kept.{Kept}
use Rattle.zk_cache.specs.declared.held.Mark.{Mark}
use Rattle.zk_cache.specs.declared.held.Mark.TheVariants.{Good, Stale}
use Rattle.zk_conclusions.specs.Snapshots.{all_good}
use Rattle.zk_conclusions.specs.Subtrees.{IsFull, IsKeptWhole, HasName, IsReached, IsWholeBelow, text_below, is_full_good}
use Rattle.zk_conclusions.specs.Walks.{IsWalk}
use Rattle.zk_conclusions.specs.Lacks.{HasGoodName, IsShown, AreLacking, HasWalk, lacks_data, lacks_names}
use Rattle.zk_conclusions.specs.Revisions.{SameGood, SameAt, SameGoodShowsTheSame}
use Rattle.zk_conclusions.proofs.Reached.{named}

-- ---- one answer

marked : {A : Type 0} (kept : Option (Kept A)) → is_marked_good (without_stale kept) ≡ is_marked_good kept
marked None = refl
marked {A} (Some kept) = by kept.mark
  where
    by : (mark : Mark) → is_marked_good (without_stale (Some (record { answer = kept.answer; mark = mark })))
        ≡ is_marked_good (Some (record { answer = kept.answer; mark = mark }))
    by Good = refl
    by Stale = refl

full_marked : (kept : Option (Kept Answer)) → is_full_good (without_stale kept) ≡ is_full_good kept
full_marked None = refl
full_marked (Some kept) = by kept.answer kept.mark
  where
    by : (answer : Answer) (mark : Mark) → is_full_good (without_stale (Some (record { answer = answer; mark = mark })))
        ≡ is_full_good (Some (record { answer = answer; mark = mark }))
    by Absent Good = refl
    by (Known stat) Good = refl
    by (Full bytes stat) Good = refl
    by Absent Stale = refl
    by (Known stat) Stale = refl
    by (Full bytes stat) Stale = refl

-- what is left of an answer where stale ones are left out is that answer
left_is : {A : Type 0} (kept : Option (Kept A)) (answer : A) → without_stale kept ≡ good answer → kept ≡ good answer
left_is None answer e = absurd cc
left_is {A} (Some kept) answer e = by kept.mark e
  where
    by : (mark : Mark) → without_stale (Some (record { answer = kept.answer; mark = mark })) ≡ good answer
        → Some (record { answer = kept.answer; mark = mark }) ≡ good answer
    by Good e = e
    by Stale e = absurd cc

pub carried : {A : Type 0} (one other : Option (Kept A)) (answer : A)
    → without_stale one ≡ without_stale other → one ≡ good answer → other ≡ good answer
carried one other answer same e = left_is other answer (sym same ∙ ap without_stale e)

same_marked : {A : Type 0} (one other : Option (Kept A))
    → without_stale one ≡ without_stale other → is_marked_good one ≡ is_marked_good other
same_marked one other same = sym (marked one) ∙ ap is_marked_good same ∙ marked other

same_full : (one other : Option (Kept Answer)) → without_stale one ≡ without_stale other → is_full_good one ≡ is_full_good other
same_full one other same = sym (full_marked one) ∙ ap is_full_good same ∙ full_marked other

turned : (one other : Cache) → SameGood one other → SameGood other one
turned one other s = record { nodes = λ path. sym (s.nodes path); children = λ path. sym (s.children path) }

-- ---- snapshots

all_same : {A : Type 0} (one other : Text → Option (Kept A)) → ((path : Text) → without_stale (one path) ≡ without_stale (other path))
    → (paths : List Text) → all_good one paths ≡ all_good other paths
all_same one other same [] = refl
all_same one other same (path ∷ paths) =
    ap (λ (b : Bool). b && all_good one paths) (same_marked (one path) (other path) (same path))
    ∙ ap (λ (b : Bool). is_marked_good (other path) && b) (all_same one other same paths)

-- ---- what is reached

module _ (one other : Cache) (same : SameGood one other) where
  abbrev full_too : (path : Text) (names : Names) → IsFull one path names → IsFull other path names
  full_too path names full = record {
    bytes = full.bytes;
    stat = full.stat;
    node = carried (one.nodes path) (other.nodes path) (Full full.bytes full.stat) (same.nodes path) full.node;
    children = carried (one.children path) (other.children path) names (same.children path) full.children;
  }

  abbrev whole_too : (path : Text) → IsKeptWhole one path → IsKeptWhole other path
  whole_too path whole = record { names = whole.names; full = full_too path whole.names whole.full; paths = whole.paths }

  -- a name that is kept below a path that is whole is kept in the other too
  name_too : (path : Text) (name : Name) → IsKeptWhole one path → HasName one path name → HasName other path name
  name_too path name whole has =
      record { kept = as_good whole.names; there = (full_too path whole.names whole.full).children; has = named one path name whole has }

  name_back : (path : Text) (name : Name) → IsKeptWhole one path → HasName other path name → HasName one path name
  name_back path name whole has =
      record { kept = as_good whole.names; there = whole.full.children; has = named other path name (whole_too path whole) has }

  reached_too : (root : Text) → IsWholeBelow one root → (below : List Name) → IsReached one root below → IsReached other root below
  reached_too root whole [] reached = tt
  reached_too root whole (name ∷ below) reached =
      (reached_too root whole below reached.0, name_too (text_below root below) name (whole below reached.0) reached.1)

  reached_back : (root : Text) → IsWholeBelow one root → (below : List Name) → IsReached other root below → IsReached one root below
  reached_back root whole [] reached = tt
  reached_back root whole (name ∷ below) reached =
      let above = reached_back root whole below reached.0 in (above, name_back (text_below root below) name (whole below above) reached.1)

  walk_too : (root : Text) (paths : List Text) → IsWalk one root paths → IsWalk other root paths
  walk_too root paths walk = record {
    whole = λ below reached. whole_too (text_below root below) (walk.whole below (reached_back root walk.whole below reached));
    reached = record {
      each = λ path there. let at = walk.reached.each path there in
          record { below = at.below; reached = reached_too root walk.whole at.below at.reached; is = at.is };
      all = λ below reached. walk.reached.all below (reached_back root walk.whole below reached);
    };
    once = walk.once;
    rest = walk.rest;
    begins = walk.begins;
    order = walk.order;
  }

  has_too : (root : Text) (most : ℕ) → HasWalk one root most → HasWalk other root most
  has_too root most has = record { paths = has.paths; walk = walk_too root has.paths has.walk; fits = has.fits }

  entry_same : (root : Text) (paths : List Text) → IsWalk one root paths → (path : Text) → Among path paths → SameAt one other path
  entry_same root paths walk path there =
      let at = walk.reached.each path there in
      let whole = subst (IsKeptWhole one) (sym at.is) (walk.whole at.below at.reached) in
      let too = full_too path whole.names whole.full in
      (whole.full.node ∙ sym too.node, whole.full.children ∙ sym too.children)

  -- ---- what is lacking

  good_name_too : (path : Text) (name : Name) → HasGoodName one path name → HasGoodName other path name
  good_name_too path name has = record {
    names = has.names;
    there = carried (one.children path) (other.children path) has.names (same.children path) has.there;
    has = has.has;
  }

  shown_too : (root : Text) (below : List Name) → IsShown one root below → IsShown other root below
  shown_too root [] shown = tt
  shown_too root (name ∷ below) shown = (shown_too root below shown.0, good_name_too (text_below root below) name shown.1)

module _ (one other : Cache) (same : SameGood one other) where
  lacking_too : (root : Text) (lacks lacks_too : Text → Bool) → ((path : Text) → lacks path ≡ lacks_too path) → (paths : List Text)
      → AreLacking one root lacks paths → AreLacking other root lacks_too paths
  lacking_too root lacks lacks_too agree paths are = record {
    once = are.once;
    each = λ path there. let k = are.each path there in
        (record { below = k.0.below; shown = shown_too one other same root k.0.below k.0.shown; is = k.0.is }, sym (agree path) ∙ k.1);
    all = λ below shown lacking.
        are.all below (shown_too other one (turned one other same) root below shown) (agree (text_below root below) ∙ lacking);
  }

  no_data : (path : Text) → lacks_data one path ≡ lacks_data other path
  no_data path = ap not (same_full (one.nodes path) (other.nodes path) (same.nodes path))

  no_names : (path : Text) → lacks_names one path ≡ lacks_names other path
  no_names path = ap not (same_marked (one.children path) (other.children path) (same.children path))

pub same_conclusions : SameGoodShowsTheSame
same_conclusions one other same =
    let back = turned one other same in record {
      whole = λ nodes parents.
          ap (λ (b : Bool). b && all_good one.children parents) (all_same one.nodes other.nodes same.nodes nodes)
          ∙ ap (λ (b : Bool). all_good other.nodes nodes && b) (all_same one.children other.children same.children parents);
      walk = λ root paths. (walk_too one other same root paths, walk_too other one back root paths);
      has = λ root most. (has_too one other same root most, has_too other one back root most);
      entries = entry_same one other same;
      unread = λ root paths. (
        lacking_too one other same root (lacks_data one) (lacks_data other) (no_data one other same) paths,
        lacking_too other one back root (lacks_data other) (lacks_data one) (no_data other one back) paths,
      );
      unlisted = λ root paths. (
        lacking_too one other same root (lacks_names one) (lacks_names other) (no_names one other same) paths,
        lacking_too other one back root (lacks_names other) (lacks_names one) (no_names other one back) paths,
      );
    }
