-- Stale answers are forgotten: what is good stays, and no call is another one, so each subject stands where it stood.
use Rattle.std.proofs.Common.{◌≡◌, ◌∙◌, ℕ, Bool, List, Option, Some, None, inl, inr, get_or, refl, ap}
use Rattle.std.specs.Prelude.{◌||◌, ◌&&◌, All, if◌then◌else◌, false, not}
use Rattle.zk_nodes.specs.Path.{Text}
use Rattle.zk_nodes.specs.declared.side.Side.{Side}
use Rattle.zk_nodes.specs.declared.side.Side.TheVariants.{Data, Child}
use Rattle.zk_cache.specs.declared.held.Kept.{Kept}
use Rattle.zk_cache.specs.declared.held.Mark.{Mark}
use Rattle.zk_cache.specs.declared.held.Mark.TheVariants.{Good, Stale}
use Rattle.zk_cache.specs.Kept.{Answer, Names, if_good, is_good, is_marked_good, without_stale}
use Rattle.zk_turns.specs.View.{View, Cache}
use Rattle.zk_turns.specs.Rule.{forgotten}
use Rattle.zk_follow.specs.declared.subject.Subject.{Subject}
use Rattle.zk_follow.specs.Following.{is_kept, is_shown, is_whole, reads_of, says_none, AreFollowed, IsCounted, IsFollowed}
use Rattle.zk_follow.specs.Following.{holds}

by_mark : (test : Answer → Bool) (answer : Answer) (mark : Mark)
    → is_kept test (if_good answer mark) ≡ (if is_good mark then test answer else false)
by_mark test answer Good = refl
by_mark test answer Stale = refl

kept_still : (test : Answer → Bool) (kept : Option (Kept Answer)) → is_kept test (without_stale kept) ≡ is_kept test kept
kept_still test None = refl
kept_still test (Some kept) = by_mark test kept.answer kept.mark

names_by_mark : (names : Names) (mark : Mark) → is_marked_good (if_good names mark) ≡ is_good mark
names_by_mark names Good = refl
names_by_mark names Stale = refl

names_still : (kept : Option (Kept Names)) → is_marked_good (without_stale kept) ≡ is_marked_good kept
names_still None = refl
names_still (Some kept) = names_by_mark kept.answer kept.mark

pub shown_still : (cache : Cache) (side : Side) (path : Text) → is_shown (forgotten cache) side path ≡ is_shown cache side path
shown_still cache Data path = kept_still is_whole (cache.nodes path)
shown_still cache Child path =
    ap (λ (is : Bool). is || is_kept says_none ((forgotten cache).nodes path)) (names_still (cache.children path))
    ∙ ap (λ (is : Bool). is_marked_good (cache.children path) || is) (kept_still says_none (cache.nodes path))

pub holds_still : (cache : Cache) (side : Side) (path : Text) → holds (forgotten cache) side path ≡ holds cache side path
holds_still cache Data path = kept_still is_whole (cache.nodes path)
holds_still cache Child path = names_still (cache.children path)

abbrev pub after_forgetting : View → View
after_forgetting view = record view { cache = forgotten view.cache }

followed_still : {A : Type 0} (now : ℕ) (view : View) (reads : ℕ) (subject : Subject A)
    → IsFollowed now view reads subject → IsFollowed now (after_forgetting view) reads subject
followed_still now view reads subject (inl sure) =
    inl (ap (λ is. not subject.is_doubted && is) (shown_still view.cache subject.side subject.path) ∙ sure)
followed_still now view reads subject (inr rest) = inr rest

pub all_followed_still : {A : Type 0} (now : ℕ) (view : View) (subjects : List (Subject A))
    → AreFollowed now view subjects → AreFollowed now (after_forgetting view) subjects
all_followed_still now view subjects all k d within =
    followed_still now view (reads_of view subjects) (get_or subjects k d) (all k d within)

pub all_counted_still : {A : Type 0} (view : View) (subjects : List (Subject A))
    → All (IsCounted view) subjects → All (IsCounted (after_forgetting view)) subjects
all_counted_still view subjects all = all
