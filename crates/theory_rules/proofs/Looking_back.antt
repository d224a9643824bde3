-- Stale answers, by a look back: by induction on the past, an answer is stale where it was good at first and something has ended it since.
use Rattle.std.proofs.Common.{◌≡◌, ◌≢◌, ◌⊎◌, List, [], ◌∷◌, ◌++◌, Option, Some, None, inl, inr, refl, sym, ap, ◌∙◌}
use Rattle.std.specs.Prelude.{◌↔◌}
use Rattle.std.specs.List.{AllByRecursion}
use Rattle.zk_nodes.specs.Path.{Text}
use Rattle.zk_cache.specs.Kept.{Answer, Names, good, if_good, stale, without_stale}
use Rattle.zk_cache.specs.declared.held.Kept.{Kept}
use Rattle.zk_cache.specs.declared.held.Mark.{Mark}
use Rattle.zk_cache.specs.declared.held.Mark.TheVariants.{Good, Stale}
use Rattle.zk_turns.specs.Past.{Happening, Began, Lost, Pinged, Forgot, Halted, Came, Ticked, Took, Dropped, Asked, Denied, Past, Word}
use Rattle.zk_turns.specs.Past.{Says, Ends, Empties, Nothing, kept_by, kept_data, kept_names, word_data, word_child, good_answer}
use Rattle.theory_rules.specs.Rules.{as_stale, IsStaleSince, LeavesStale}

module _ {A : Type 0} where
  -- what says nothing leaves all as it is, but for forgetting
  nothing_by : (known : A → A) (x : Happening) (kept : Option (Kept A))
      → (x ≡ Forgot) ⊎ ((x ≢ Forgot) × (kept_by Nothing known x kept ≡ kept))
  nothing_by known Forgot kept = inl refl
  nothing_by known Began kept = inr (λ e. absurd cc, refl)
  nothing_by known Lost kept = inr (λ e. absurd cc, refl)
  nothing_by known Pinged kept = inr (λ e. absurd cc, refl)
  nothing_by known Halted kept = inr (λ e. absurd cc, refl)
  nothing_by known (Came byte) kept = inr (λ e. absurd cc, refl)
  nothing_by known (Ticked moment) kept = inr (λ e. absurd cc, refl)
  nothing_by known (Took message) kept = inr (λ e. absurd cc, refl)
  nothing_by known (Dropped fault) kept = inr (λ e. absurd cc, refl)
  nothing_by known (Asked ticket call) kept = inr (λ e. absurd cc, refl)
  nothing_by known (Denied ticket why) kept = inr (λ e. absurd cc, refl)

  never_marked : (kept : A) (mark : Mark) (answer : A) → if_good kept mark ≡ as_stale answer → ⊥
  never_marked kept Good answer e = let f : Good ≡ Stale =
      ap (λ (o : Option (Kept A)). elim o [ None ↦ Good | Some k ↦ k.mark ]) e in absurd cc
  never_marked kept Stale answer e = absurd cc

  never_stale : (kept : Option (Kept A)) (answer : A) → without_stale kept ≡ as_stale answer → ⊥
  never_stale None answer e = absurd cc
  never_stale (Some kept) answer e = never_marked kept.answer kept.mark answer e

  -- an answer with its mark
  marked : (kept : Kept A) (mark : Mark) (answer : A)
      → kept.mark ≡ mark → kept.answer ≡ answer → Some kept ≡ Some (record { answer = answer; mark = mark })
  marked kept mark answer m a =
      ap (λ (k : Mark). Some (record { answer = kept.answer; mark = k })) m ∙ ap (λ (b : A). Some (record { answer = b; mark = mark })) a

module _ {A : Type 0} (word : Happening → Word A) (known : Happening → Past → A → A) (kept : Past → Option (Kept A)) (none : kept [] ≡ None)
    (step : (x : Happening) (past : Past) → kept (x ∷ past) ≡ kept_by (word x) (known x past) x (kept past)) where
  longer : (x : Happening) (past : Past) (answer : A)
      → LeavesStale word x → IsStaleSince word kept past answer → IsStaleSince word kept (x ∷ past) answer
  longer x past answer leaves is = record {
    since = x ∷ is.since;
    notice = is.notice;
    before = is.before;
    whole = ap (λ (xs : Past). x ∷ xs) is.whole;
    ended = is.ended;
    was_good = is.was_good;
    stays = (leaves, is.stays);
  }

  -- what was said of what went before
  abbrev Earlier : Past → A → Type 0
  Earlier past answer = kept past ≡ as_stale answer → IsStaleSince word kept past answer

  stale_tells : (past : Past) (answer : A) → kept past ≡ as_stale answer → IsStaleSince word kept past answer
  stale_tells [] answer e = let f : None ≡ as_stale answer = sym none ∙ e in absurd cc
  stale_tells (x ∷ past) answer e = by (stale_tells past answer) (word x) refl (kept past) refl (sym (step x past) ∙ e)
    where
      ended : Earlier past answer → word x ≡ Ends → (other : Kept A) (mark : Mark)
          → other.mark ≡ mark → kept past ≡ Some other → other.answer ≡ answer → IsStaleSince word kept (x ∷ past) answer
      ended earlier is other Good m at same = record {
        since = [];
        notice = x;
        before = past;
        whole = refl;
        ended = is;
        was_good = at ∙ marked other Good answer m same;
        stays = tt;
      }
      ended earlier is other Stale m at same = longer x past answer (inl is) (earlier (at ∙ marked other Stale answer m same))

      by : Earlier past answer → (w : Word A) → word x ≡ w → (k : Option (Kept A))
          → kept past ≡ k → kept_by w (known x past) x k ≡ as_stale answer → IsStaleSince word kept (x ∷ past) answer
      by earlier (Says said) is k at f = let g : Good ≡ Stale =
          ap (λ (o : Option (Kept A)). elim o [ None ↦ Good | Some one ↦ one.mark ]) f in absurd cc
      by earlier Empties is k at f = absurd cc
      by earlier Ends is None at f = absurd cc
      by earlier Ends is (Some other) at f = let same : other.answer ≡ answer =
          ap (λ (o : Option (Kept A)). elim o [ None ↦ answer | Some one ↦ one.answer ]) f in ended earlier is other other.mark refl at same
      by earlier Nothing is k at f = elim (nothing_by (known x past) x k) [
        | inl forgot ↦ absurd (never_stale k answer (sym (ap (λ (y : Happening). kept_by Nothing (known x past) y k) forgot) ∙ f))
        | inr other ↦ longer x past answer (inr (is, other.0)) (earlier (at ∙ sym other.1 ∙ f))
      ]

  stale_by : (since : List Happening) (notice : Happening) (before : Past) (answer : A)
      → word notice ≡ Ends → kept before ≡ good answer → AllByRecursion (LeavesStale word) since
      → kept (since ++ notice ∷ before) ≡ as_stale answer
  stale_by [] notice before answer ended was stays =
      step notice before ∙ ap (λ (w : Word A). kept_by w (known notice before) notice (kept before)) ended ∙ ap stale was
  stale_by (x ∷ since) notice before answer ended was stays = by stays.0 (stale_by since notice before answer ended was stays.1)
    where
      past : Past
      past = since ++ notice ∷ before

      by : LeavesStale word x → kept past ≡ as_stale answer → kept (x ∷ past) ≡ as_stale answer
      by (inl ends) ih = step x past ∙ ap (λ (w : Word A). kept_by w (known x past) x (kept past)) ends ∙ ap stale ih
      by (inr says) ih = step x past ∙ ap (λ (w : Word A). kept_by w (known x past) x (kept past)) says.0
          ∙ elim (nothing_by (known x past) x (kept past)) [
            | inl forgot ↦ absurd (says.1 forgot)
            | inr other ↦ other.1 ∙ ih
          ]

  stale_is : (past : Past) (answer : A) → IsStaleSince word kept past answer → kept past ≡ as_stale answer
  stale_is past answer is = ap kept is.whole ∙ stale_by is.since is.notice is.before answer is.ended is.was_good is.stays

pub nodes : (path : Text) (past : Past) (answer : Answer)
    → kept_data path past ≡ as_stale answer ↔ IsStaleSince (word_data path) (kept_data path) past answer
nodes path past answer = (
  stale_tells (word_data path) (λ x past answer. good_answer path answer past) (kept_data path) refl (λ x past. refl) past answer,
  stale_is (word_data path) (λ x past answer. good_answer path answer past) (kept_data path) refl (λ x past. refl) past answer,
)

pub children : (path : Text) (past : Past) (names : Names)
    → kept_names path past ≡ as_stale names ↔ IsStaleSince (word_child path) (kept_names path) past names
children path past names = (
  stale_tells (word_child path) (λ x past names. names) (kept_names path) refl (λ x past. refl) past names,
  stale_is (word_child path) (λ x past names. names) (kept_names path) refl (λ x past. refl) past names,
)
