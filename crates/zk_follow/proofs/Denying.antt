-- A subject whose answer was too long counts as refused, and its moment is after this one; the others are as they were.
use Rattle.std.proofs.Common.{◌≡◌, ◌≤◌, ◌+◌, ◌-◌, ◌^◌, ℕ, Bool, true, false, cond, List, Option, Some, None, inr, get_or, map}
use Rattle.std.proofs.Common.{refl, sym, ap, subst, arith}
use Rattle.std.specs.Prelude.{◌==◌, All, min}
use Rattle.std.specs.List.{list_any}
use Rattle.std.proofs.lemmas.List.Elements.{All-map}
use Rattle.zk_turns.specs.View.{View}
use Rattle.zk_follow.specs.declared.subject.Subject.{Subject}
use Rattle.zk_follow.specs.declared.progress.Progress.TheVariants.{Refused}
use Rattle.zk_follow.specs.declared.progress.Refusal.TheVariants.{Code, TooManyWatches, TooLarge, SessionClosed}
use Rattle.zk_follow.specs.declared.news.News.{News}
use Rattle.zk_follow.specs.declared.news.News.TheVariants.{Shown, Refused as Denied}
use Rattle.zk_follow.specs.Following.{is_read_by, is_reading, reads_of, AreFollowed, IsCounted, IsFollowed}
use Rattle.zk_follow.specs.Refusing.{pause_by, too_long_for}
use Rattle.zk_follow.proofs.Counting.{count_map}

some_pause : (told : Option News) → 1 ≤ pause_by told
some_pause None = omega arith
some_pause (Some Shown) = omega arith
some_pause (Some (Denied TooLarge)) = omega arith
some_pause (Some (Denied TooManyWatches)) = omega arith
some_pause (Some (Denied SessionClosed)) = omega arith
some_pause (Some (Denied (Code code))) = omega arith

module _ {A : Type 0} (now ticket : ℕ) (view : View) where
  abbrev denied : Subject A → Subject A
  denied subject = record subject { progress = Refused TooLarge (min (now + pause_by subject.told) (2 ^ 64 - 1)) }

  one_counted : (subject : Subject A) → IsCounted view subject → IsCounted view (too_long_for now ticket subject)
  one_counted subject counted = by (subject.ticket == ticket)
    where
      by : (b : Bool) → IsCounted view (cond b (denied subject) subject)
      by true = λ goes_on reading. absurd (let f : false ≡ true = ap is_reading reading in cc)
      by false = counted

  pub all_counted : (subjects : List (Subject A)) → All (IsCounted view) subjects
      → All (IsCounted view) (map (too_long_for now ticket) subjects)
  all_counted subjects all =
      All-map (IsCounted view) (too_long_for now ticket) subjects
      (λ k d within. one_counted (get_or subjects k d) (all k d within))

  abbrev is_read : Subject A → Bool
  is_read subject = list_any (is_read_by subject.ticket subject.side subject.path) view.pending

  same_read : (subject : Subject A) → is_read (too_long_for now ticket subject) ≡ is_read subject
  same_read subject = by (subject.ticket == ticket)
    where
      by : (b : Bool) → is_read (cond b (denied subject) subject) ≡ is_read subject
      by true = refl
      by false = refl

  one_followed : (reads : ℕ) (subject : Subject A) → IsFollowed now view reads subject
      → IsFollowed now view reads (too_long_for now ticket subject)
  one_followed reads subject followed = by (subject.ticket == ticket)
    where
      by : (b : Bool) → IsFollowed now view reads (cond b (denied subject) subject)
      by true = inr (inr (inr (inr (let some = some_pause subject.told in omega (arith, some)))))
      by false = followed

  pub all_followed : (subjects : List (Subject A)) → AreFollowed now view subjects
      → AreFollowed now view (map (too_long_for now ticket) subjects)
  all_followed subjects all =
      subst (λ reads. All (IsFollowed now view reads) (map (too_long_for now ticket) subjects))
      (sym (count_map is_read is_read (too_long_for now ticket) same_read subjects))
      (All-map (IsFollowed now view (reads_of view subjects)) (too_long_for now ticket) subjects
      (λ k d within. one_followed (reads_of view subjects) (get_or subjects k d) (all k d within)))
