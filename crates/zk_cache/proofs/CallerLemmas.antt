-- What a caller cites of what a cache keeps: what is kept of each text after each call.
use Rattle.std.proofs.Common.{◌≡◌, Bool, true, false, cond, Option, Some, None, bytes_eq, refl, sym, ap, ◌∙◌, if◌then◌else◌}
use Rattle.std.proofs.lemmas.Slice.Eq.{bytes_eq-Decides}
use Rattle.std.specs.Option.{option_map_or}
use Rattle.std.specs.FinMap as finite
use Rattle.std.specs.Cmp.Lexicographic.{slice_cmp}
use Rattle.std.specs.Ordering.{nat_cmp}
use Rattle.zk_nodes.specs.Path.{Text}
use Rattle.zk_cache.specs.declared.held.Mark.{Mark}
use Rattle.zk_cache.specs.declared.held.Mark.TheVariants.{Good, Stale}
use Rattle.zk_cache.specs.Kept.{Answer, Kept, as_good, good, if_good, stale, without_stale, is_good, is_marked_good, merged}
use Rattle.zk_cache.specs.Look.{ByText}
use Rattle.zk_cache.specs.Cache.{Answers, data_kept, names_kept, with_data, stale_at, good_of, KeepsEach}
use Rattle.zk_cache.proofs.LookLemmas.{get-good_of}
pub use Rattle.zk_cache.proofs.LookLemmas.{same, get-insert, insert-same}

-- after an answer was marked stale
pub get-stale_at : {A : Type 0} (m : ByText (Kept A)) (at text : Text)
    → finite.get (stale_at m at) text ≡ (if bytes_eq at text then stale (finite.get m text) else finite.get m text)
get-stale_at {A} m at text = by (finite.get m at) refl
  where
    here : (b : Bool) (r : Option (Kept A)) → (b ≡ true → at ≡ text)
        → finite.get m at ≡ r → (if b then stale r else finite.get m text) ≡ (if b then stale (finite.get m text) else finite.get m text)
    here true r same e = ap stale (sym e ∙ ap (finite.get m) (same refl))
    here false r same e = refl

    kept_out : (b : Bool) → (b ≡ true → at ≡ text) → finite.get m at ≡ None → finite.get m text ≡ (if b then None else finite.get m text)
    kept_out true same e = ap (finite.get m) (sym (same refl)) ∙ e
    kept_out false same e = refl

    by : (r : Option (Kept A)) → finite.get m at ≡ r
        → finite.get (option_map_or (λ kept. finite.insert m at (record { answer = kept.answer; mark = Stale })) r m) text
        ≡ (if bytes_eq at text then stale (finite.get m text) else finite.get m text)
    by None e = kept_out (bytes_eq at text) (bytes_eq-Decides at text).0 e ∙ here (bytes_eq at text) None (bytes_eq-Decides at text).0 e
    by (Some kept) e = get-insert m at (record { answer = kept.answer; mark = Stale }) text
        ∙ here (bytes_eq at text) (Some kept) (bytes_eq-Decides at text).0 e

-- after the stale answers went
pub get-good : {A : Type 0} (m : ByText (Kept A)) (text : Text) → finite.get (good_of m) text ≡ without_stale (finite.get m text)
get-good {A} m text = get-good_of m text ∙ by (finite.get m text)
  where
    by_mark : (answer : A) (mark : Mark) → cond (is_good mark) (Some (record { answer = answer; mark = mark })) None ≡ if_good answer mark
    by_mark answer Good = refl
    by_mark answer Stale = refl

    by : (r : Option (Kept A)) → cond (is_marked_good r) r None ≡ without_stale r
    by None = refl
    by (Some kept) = by_mark kept.answer kept.mark

-- after an answer about the data came
pub get-known : (answers : Answers) (path : Text) (answer : Answer) (text : Text)
    → data_kept (with_data answers path answer) text
    ≡ (if bytes_eq path text then good (merged (data_kept answers text) answer) else data_kept answers text)
get-known answers path answer text =
    get-insert answers.data_answers path (as_good (merged (data_kept answers path) answer)) text
    ∙ by (bytes_eq path text) (bytes_eq-Decides path text).0
  where
    by : (b : Bool) → (b ≡ true → path ≡ text)
        → (if b then good (merged (data_kept answers path) answer) else data_kept answers text)
        ≡ (if b then good (merged (data_kept answers text) answer) else data_kept answers text)
    by true same = ap (λ t. good (merged (data_kept answers t) answer)) (same refl)
    by false same = refl

-- what each call keeps of each text
pub keeps_each : (answers : Answers) → KeepsEach answers
keeps_each answers = record {
  nothing = λ text. (finite.get-empty (slice_cmp nat_cmp) text, finite.get-empty (slice_cmp nat_cmp) text);
  known = get-known answers;
  listed = λ path names text. get-insert answers.child_answers path (as_good names) text;
  spoilt_data = λ at text. get-stale_at answers.data_answers at text;
  spoilt_names = λ at text. get-stale_at answers.child_answers at text;
  forgotten = λ text. (get-good answers.data_answers text, get-good answers.child_answers text);
}

-- Two caches that keep the same of each text are one.
pub same_answers : (a b : Answers) → ((text : Text) → data_kept a text ≡ data_kept b text)
    → ((text : Text) → names_kept a text ≡ names_kept b text) → a ≡ b
same_answers a b data_same names_same = λ i. record {
  data_answers = same a.data_answers b.data_answers data_same i;
  child_answers = same a.child_answers b.child_answers names_same i;
}
