-- What comes into a cache, and what a look-up sees.
use Rattle.std.proofs.Common.{◌≡◌, ℕ, Bool, List, true, false, Option, Some, None, Result, Ok, Err, OnOk, String, bytes_eq, option_map}
use Rattle.std.proofs.Common.{refl, sym, ap, ◌∙◌, true≢false, if◌then◌else◌}
use Rattle.std.specs.FinMap as finite
use Rattle.indexmap.specs.IndexMap.{IndexMap, get_by_text}
use Rattle.zk_cache.specs.declared.answers.DataAnswer.{DataAnswer}
use Rattle.zk_cache.specs.declared.held.Kept.{Kept}
use Rattle.zk_cache.specs.declared.held.Mark.{Mark}
use Rattle.zk_cache.specs.declared.held.Mark.TheVariants.{Good, Stale}
use Rattle.zk_cache.specs.Look.{as_map}
use Rattle.zk_cache.specs.Kept.{Answer, Absent, Known, Full, as_good, merged}
use Rattle.zk_cache.specs.inner.Covered.{stays}
use Rattle.zk_cache.specs.Contents.{answer_of, seen_by}
use Rattle.zk_cache.specs.inner.Renewed.{with_answer}
use Rattle.zk_cache.proofs.LookLemmas.{same, get-insert, get-as_map}

-- what follows from a fact of a success
pub on_ok : {T E P Q : Type 0} (r : Result T E) → (P → Q) → OnOk r P → OnOk r Q
on_ok (Ok x) f h = f h
on_ok (Err e) f h = h

-- only a good answer stays
stays-good : (kept : Answer) (mark : Mark) (new : Answer) → stays kept mark new ≡ true → mark ≡ Good
stays-good kept Good new h = refl
stays-good Absent Stale new h = absurd (true≢false (sym h))
stays-good (Known stat) Stale new h = absurd (true≢false (sym h))
stays-good (Full bytes stat) Stale new h = absurd (true≢false (sym h))

-- what is kept is the old answer or the new one
merged-stays : (kept : Answer) (mark : Mark) (new : Answer)
    → merged (Some (record { answer = kept; mark = mark })) new ≡ (if stays kept mark new then kept else new)
merged-stays Absent Good Absent = refl
merged-stays Absent Good (Known new) = refl
merged-stays Absent Good (Full others new) = refl
merged-stays Absent Stale Absent = refl
merged-stays Absent Stale (Known new) = refl
merged-stays Absent Stale (Full others new) = refl
merged-stays (Known stat) Good Absent = refl
merged-stays (Known stat) Good (Known new) = refl
merged-stays (Known stat) Good (Full others new) = refl
merged-stays (Known stat) Stale Absent = refl
merged-stays (Known stat) Stale (Known new) = refl
merged-stays (Known stat) Stale (Full others new) = refl
merged-stays (Full bytes stat) Good Absent = refl
merged-stays (Full bytes stat) Good (Known new) = refl
merged-stays (Full bytes stat) Good (Full others new) = refl
merged-stays (Full bytes stat) Stale Absent = refl
merged-stays (Full bytes stat) Stale (Known new) = refl
merged-stays (Full bytes stat) Stale (Full others new) = refl

merged-none : (new : Answer) → merged None new ≡ new
merged-none Absent = refl
merged-none (Known stat) = refl
merged-none (Full bytes stat) = refl

-- the answer that is kept then, seen
seen-with_answer : {B : Type 0} (o : Option (Kept (DataAnswer B))) (answer : DataAnswer B)
    → option_map (seen_by answer_of) (with_answer o answer) ≡ Some (as_good (merged (option_map (seen_by answer_of) o) (answer_of answer)))
seen-with_answer None answer = ap (λ a. Some (as_good a)) (sym (merged-none (answer_of answer)))
seen-with_answer (Some held) answer = by (stays (answer_of held.answer) held.mark (answer_of answer)) refl
  where
    is : (b : Bool) → stays (answer_of held.answer) held.mark (answer_of answer) ≡ b
        → merged (Some (seen_by answer_of held)) (answer_of answer) ≡ (if b then answer_of held.answer else answer_of answer)
    is b e = merged-stays (answer_of held.answer) held.mark (answer_of answer)
        ∙ ap (λ c. if c then answer_of held.answer else answer_of answer) e

    by : (b : Bool) → stays (answer_of held.answer) held.mark (answer_of answer) ≡ b
        → Some (seen_by answer_of (if b then held else as_good answer))
        ≡ Some (as_good (merged (Some (seen_by answer_of held)) (answer_of answer)))
    by true e =
        ap (λ mark. Some (record { answer = answer_of held.answer; mark = mark }))
        (stays-good (answer_of held.answer) held.mark (answer_of answer) e)
        ∙ ap (λ a. Some (as_good a)) (sym (is true e))
    by false e = ap (λ a. Some (as_good a)) (sym (is false e))

-- after an answer about the node itself came
pub as_map-with_answer : {A B S : Type 0} (m n : IndexMap (String A) (Kept (DataAnswer B)) S) (path : List ℕ) (answer : DataAnswer B)
    → ((other : List ℕ) → get_by_text n other
    ≡ (if bytes_eq path other then with_answer (get_by_text m path) answer else get_by_text m other))
    → as_map (seen_by answer_of) n
    ≡ finite.insert (as_map (seen_by answer_of) m) path
    (as_good (merged (finite.get (as_map (seen_by answer_of) m) path) (answer_of answer)))
as_map-with_answer m n path answer h =
    same (as_map (seen_by answer_of) n) (finite.insert (as_map (seen_by answer_of) m) path new)
    (λ other.
    get-as_map (seen_by answer_of) n other ∙ ap (option_map (seen_by answer_of)) (h other)
    ∙ by (bytes_eq path other) other
    ∙ sym (get-insert (as_map (seen_by answer_of) m) path new other))
  where
    new : Kept Answer
    new = as_good (merged (finite.get (as_map (seen_by answer_of) m) path) (answer_of answer))

    by : (b : Bool) (other : List ℕ)
        → option_map (seen_by answer_of) (if b then with_answer (get_by_text m path) answer else get_by_text m other)
        ≡ (if b then Some new else finite.get (as_map (seen_by answer_of) m) other)
    by true other =
        seen-with_answer (get_by_text m path) answer
        ∙ ap (λ o. Some (as_good (merged o (answer_of answer)))) (sym (get-as_map (seen_by answer_of) m path))
    by false other = sym (get-as_map (seen_by answer_of) m other)
