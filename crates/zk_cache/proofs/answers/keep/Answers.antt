-- The path has its own answer changed alone, to what `renew` ensures: `hash_map_updates_text`. A new path begins with an answer that does
-- not stay: `from-nothing`.
use Rattle.std.proofs.Common.{◌≡◌, arith, ap, refl, ◌∙◌, Option, Some, None, unwrap_or, string_bytes}
use Rattle.std.proofs.lemmas.Map.Text.{hash_map_updates_text}
use Rattle.indexmap.specs.IndexMap.{get_by_text}
use Rattle.indexmap.specs.Entry.{map_with_value}
use Rattle.zk_cache.specs.Kept.{Kept}
use Rattle.zk_cache.specs.declared.held.Mark.TheVariants.{Stale}
use Rattle.zk_cache.specs.declared.answers.DataAnswer.{DataAnswer}
use Rattle.zk_cache.specs.declared.answers.DataAnswer.TheVariants.{Absent}
use Rattle.zk_cache.specs.inner.Renewed.{renewed, with_answer}
use Rattle.zk_cache.proofs.answers.keep.Goals as goal

-- what a new path begins with
abbrev at_first : {A : Type 0} → Kept (DataAnswer A)
at_first = record { answer = Absent; mark = Stale }

from-nothing : {A : Type 0} (kept : Option (Kept (DataAnswer A))) (answer : DataAnswer A)
    → Some (renewed (unwrap_or kept at_first) answer) ≡ with_answer kept answer
from-nothing None answer = refl
from-nothing (Some kept) answer = refl

pub returns-clause-ok : goal.returns-clause-ok
returns-clause-ok g c =
    λ other.
    let key = string_bytes c.args.path in
    let entry = c.in_ok-map.field-0 in
    let sets = hash_map_updates_text key c.args.map.now (map_with_value entry c.renew.new.kept) _
    (c.in_ok-map.ensures.update.0 c.renew.new.kept) other in
    let kept : Some c.renew.new.kept ≡ with_answer (get_by_text c.args.map.now key) c.args.answer =
    (λ i. Some (c.renew.ensures i))
    ∙ ap (λ kept. Some (renewed kept c.args.answer)) c.or_insert-kept.ensures.value
    ∙ ap (λ o. Some (renewed (unwrap_or o at_first) c.args.answer)) c.in_ok-map.ensures.value
    ∙ from-nothing (get_by_text c.args.map.now key) c.args.answer in
    grind (arith, sets, kept)
