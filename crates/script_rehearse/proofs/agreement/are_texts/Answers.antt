-- Step by step what is left of both is the same or not: `one_more`, `one_other` and `none_more`, from what the steps ensure.
use Rattle.std.proofs.Common.{◌∙◌, ap, sym, map, arith}
use Rattle.std.proofs.lemmas.Bool.{true≢false}
use Rattle.std.proofs.lemmas.Bool.Decides.{Decides-eqb}
use Rattle.std.proofs.lemmas.Option.{slice_get_within}
use Rattle.std.specs.Prelude.{string_bytes, Some}
use Rattle.script_rehearse.proofs.GoodLemmas.{none_more, one_more, one_other}
use Rattle.script_rehearse.proofs.agreement.are_texts.Goals as goal

pub returns-then-not-is_name-clause-same : goal.returns-then-not-is_name-clause-same
returns-then-not-is_name-clause-same g c =
    one_other c.args.names.now (map string_bytes c.args.texts.now.keys) c.loop-text.index (string_bytes c.in-Some.text.now)
    (map string_bytes c.loop-text.text-iterator)
    (map string_bytes c.next.new.self)
    (λ is. true≢false (sym (c.is_name.ensures.1 (is ∙ ap Some (sym c.as_str.ensures.value))) ∙ c.if-not-is_name.true))
    (ap (map string_bytes) c.in-Some.ensures.steps)
    c.loop-text.invariant.left

pub overflow_add-index : goal.overflow_add-index
overflow_add-index g c =
    omega
    (arith, slice_get_within c.args.names.now c.loop-text.index _ (c.is_name.ensures.0 c.if-not-is_name.false), c.len-count.ensures.len)

pub loop-text-preserved : goal.loop-text-preserved
loop-text-preserved g c =
    let is = c.is_name.ensures.0 c.if-not-is_name.false ∙ ap Some c.as_str.ensures.value in
    record {
      within = omega (arith, slice_get_within c.args.names.now c.loop-text.index _ is);
      left = one_more c.args.names.now (map string_bytes c.args.texts.now.keys) c.loop-text.index (string_bytes c.in-Some.text.now)
          (map string_bytes c.loop-text.text-iterator)
          (map string_bytes c.next.new.self) is (ap (map string_bytes) c.in-Some.ensures.steps) c.loop-text.invariant.left;
    }

pub returns-clause-same : goal.returns-clause-same
returns-clause-same g c =
    none_more c.args.names.now (map string_bytes c.args.texts.now.keys) c.loop-text.index c.len-count.result _
    (map string_bytes c.loop-text.text-iterator)
    c.loop-text.invariant.within c.len-count.ensures.len (Decides-eqb c.loop-text.index c.len-count.result)
    (ap (map string_bytes) c.in-None.ensures.steps.0)
    c.loop-text.invariant.left
