-- The place has a text, which is spelled up to its end: `text_is_within` and `text_is_found`.
use Rattle.std.proofs.Common.{sym, ap, ◌∙◌, arith, length, slice_get}
use Rattle.std.proofs.lemmas.Option.{slice_get_past}
use Rattle.zk_cache.proofs.SpelledLemmas.{length-texts_from, text_is_found, text_is_within}
use Rattle.zk_cache.proofs.joined_texts.JoinedTexts.get.Goals as goal

pub returns-then-index-ends : goal.returns-then-index-ends
returns-then-index-ends g c =
    let count = ap length (sym c.self.view_is) ∙ length-texts_from c.self.inside.spelled.items 0 c.self.inside.ends.items in
    sym (slice_get_past c.args.self.now c.args.index (omega (arith, count, ap length c.as_slice-ends.ensures.value, c.if-index-ends.true)))

pub overflow_add-start : goal.overflow_add-start
overflow_add-start g c =
    let within = text_is_within c.self.inside.spelled.items c.self.inside.spelled.items c.self.inside.ends.items c.as_slice-ends.result.now
    c.args.index c.start_of-start.result (λ i. c.self.inside.spelled.items) c.as_slice-ends.ensures.value c.start_of-start.ensures
    c.if-index-ends.false c.self.invariant in
    omega (arith, within.0, c.type_inv.ends c.args.index)

pub slice_bounds-bytes-count : goal.slice_bounds-bytes-count
slice_bounds-bytes-count g c =
    (text_is_within c.self.inside.spelled.items c.as_slice.result.now c.self.inside.ends.items c.as_slice-ends.result.now c.args.index
    c.start_of-start.result c.as_slice.ensures.value c.as_slice-ends.ensures.value c.start_of-start.ensures c.if-index-ends.false
    c.self.invariant).0

pub slice_bounds-bytes-start : goal.slice_bounds-bytes-start
slice_bounds-bytes-start g c =
    let within = text_is_within c.self.inside.spelled.items c.as_slice.result.now c.self.inside.ends.items c.as_slice-ends.result.now
    c.args.index c.start_of-start.result c.as_slice.ensures.value c.as_slice-ends.ensures.value c.start_of-start.ensures
    c.if-index-ends.false c.self.invariant in
    omega (arith, within.0, within.1.0)

pub slice_bounds-bytes-end : goal.slice_bounds-bytes-end
slice_bounds-bytes-end g c =
    let within = text_is_within c.self.inside.spelled.items c.as_slice.result.now c.self.inside.ends.items c.as_slice-ends.result.now
    c.args.index c.start_of-start.result c.as_slice.ensures.value c.as_slice-ends.ensures.value c.start_of-start.ensures
    c.if-index-ends.false c.self.invariant in
    omega (arith, within.0, within.1.0)

pub from_utf8_unchecked-text-requires : goal.from_utf8_unchecked-text-requires
from_utf8_unchecked-text-requires g c =
    (text_is_within c.self.inside.spelled.items c.as_slice.result.now c.self.inside.ends.items c.as_slice-ends.result.now c.args.index
    c.start_of-start.result c.as_slice.ensures.value c.as_slice-ends.ensures.value c.start_of-start.ensures c.if-index-ends.false
    c.self.invariant).1.1

pub returns : goal.returns
returns g c =
    text_is_found c.self.inside.spelled.items c.as_slice.result.now c.self.inside.ends.items c.as_slice-ends.result.now c.args.index
    c.start_of-start.result c.from_utf8_unchecked-text.result.now c.as_slice.ensures.value c.as_slice-ends.ensures.value
    c.start_of-start.ensures c.if-index-ends.false c.from_utf8_unchecked-text.ensures
    ∙ ap (λ texts. slice_get texts c.args.index) c.self.view_is
