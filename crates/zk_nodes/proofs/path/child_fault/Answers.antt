-- The tests decide the fault in the order of the definition: a slash, a text that is too long (`child_fault-long`), then a refused
-- character or dots, or none (`child_fault-short`); `any` over the characters tells what `is_refused` does.
use Rattle.std.proofs.Common.{◌≡◌, rules, tests, arith, true, false, refl, sym, ◌∙◌}
use Rattle.std.proofs.lemmas.Iterator.{YieldsList-from_chars}
use Rattle.std.proofs.lemmas.Iterator.Search.{any_from_yields_List}
use Rattle.zk_nodes.specs.PathFault.{is_refused, is_dots}
use Rattle.zk_nodes.proofs.Children.{slash_in, one_name, filled, one_dot, two_dots, no_dots, child_fault-long, child_fault-short}
use Rattle.zk_nodes.proofs.path.child_fault.Goals.{then-eq-via-then-eq, then-eq-via-else-eq+then-eq-2}
use Rattle.zk_nodes.proofs.path.child_fault.Goals as goal

pub returns-then-contains : goal.returns-then-contains
returns-then-contains c =
    let slash = slash_in c.as_bytes.result.now c.args.name.now c.contains.result c.as_bytes.ensures.value
    c.contains.ensures.value c.if-contains.true in
    rw slash refl

pub returns-then-child_len-gt-LONGEST_PATH : goal.returns-then-child_len-gt-LONGEST_PATH
returns-then-child_len-gt-LONGEST_PATH c =
    let one = one_name c.as_bytes.result.now c.args.name.now c.contains.result c.as_bytes.ensures.value
    c.contains.ensures.value c.if-contains.false in
    let some = filled c.args.name.now (search rules) in
    sym (child_fault-long c.args.above.now c.args.name.now c.requires c.utf8.above some one
    (omega (arith, c.if-child_len-gt-LONGEST_PATH.true, c.child_len.ensures)))

pub returns-then-any : goal.returns-then-any
returns-then-any c =
    let one = one_name c.as_bytes.result.now c.args.name.now c.contains.result c.as_bytes.ensures.value
    c.contains.ensures.value c.if-contains.false in
    let some = filled c.args.name.now (search rules) in
    let r = any_from_yields_List is_refused _ _ c.any.result c.any.ensures.ran
    (YieldsList-from_chars c.args.name.now c.utf8.name c.chars.ensures.rest) (λ x b q k. search (rules, tests)) in
    sym (child_fault-short c.args.above.now c.args.name.now c.requires c.utf8.above some one
    (omega (arith, c.if-child_len-gt-LONGEST_PATH.false, c.child_len.ensures)) c.any.result (is_dots c.args.name.now) r refl
    ∙ rw c.if-any.true refl)

pub returns-then-eq : goal.returns-then-eq
returns-then-eq c =
    let one = one_name c.as_bytes.result.now c.args.name.now c.contains.result c.as_bytes.ensures.value
    c.contains.ensures.value c.if-contains.false in
    let some = filled c.args.name.now (search rules) in
    let r = any_from_yields_List is_refused _ _ c.any.result c.any.ensures.ran
    (YieldsList-from_chars c.args.name.now c.utf8.name c.chars.ensures.rest) (λ x b q k. search (rules, tests)) in
    let dots : true ≡ is_dots c.args.name.now = elim c.then-eq.branch [
      | then-eq-via-then-eq w ↦ one_dot c.args.name.now c.eq.result c.eq.ensures w.if-eq.true
      | then-eq-via-else-eq+then-eq-2 w ↦ two_dots c.args.name.now w.eq-else-eq.result w.eq-else-eq.ensures w.if-eq-2.true
    ] in
    sym (child_fault-short c.args.above.now c.args.name.now c.requires c.utf8.above some one
    (omega (arith, c.if-child_len-gt-LONGEST_PATH.false, c.child_len.ensures)) c.any.result true r dots ∙ rw c.if-any.false refl)

pub returns : goal.returns
returns c =
    let one = one_name c.as_bytes.result.now c.args.name.now c.contains.result c.as_bytes.ensures.value
    c.contains.ensures.value c.if-contains.false in
    let some = filled c.args.name.now (search rules) in
    let r = any_from_yields_List is_refused _ _ c.any.result c.any.ensures.ran
    (YieldsList-from_chars c.args.name.now c.utf8.name c.chars.ensures.rest) (λ x b q k. search (rules, tests)) in
    sym (child_fault-short c.args.above.now c.args.name.now c.requires c.utf8.above some one
    (omega (arith, c.if-child_len-gt-LONGEST_PATH.false, c.child_len.ensures)) c.any.result false r (no_dots c.args.name.now c.eq.result
    c.eq-else-eq.result c.eq.ensures c.if-eq.false c.eq-else-eq.ensures c.if-eq-2.false) ∙ rw c.if-any.false refl)
