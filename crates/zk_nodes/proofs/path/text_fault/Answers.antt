-- A plain text has no fault (`fault_of-plain`). Else `any` over the characters tells whether one is refused: if so, that is the fault
-- (`fault_of-refused`); if not, the fault is that of the names (`fault_of-names`).
use Rattle.std.proofs.Common.{rules, tests, arith, sym, ◌∙◌, ap}
use Rattle.std.proofs.lemmas.Iterator.{YieldsList-from_chars}
use Rattle.std.proofs.lemmas.Iterator.Search.{any_from_yields_List}
use Rattle.zk_nodes.specs.Path.{path_of}
use Rattle.zk_nodes.specs.PathFault.{fault_of_names, is_refused}
use Rattle.zk_nodes.specs.inner.Plain.{IsPlain}
use Rattle.zk_nodes.proofs.PathLemmas.{fault_of-refused, fault_of-names}
use Rattle.zk_nodes.proofs.PlainLemmas.{fault_of-plain}
use Rattle.zk_nodes.proofs.path.text_fault.Goals as goal

pub returns-then-is_plain : goal.returns-then-is_plain
returns-then-is_plain c =
    let plain : IsPlain c.args.text.now = search rules in
    sym (fault_of-plain c.args.text.now (search rules) (omega arith) (search rules) plain)

pub returns-then-any : goal.returns-then-any
returns-then-any c =
    let r = any_from_yields_List is_refused _ _ c.any.result c.any.ensures.ran
    (YieldsList-from_chars c.args.text.now c.utf8.text c.chars.ensures.rest) (λ x b q k. search (rules, tests)) in
    sym (fault_of-refused c.args.text.now (search rules) (omega arith) (search rules) (sym r ∙ c.if-any.true))

pub returns : goal.returns
returns c =
    let r = any_from_yields_List is_refused _ _ c.any.result c.any.ensures.ran
    (YieldsList-from_chars c.args.text.now c.utf8.text c.chars.ensures.rest) (λ x b q k. search (rules, tests)) in
    c.name_fault.ensures ∙ ap (λ t. fault_of_names (path_of t)) c.as_bytes-3.ensures.value
    ∙ sym (fault_of-names c.args.text.now (search rules) (omega arith) (search rules) (sym r ∙ c.if-any.false))
