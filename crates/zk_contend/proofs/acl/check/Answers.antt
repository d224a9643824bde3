-- What was read says whether the bytes are an ACL: `read_whole`, `read_none`, `so_of`.
use Rattle.std.proofs.Common.{◌≡◌, ◌∙◌, ℕ, ◌++◌, List, [], Option, Some, None, inl, inr, map, length, option_map}
use Rattle.std.proofs.Common.{refl, sym, ap, subst, rules, arith}
use Rattle.std.proofs.Common.{true≢false}
use Rattle.std.proofs.lemmas.Bool.Decides.{Decides-eqb}
use Rattle.zk_jute.specs.declared.fault.TakeError.TheVariants.{Memory}
use Rattle.zk_records.specs.Request.{acl_of as entry_of}
use Rattle.zk_contend.proofs.Acls.{none_seen, read_none, read_whole, seen_none, so_of}
use Rattle.zk_contend.proofs.Wishes.{no_items}
use Rattle.zk_contend.proofs.acl.check.Goals as goal

pub returns-then-is_empty-clause-refused : goal.returns-then-is_empty-clause-refused
returns-then-is_empty-clause-refused g c memory =
    let list = c.in-Ok.list.elements in
    let none : length c.or_empty.result.now ≡ 0 = (Decides-eqb _ 0).0 (sym c.is_empty-is_empty.ensures ∙ c.if-is_empty.true) in
    read_none c.args.bytes.now c.take.new.at.rest.now (option_map (λ v. map entry_of v.items) list)
    (λ other more fits is. c.in-Ok.ensures.only other more fits (c.new-at.ensures.left ∙ is))
    (inl (none_seen (λ v. v.items) entry_of list (sym (ap length c.or_empty.ensures) ∙ none)))

pub returns-then-not-is_empty-clause-refused : goal.returns-then-not-is_empty-clause-refused
returns-then-not-is_empty-clause-refused g c memory =
    read_none c.args.bytes.now c.take.new.at.rest.now (option_map (λ v. map entry_of v.items) c.in-Ok.list.elements)
    (λ other more fits is. c.in-Ok.ensures.only other more fits (c.new-at.ensures.left ∙ is))
    (inr (λ none. true≢false (sym ((Decides-eqb (length c.rest.result.now) 0).1 (ap length (c.rest.ensures ∙ none)))
    ∙ sym c.is_empty.ensures ∙ c.if-not-is_empty.true)))

pub returns-else-not-is_empty-clause-accepted : goal.returns-else-not-is_empty-clause-accepted
returns-else-not-is_empty-clause-accepted g c =
    let list = c.in-Ok.list.elements in
    let empty = (Decides-eqb (length c.rest.result.now) 0).0 (sym c.is_empty.ensures ∙ c.if-not-is_empty.false) in
    read_whole c.args.bytes.now c.take.new.at.rest.now (option_map (λ v. map entry_of v.items) list) c.in-Ok.ensures.found.0
    (sym c.new-at.ensures.left ∙ c.in-Ok.ensures.found.1) (sym c.rest.ensures ∙ no_items c.rest.result.now empty)
    (λ none. true≢false (sym ((Decides-eqb (length c.or_empty.result.now) 0).1
    (ap length c.or_empty.ensures ∙ seen_none (λ v. v.items) entry_of list none)) ∙ sym c.is_empty-is_empty.ensures ∙ c.if-is_empty.false))

pub returns-in-Err-clause-refused : goal.returns-in-Err-clause-refused
returns-in-Err-clause-refused g c other acl =
    other (c.acl_fault.ensures (so_of c.args.bytes.now (λ value more. c.in-Err.fault ≡ Memory)
    (λ value more fits is. c.in-Err.ensures.only value more fits (c.new-at.ensures.left ∙ is)) acl))
