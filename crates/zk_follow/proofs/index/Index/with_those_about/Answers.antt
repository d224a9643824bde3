-- Where no output is about each subject, those whom one is about are named, or an answer is beside them: `all_named`.
use Rattle.std.proofs.Common.{◌≡◌, ◌∙◌, arith, get_or, inl, inr, length, sym}
use Rattle.std.proofs.lemmas.Bool.Decides.{Decides-eqb}
use Rattle.zk_client.specs.Views.{said}
use Rattle.zk_follow.proofs.Beside.{none_beside}
use Rattle.zk_follow.proofs.Finding.{all_named}
use Rattle.zk_follow.proofs.index.Index.with_those_about.Goals as goal

pub returns-clause-below : goal.returns-clause-below
returns-clause-below g c =
    c.put_in_order.ensures.below c.args.self.now.count (c.in_ok-add_all_beside.ensures.below c.in_ok-all.ensures.below)

pub returns-clause-had : goal.returns-clause-had
returns-clause-had g c = λ at fits e.
    c.put_in_order.ensures.has at (c.in_ok-add_all_beside.ensures.had at fits (c.in_ok-all.ensures.had at fits e))

pub returns-clause-about : goal.returns-clause-about
returns-clause-about g c = λ k d fits e.
    let s = get_or c.args.subjects.now k d in
    c.put_in_order.ensures.has k
    (elim (all_named c.args.is_foreign c.args.subjects.now s.ticket s.path (said c.args.outputs.now)
    (sym c.has_one_about_all.ensures ∙ c.if-has_one_about_all.false) e) [
      | inl named ↦ c.in_ok-add_all_beside.ensures.had k fits (c.in_ok-all.ensures.named k d fits named)
      | inr beside ↦ c.in_ok-add_all_beside.ensures.beside k d fits beside
    ])

pub returns-clause-beside : goal.returns-clause-beside
returns-clause-beside g c = λ k d fits e. c.put_in_order.ensures.has k (c.in_ok-add_all_beside.ensures.beside k d fits e)

pub returns-then-is_empty-clause-about : goal.returns-then-is_empty-clause-about
returns-then-is_empty-clause-about g c = λ k d fits e.
    let s = get_or c.args.subjects.now k d in
    let size = (Decides-eqb c.in_ok-all.all.len 0).0 (sym c.is_empty.ensures ∙ c.if-is_empty.true) in
    let none : length c.in_ok-all.all.items ≡ 0 = omega (arith, size, c.in_ok-all.all.ok.0) in
    elim (all_named c.args.is_foreign c.args.subjects.now s.ticket s.path (said c.args.outputs.now)
    (sym c.has_one_about_all.ensures ∙ c.if-has_one_about_all.false) e) [
      | inl named ↦ c.in_ok-all.ensures.named k d fits named
      | inr beside ↦ absurd (none_beside c.args.subjects.now c.args.self.now.count (said c.args.outputs.now) c.in_ok-all.all.items
          c.requires.count none c.in_ok-all.ensures.named s.path beside)
    ]

pub returns-then-is_empty-clause-beside : goal.returns-then-is_empty-clause-beside
returns-then-is_empty-clause-beside g c = λ k d fits e.
    let size = (Decides-eqb c.in_ok-all.all.len 0).0 (sym c.is_empty.ensures ∙ c.if-is_empty.true) in
    let none : length c.in_ok-all.all.items ≡ 0 = omega (arith, size, c.in_ok-all.all.ok.0) in
    absurd (none_beside c.args.subjects.now c.args.self.now.count (said c.args.outputs.now) c.in_ok-all.all.items c.requires.count none
    c.in_ok-all.ensures.named (get_or c.args.subjects.now k d).path e)
