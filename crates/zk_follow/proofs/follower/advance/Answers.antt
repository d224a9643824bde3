-- Of no subjects each clause holds, whatever the client says.
use Rattle.std.proofs.Common.{◌≡◌, ◌∙◌, ◌==◌, arith, false, length, sym}
use Rattle.std.proofs.lemmas.Bool.Decides.{Decides-eqb, nat_tests}
use Rattle.zk_client.specs.Clients.{view_of}
use Rattle.zk_follow.proofs.Breaking.{beside, ok_always}
use Rattle.zk_follow.proofs.follower.advance.Goals as goal

pub step_alone-requires : goal.step_alone-requires
step_alone-requires g c =
    let none : length c.args.subjects.now ≡ 0 =
    (Decides-eqb (length c.args.subjects.now) 0).0 (sym c.is_empty.ensures ∙ c.if-is_empty.true) in
    none

pub returns-then-is_empty-clause-followed : goal.returns-then-is_empty-clause-followed
returns-then-is_empty-clause-followed g c =
    let none : length c.args.subjects.now ≡ 0 =
    (Decides-eqb (length c.args.subjects.now) 0).0 (sym c.is_empty.ensures ∙ c.if-is_empty.true) in
    ok_always c.step_alone.result (λ k d within. absurd (omega (arith, within, none)))

pub returns-then-is_empty-clause-counted : goal.returns-then-is_empty-clause-counted
returns-then-is_empty-clause-counted g c =
    let none : length c.args.subjects.now ≡ 0 =
    (Decides-eqb (length c.args.subjects.now) 0).0 (sym c.is_empty.ensures ∙ c.if-is_empty.true) in
    ok_always c.step_alone.result (λ k d within. absurd (omega (arith, within, none)))

pub returns-then-is_empty-clause-ahead : goal.returns-then-is_empty-clause-ahead
returns-then-is_empty-clause-ahead g c =
    let none : length c.args.subjects.now ≡ 0 =
    (Decides-eqb (length c.args.subjects.now) 0).0 (sym c.is_empty.ensures ∙ c.if-is_empty.true) in
    ok_always c.step_alone.result (λ k d within. absurd (omega (arith, within, none)))

pub returns-then-is_empty-clause-found : goal.returns-then-is_empty-clause-found
returns-then-is_empty-clause-found g c =
    ok_always c.step_alone.result c.requires.found

pub returns-then-is_empty-clause-still : goal.returns-then-is_empty-clause-still
returns-then-is_empty-clause-still g c =
    let none : length c.args.subjects.now ≡ 0 =
    (Decides-eqb (length c.args.subjects.now) 0).0 (sym c.is_empty.ensures ∙ c.if-is_empty.true) in
    ok_always c.step_alone.result (λ k d less. absurd (omega (arith, less, c.requires.found.0, none)))

pub returns-then-is_empty-clause-rest : goal.returns-then-is_empty-clause-rest
returns-then-is_empty-clause-rest g c =
    let none : length c.args.subjects.now ≡ 0 =
    (Decides-eqb (length c.args.subjects.now) 0).0 (sym c.is_empty.ensures ∙ c.if-is_empty.true) in
    ok_always c.step_alone.result (λ k d less. absurd (omega (arith, less, c.requires.found.0, none)))

pub returns-in_default-clause-broke : goal.returns-in_default-clause-broke
returns-in_default-clause-broke g c = beside (view_of c.args.client.now)

pub advance_all-requires-clause-rest : goal.advance_all-requires-clause-rest
advance_all-requires-clause-rest g c = c.in-Ok.ensures.rest (view_of c.args.client.now) c.args.waiting.now.items c.requires.rest

pub advance_all-requires-clause-still : goal.advance_all-requires-clause-still
advance_all-requires-clause-still g c = c.in-Ok.ensures.still (view_of c.args.client.now) c.requires.still

pub fit_all-requires-clause-some : goal.fit_all-requires-clause-some
fit_all-requires-clause-some g c =
    let some : (length c.args.subjects.now == 0) ≡ false = sym c.is_empty.ensures ∙ c.if-is_empty.false in
    grind (arith, nat_tests)
