-- A name of another family, or it is stuck; else nothing is in its way (`no_obstacle`).
use Rattle.std.proofs.Common.{◌≡◌, ◌∙◌, Some, arith, ap, length, refl, sym, true≢false}
use Rattle.std.proofs.lemmas.Bool.Decides.{Decides-eqb}
use Rattle.zk_client.specs.Clients.{view_of}
use Rattle.zk_contend.specs.declared.place.Place.TheVariants.{At}
use Rattle.zk_contend.proofs.Wishes.{no_items, no_obstacle}
use Rattle.zk_contend.proofs.contender.LockContender.obstacle_at.Goals as goal

pub returns-then-not-is_empty-clause-none : goal.returns-then-not-is_empty-clause-none
returns-then-not-is_empty-clause-none g c e =
    let behind = c.args.listed.now.behind in
    no_obstacle (view_of c.args.client.now) c.args.self.now.directory c.args.self.now.naming (At c.args.own.now (Some c.args.listed.now))
    (sym c.is_mixed_by.ensures ∙ c.if-is_mixed_by.false)
    (λ stuck. let none : behind.len ≡ 0 = omega (arith, ap length stuck.0, behind.ok.0) in
    true≢false (sym ((Decides-eqb behind.len 0).1 none) ∙ sym c.is_empty.ensures ∙ c.if-not-is_empty.true))

pub returns-then-not-shows_own-clause-none : goal.returns-then-not-shows_own-clause-none
returns-then-not-shows_own-clause-none g c e =
    no_obstacle (view_of c.args.client.now) c.args.self.now.directory c.args.self.now.naming (At c.args.own.now (Some c.args.listed.now))
    (sym c.is_mixed_by.ensures ∙ c.if-is_mixed_by.false)
    (λ stuck. true≢false (sym stuck.1.shown ∙ sym c.shows_own.ensures ∙ c.if-not-shows_own.true))

pub returns-in-Some-clause-none : goal.returns-in-Some-clause-none
returns-in-Some-clause-none g c e =
    no_obstacle (view_of c.args.client.now) c.args.self.now.directory c.args.self.now.naming (At c.args.own.now (Some c.args.listed.now))
    (sym c.is_mixed_by.ensures ∙ c.if-is_mixed_by.false)
    (λ stuck. stuck.1.never _ c.in-Some.ensures.shows)

pub returns-in-None-clause-some : goal.returns-in-None-clause-some
returns-in-None-clause-some g c =
    let behind = c.args.listed.now.behind in
    let none = (Decides-eqb behind.len 0).0 (sym c.is_empty.ensures ∙ c.if-not-is_empty.false) in
    let empty : length behind.items ≡ 0 = omega (arith, none, behind.ok.0) in (
      sym c.is_mixed_by.ensures ∙ c.if-is_mixed_by.false,
      (
        no_items behind.items empty,
        record { shown = sym c.shows_own.ensures ∙ c.if-not-shows_own.false; never = c.in-None.ensures.none refl },
      ),
    )
