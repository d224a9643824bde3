-- One name more: one that is not later leaves what was found (`found_still`), and one that is becomes the last found (`found_here`).
use Rattle.std.proofs.Common.{◌≡◌, ◌+◌, ℕ, suc, true, false, length, sym, ap, ◌∙◌, subst, arith}
use Rattle.zk_conclusions.specs.Kinds.{kind_of}
use Rattle.zk_conclusions.specs.inner.Predecessors.{Found, IsLastOf, is_later, name_at}
use Rattle.zk_conclusions.proofs.Later.{found_within, found_still, found_here}
use Rattle.zk_conclusions.proofs.listing.found_with.Goals as goal

pub is_later-requires : goal.is_later-requires
is_later-requires g c = found_within (kind_of c.args.kind.now) c.args.names.now c.args.own.now c.args.place c.args.last
    (length c.args.names.now) c.requires.found c.requires.place

pub returns-then-not-is_later : goal.returns-then-not-is_later
returns-then-not-is_later g c =
    let names = c.args.names.now in
    let none : is_later (kind_of c.args.kind.now) names c.args.own.now c.args.last (name_at names c.args.place) ≡ false =
    ap (is_later (kind_of c.args.kind.now) names c.args.own.now c.args.last) (sym c.name_at.ensures)
    ∙ (sym c.is_later.ensures ∙ c.if-not-is_later.true) in
    let next : suc c.args.place ≡ c.args.place + 1 = omega arith in
    subst (λ (n : ℕ). Found (kind_of c.args.kind.now) names c.args.own.now n c.args.last) next
    (found_still (kind_of c.args.kind.now) names c.args.own.now c.args.place c.args.last c.requires.place c.requires.found none)

pub returns : goal.returns
returns g c =
    let names = c.args.names.now in
    let later : is_later (kind_of c.args.kind.now) names c.args.own.now c.args.last (name_at names c.args.place) ≡ true =
    ap (is_later (kind_of c.args.kind.now) names c.args.own.now c.args.last) (sym c.name_at.ensures)
    ∙ (sym c.is_later.ensures ∙ c.if-not-is_later.false) in
    let next : suc c.args.place ≡ c.args.place + 1 = omega arith in
    subst (λ (n : ℕ). IsLastOf (kind_of c.args.kind.now) names c.args.own.now n c.args.place) next
    (found_here (kind_of c.args.kind.now) names c.args.own.now c.args.place c.args.last c.requires.place c.requires.found later)
