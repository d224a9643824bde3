-- A standing is given where the tests show it (`shows_standing`), so it is so in the history (`standing_here`). Where a test fails, no
-- token shows it: `not_numbered`, `not_first`, `not_between`. Zxids keep their order as machine integers: `le_as`.
use Rattle.std.proofs.Common.{◌≡◌, ◌≤ℤ◌, ℤ, arith, w64, sym, ◌∙◌, subst}
use Rattle.std.proofs.lemmas.Int.{ints}
use mir.Val.{to_z, of_z}
use Rattle.zk_client.specs.Clients.{view_of}
use Rattle.zk_conclusions.specs.Kinds.{kind_of}
use Rattle.zk_conclusions.proofs.Stands.{standing_here}
use Rattle.zk_conclusions.proofs.ShownFirst.{shows_standing, not_numbered, not_first, not_between, le_as}
use Rattle.zk_conclusions.proofs.standing.Standing.of.Goals as goal

pub returns-then-not-is_numbered-clause-none : goal.returns-then-not-is_numbered-clause-none
returns-then-not-is_numbered-clause-none g c e token shows =
    not_numbered (view_of c.args.client.now) c.args.listing.now.directory.now (kind_of c.args.kind.now)
    c.args.listing.now.names.now c.args.listing.now.zxid c.args.path.now c.in_ok-own.own.now token
    c.in_ok-own.ensures.some
    (sym c.is_numbered.ensures ∙ c.if-not-is_numbered.true) shows

pub returns-then-not-is_first-clause-none : goal.returns-then-not-is_first-clause-none
returns-then-not-is_first-clause-none g c e token shows =
    not_first (view_of c.args.client.now) c.args.listing.now.directory.now (kind_of c.args.kind.now)
    c.args.listing.now.names.now c.args.listing.now.zxid c.args.path.now c.in_ok-own.own.now token
    c.in_ok-own.ensures.some
    (λ first. (let k = c.is_first.ensures.1 first in let l = c.if-not-is_first.true in absurd cc)) shows

pub returns-then-not-is_between-clause-none : goal.returns-then-not-is_between-clause-none
returns-then-not-is_between-clause-none g c e token shows =
    let mine : to_z w64 (of_z w64 c.in_ok-token.token) ≡ c.in_ok-token.token = omega (arith, ints) in
    let its : to_z w64 (of_z w64 c.args.listing.now.zxid) ≡ c.args.listing.now.zxid = omega (arith, ints) in
    let last : to_z w64 (of_z w64 c.last_zxid.result) ≡ c.last_zxid.result = omega (arith, ints) in
    not_between (view_of c.args.client.now) c.args.listing.now.directory.now (kind_of c.args.kind.now)
    c.args.listing.now.names.now c.args.listing.now.zxid c.args.path.now token c.in_ok-token.token c.last_zxid.result
    c.last_zxid.ensures c.in_ok-token.ensures
    (λ low high. (
    let k = c.is_between.ensures.1 (le_as _ _ _ _ (sym mine) (sym its) low, le_as _ _ _ _ (sym its) (sym last) high) in
    let l = c.if-not-is_between.true in
    absurd cc)) shows

pub returns-clause-shows : goal.returns-clause-shows
returns-clause-shows g c =
    let mine : to_z w64 (of_z w64 c.in_ok-token.token) ≡ c.in_ok-token.token = omega (arith, ints) in
    let its : to_z w64 (of_z w64 c.args.listing.now.zxid) ≡ c.args.listing.now.zxid = omega (arith, ints) in
    let last : to_z w64 (of_z w64 c.last_zxid.result) ≡ c.last_zxid.result = omega (arith, ints) in
    let between = c.is_between.ensures.0 c.if-not-is_between.false in
    let low : c.in_ok-token.token ≤ℤ c.args.listing.now.zxid = le_as _ _ _ _ mine its between.0 in
    let high : c.args.listing.now.zxid ≤ℤ c.last_zxid.result = le_as _ _ _ _ its last between.1 in
    let seen : c.args.listing.now.zxid ≤ℤ (view_of c.args.client.now).saved.last =
    subst (λ (z : ℤ). c.args.listing.now.zxid ≤ℤ z) c.last_zxid.ensures high in
    rw mine (shows_standing (view_of c.args.client.now) c.args.listing.now.directory.now (kind_of c.args.kind.now)
    c.args.listing.now.names.now c.args.listing.now.zxid c.args.path.now c.in_ok-own.own.now c.in_ok-token.token
    c.in_ok-own.ensures.some (sym c.is_numbered.ensures ∙ c.if-not-is_numbered.false)
    (c.is_first.ensures.0 c.if-not-is_first.false) c.in_ok-token.ensures low seen)

pub returns-clause-holds : goal.returns-clause-holds
returns-clause-holds g c h served rises all =
    standing_here h (view_of c.args.client.now) c.args.listing.now.directory.now (kind_of c.args.kind.now)
    c.args.listing.now.names.now c.args.listing.now.zxid c.args.path.now
    (to_z w64 (of_z w64 c.in_ok-token.token)) served rises all (returns-clause-shows g c)
