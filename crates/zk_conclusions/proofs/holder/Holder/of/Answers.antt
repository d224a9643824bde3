-- A holder is given where the tests show that the session holds (`shows_holder`), so it holds in the history (`held_here`). Where the name
-- is not shown first, no token shows it: `not_first`.
use Rattle.std.proofs.Common.{◌≡◌, arith, w64}
use Rattle.std.proofs.lemmas.Int.{ints}
use mir.Val.{to_z, of_z}
use Rattle.zk_client.specs.Clients.{view_of}
use Rattle.zk_conclusions.proofs.Holding.{held_here}
use Rattle.zk_conclusions.proofs.Shown.{shows_holder, not_first}
use Rattle.zk_conclusions.proofs.holder.Holder.of.Goals as goal

pub returns-then-not-is_shown_first-clause-none : goal.returns-then-not-is_shown_first-clause-none
returns-then-not-is_shown_first-clause-none g c e token shows =
    not_first (view_of c.args.client.now) c.args.directory.now c.args.prefix.now c.args.path.now c.in_ok-own.own.now token
    c.in_ok-own.ensures.some.0
    (λ first. (let k = c.is_shown_first.ensures.1 first in let l = c.if-not-is_shown_first.true in absurd cc)) shows

pub returns-clause-shows : goal.returns-clause-shows
returns-clause-shows g c =
    let same : to_z w64 (of_z w64 c.in_ok-token.token) ≡ c.in_ok-token.token = omega (arith, ints) in
    rw same (shows_holder (view_of c.args.client.now) c.args.directory.now c.args.prefix.now c.args.path.now c.in_ok-own.own.now
    c.in_ok-token.token c.in_ok-own.ensures.some
    (c.is_shown_first.ensures.0 c.if-not-is_shown_first.false) c.in_ok-token.ensures)

pub returns-clause-holds : goal.returns-clause-holds
returns-clause-holds g c h served = held_here h (view_of c.args.client.now) c.args.directory.now c.args.prefix.now c.args.path.now
    (to_z w64 (of_z w64 c.in_ok-token.token)) served (returns-clause-shows g c)
