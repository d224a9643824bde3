-- At first nothing is found (`found_none`), and `found_with` adds each name. At the end the last rival before `own` is found
-- (`found_some`), or none is there (`found_first`).
use Rattle.std.proofs.Common.{◌≡◌, length, arith}
use Rattle.zk_conclusions.specs.Kinds.{kind_of}
use Rattle.zk_conclusions.proofs.Later.{found_none, found_at_end, found_some, found_first}
use Rattle.zk_conclusions.proofs.listing.last_before.Goals as goal

pub loop-place-init : goal.loop-place-init
loop-place-init g c = found_none (kind_of c.args.kind.now) c.args.names.now c.args.own.now

pub loop-place-preserved : goal.loop-place-preserved
loop-place-preserved g c = c.found_with-last.ensures

pub returns-clause-within : goal.returns-clause-within
returns-clause-within g c =
    found_at_end (kind_of c.args.kind.now) c.args.names.now c.args.own.now c.loop-place.place c.loop-place.last
    (length c.args.names.now) c.loop-place.invariant (omega (arith, c.len-place-end.ensures))

pub returns-clause-some : goal.returns-clause-some
returns-clause-some g c =
    let end : c.loop-place.place ≡ length c.args.names.now = omega (arith, c.len-place-end.ensures) in
    found_some (kind_of c.args.kind.now) c.args.names.now c.args.own.now c.loop-place.place c.loop-place.last end c.loop-place.invariant

pub returns-clause-none : goal.returns-clause-none
returns-clause-none g c e =
    let end : c.loop-place.place ≡ length c.args.names.now = omega (arith, c.len-place-end.ensures) in
    found_first (kind_of c.args.kind.now) c.args.names.now c.args.own.now c.loop-place.place c.loop-place.last end c.loop-place.invariant e
