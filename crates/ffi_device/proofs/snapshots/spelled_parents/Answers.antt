-- The text spells the names kept below each path: one path more by `written_one`, and when no path is left `written_all`.
use Rattle.std.proofs.Common.{◌+◌, ◌<◌, arith, drop, length}
use Rattle.std.proofs.lemmas.List.{drop_all}
use Rattle.zk_client.specs.Clients.{view_of}
use Rattle.ffi_device.proofs.Parents.{next_left, written_all, written_one}
use Rattle.ffi_device.proofs.snapshots.spelled_parents.Goals as goal

pub loop-path-preserved : goal.loop-path-preserved
loop-path-preserved c =
    let paths = c.args.paths.now in
    let i = c.loop-path.path-index in
    let path = c.path-item.result in
    let low : i < length paths = omega (arith, c.loop-path-test.true, c.loop-path.auto.path-index-end) in
    written_one (view_of c.args.client.now).cache path (drop i paths)
    (drop (i + 1) paths) paths c.loop-path.text.items c.write_names.new.text.items c.in-Ok.ensures.0
    (next_left paths i path low c.path-item.is) c.loop-path.invariant c.in-Ok.ensures.1 c.in-Ok.ensures.2

pub returns : goal.returns
returns c =
    written_all (view_of c.args.client.now).cache (drop c.loop-path.path-index c.args.paths.now) c.args.paths.now c.loop-path.text.items
    (drop_all c.loop-path.path-index c.args.paths.now c.loop-path-test.false) c.loop-path.invariant
