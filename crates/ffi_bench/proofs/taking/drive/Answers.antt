-- The held server is as the step left it, and the code tells what the step answered: what `drive` of `ffi_handles` ensures.
use Rattle.std.proofs.Common.{◌≡◌, rules, subst}
use Rattle.std.specs.Fn.{FnOnceReturnsAtMut}
use Rattle.ffi_server.specs.declared.server.MemoryServer.{MemoryServer}
use Rattle.ffi_bench.proofs.taking.drive.Goals as goal

pub returns-in-Some-clause-done : goal.returns-in-Some-clause-done
returns-in-Some-clause-done g c = λ before is.
    let drove = c.in-Some.ensures.some in
    let same : drove.0 ≡ before = cc (is, drove.2) in
    let ReturnsFrom = λ (from : MemoryServer). FnOnceReturnsAtMut g.F.FnOnce c.args.step from c.in-Some.done drove.1 in
    (drove.1, c.in-Some.done, drove.3, search rules, subst ReturnsFrom same drove.4)
