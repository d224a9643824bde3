-- Two refusals as `NoTransaction`, by arithmetic: the moment is 2^63 or later, or the last zxid is the greatest, so the next is 2^63.
use Rattle.std.proofs.Common.{◌≡◌, ◌≤◌, ◌^◌, ◌+◌, pos, inl, inr, refl, arith, rules}
use Rattle.std.proofs.lemmas.Int.{ints}
use Rattle.zk_nodes.specs.History.{newest}
use Rattle.ffi_server.proofs.server.MemoryServer.append.Goals as goal

pub returns-then-now_ms : goal.returns-then-now_ms
returns-then-now_ms c =
    let late : 2 ^ 63 ≤ c.args.now_ms = omega arith in
    (inl late, refl)

pub returns-then-last_zxid-eq9223372036854775807 : goal.returns-then-last_zxid-eq9223372036854775807
returns-then-last_zxid-eq9223372036854775807 c =
    let last : c.last_zxid.result ≡ pos (newest 0 c.args.self.now.bench.history.transactions) = search rules in
    let top : c.last_zxid.result ≡ pos 9223372036854775807 = omega (arith, ints) in
    let full : 2 ^ 63 ≤ newest 0 c.args.self.now.bench.history.transactions + 1 = omega (arith, ints, top, last) in
    (inr full, refl)
