-- The index is of all subjects, and no place is awake, and none waits: `all_quiet`.
use Rattle.std.proofs.Common.{◌≡◌, ◌++◌, arith, length, rules}
use Rattle.std.proofs.lemmas.List.{length-append}
use Rattle.zk_client.specs.Clients.{view_of}
use Rattle.zk_follow.proofs.Passing.{all_quiet}
use Rattle.zk_follow.proofs.follower.Follower.are_quiet.Goals as goal

pub returns-then-is_empty : goal.returns-then-is_empty
returns-then-is_empty g c = λ whole.
    let old = c.args.self.now in
    let awake : length old.awake.items ≡ 0 = search rules in
    let waiting : length old.waiting.items ≡ 0 = search rules in
    let none : length (old.awake.items ++ old.waiting.items) ≡ 0 =
    omega (arith, awake, waiting, length-append old.awake.items old.waiting.items) in
    let all : old.index.count ≡ length old.subjects.items = search rules in
    all_quiet (view_of old.client) old.index.count old.subjects.items (old.awake.items ++ old.waiting.items) none all old.rest
