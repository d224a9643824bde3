-- What is found, quiet or own is so beside one more subject: `found_pushed`, `but_pushed`, `own_pushed`.
use Rattle.std.proofs.Common.{◌++◌}
use Rattle.std.specs.Prelude.{is_ok}
use Rattle.zk_client.specs.Clients.{view_of}
use Rattle.zk_follow.specs.Following.{is_quiet, is_still}
use Rattle.zk_follow.proofs.Finding.{but_pushed, found_pushed}
use Rattle.zk_follow.proofs.Owned.{own_pushed}
use Rattle.zk_follow.proofs.follower.Follower.follow.Goals as goal

pub invariant_of-self-clause-found : goal.invariant_of-self-clause-found
invariant_of-self-clause-found g c =
    found_pushed (is_ok c.push.result) c.args.self.now.index c.args.self.now.subjects.items c.push.new.self.items c.new.result
    c.push.ensures.items c.args.self.now.found

pub invariant_of-self-clause-still : goal.invariant_of-self-clause-still
invariant_of-self-clause-still g c =
    but_pushed (is_still (view_of c.args.self.now.client)) (is_ok c.push.result) c.args.self.now.index.count c.args.self.now.subjects.items
    c.push.new.self.items c.new.result c.args.self.now.awake.items c.push.ensures.items c.args.self.now.found.0 c.args.self.now.still

pub invariant_of-self-clause-rest : goal.invariant_of-self-clause-rest
invariant_of-self-clause-rest g c =
    but_pushed (is_quiet (view_of c.args.self.now.client)) (is_ok c.push.result) c.args.self.now.index.count c.args.self.now.subjects.items
    c.push.new.self.items c.new.result (c.args.self.now.awake.items ++ c.args.self.now.waiting.items) c.push.ensures.items
    c.args.self.now.found.0 c.args.self.now.rest

pub invariant_of-self-clause-own : goal.invariant_of-self-clause-own
invariant_of-self-clause-own g c = λ going.
    own_pushed (is_ok c.push.result) c.args.self.now.subjects.items c.push.new.self.items c.new.result
    (view_of c.args.self.now.client).pending c.push.ensures.items (c.args.self.now.own going)
