-- The snapshot is the nodes' records, then those of the names, by what the two calls ensure; the history has it by the law `one_tree`.
use Rattle.zk_client.specs.Clients.{view_of}
use Rattle.ffi_device.proofs.snapshots.spelled_whole.Goals as goal

pub returns : goal.returns
returns c = record {
  whole = c.requires;
  front = c.in_ok-text.text.items;
  back = c.in_ok-parents.parents.items;
  is = c.in_ok-append.ensures.items;
  nodes = c.in_ok-text.ensures;
  parents = c.in_ok-parents.ensures;
  holds = λ h served. c.one_tree.ensures h (view_of c.args.client.now) c.args.paths.now c.args.above.now served c.requires;
}
