-- Loop over the paths: the text so far with any spelling of the paths left spells all (`Written`). With none left the text alone does.
use Rattle.std.proofs.Common.{drop}
use Rattle.zk_client.specs.Clients.{view_of}
use Rattle.ffi_device.proofs.Parents.{Written}
use Rattle.ffi_device.proofs.snapshots.spelled_parents.Given as goal

-- what is written and what is left make up the whole
abbrev pub invariant-loop-path : goal.invariant-loop-path
invariant-loop-path l = Written (view_of l.client).cache (drop l.path-index l.paths) l.paths l.text.items
