-- Loop over the paths: text so far and spelling of those left are the whole, which fits if those left do. So at the end the text is it.
use Rattle.std.proofs.Common.{◌≡◌, ◌++◌, drop}
use Rattle.std.specs.List.{AllByRecursion, flat_map}
use Rattle.zk_jute.specs.Spelling.{Fits, spelling}
use Rattle.zk_client.specs.Clients.{view_of}
use Rattle.ffi_device.specs.Snapshots.{shown_kept, shown_layout}
use Rattle.ffi_device.proofs.snapshots.spelled_shown.Given as goal

-- what is written and what is left make up the whole
abbrev pub invariant-loop-path : goal.invariant-loop-path
invariant-loop-path l = record {
  whole : l.text.items ++ flat_map (λ path. spelling shown_layout (shown_kept (view_of l.client).cache path)) (drop l.path-index l.paths)
      ≡ flat_map (λ path. spelling shown_layout (shown_kept (view_of l.client).cache path)) l.paths;
  fits : AllByRecursion (λ path. Fits shown_layout (shown_kept (view_of l.client).cache path)) (drop l.path-index l.paths)
      → AllByRecursion (λ path. Fits shown_layout (shown_kept (view_of l.client).cache path)) l.paths;
}
