-- Loop over the paths: text so far and spelling of those left are the whole, which fits if those left do. So at the end the text is it.
use Rattle.std.proofs.Common.{◌≡◌, ◌++◌, drop}
use Rattle.std.specs.List.{AllByRecursion, flat_map}
use Rattle.zk_jute.specs.Spelling.{Fits, spelling}
use Rattle.ffi_device.specs.Subtrees.{read_layout, read_value}
use Rattle.ffi_device.proofs.subtrees.spelled_reads.Given as goal

-- what is written and what is left make up the whole
abbrev pub invariant-loop-path : goal.invariant-loop-path
invariant-loop-path l = record {
  whole : l.text.items ++ flat_map (λ path. spelling read_layout (read_value l.side path)) (drop l.path-index l.paths)
      ≡ flat_map (λ path. spelling read_layout (read_value l.side path)) l.paths;
  fits : AllByRecursion (λ path. Fits read_layout (read_value l.side path)) (drop l.path-index l.paths)
      → AllByRecursion (λ path. Fits read_layout (read_value l.side path)) l.paths;
}
