-- Loop over the texts: paths so far and texts left are all texts, and each copy is a path. With none left the paths are the texts.
use Rattle.std.proofs.Common.{◌≡◌, ◌++◌, drop, map}
use Rattle.std.specs.List.{AllByRecursion}
use Rattle.zk_nodes.specs.PathFault.{IsPath}
use Rattle.ffi_device.proofs.spelled_paths.copied_paths.Given as goal

-- what was copied, with what is left
abbrev pub invariant-loop-text : goal.invariant-loop-text
invariant-loop-text l = record {
  whole : l.paths.items ++ map (λ text. text.now) (drop l.text-index l.texts) ≡ map (λ text. text.now) l.texts;
  each : AllByRecursion IsPath l.paths.items;
}
