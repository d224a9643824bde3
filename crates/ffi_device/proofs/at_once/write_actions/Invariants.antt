-- Loop over the actions: text so far and spelling of those left are the whole, which fits if those left do. So at the end the text is it.
use Rattle.std.proofs.Common.{◌≡◌, ◌++◌, drop, map}
use Rattle.std.specs.List.{AllByRecursion, flat_map}
use Rattle.ffi_device.specs.AtOnce.{action_output, output_bytes, FitsOutput}
use Rattle.ffi_device.proofs.at_once.write_actions.Given as goal

-- what is written and what is left make up the whole
abbrev pub invariant-loop-action : goal.invariant-loop-action
invariant-loop-action l = record {
  whole : l.text.bytes.items ++ flat_map output_bytes (map action_output (drop l.action-index l.actions))
      ≡ l.fn.text.bytes.items ++ flat_map output_bytes (map action_output l.actions);
  fits : AllByRecursion FitsOutput (map action_output (drop l.action-index l.actions))
      → AllByRecursion FitsOutput (map action_output l.actions);
}
