-- The loop over the texts: they are the names exactly where those that are left are the names from the index on.
use Rattle.std.proofs.Common.{◌≤◌, length, map}
use Rattle.std.specs.Prelude.{string_bytes}
use Rattle.script_rehearse.proofs.GoodLemmas.{AreLeft}
use Rattle.script_rehearse.proofs.agreement.are_texts.Given as goal

abbrev pub invariant-loop-text : goal.invariant-loop-text
invariant-loop-text g l = record {
  within : l.index ≤ length l.names;
  left : AreLeft l.names (map string_bytes l.texts.keys) l.index (map string_bytes l.text-iterator);
}
