-- Loop over the bytes: what the texts read spell and the bytes left are all bytes, and those texts fit. So at the end they spell them all.
use Rattle.std.proofs.Common.{◌≡◌, ◌++◌, Some, length, map}
use Rattle.std.specs.List.{AllByRecursion, flat_map}
use Rattle.zk_jute.specs.Cursor.{bytes_left}
use Rattle.zk_jute.specs.Layout.{ustring}
use Rattle.zk_jute.specs.Spelling.{Fits, spelling}
use Rattle.ffi_device.proofs.texts.lent_texts.Given as goal

-- what was read and what is left make up the whole
abbrev pub invariant-loop-at : goal.invariant-loop-at
invariant-loop-at l = record {
  whole : l.spelled ≡ flat_map (λ text. spelling ustring (Some text)) (map (λ text. text.now) l.texts.items) ++ bytes_left l.at;
  fits : AllByRecursion (λ text. Fits ustring (Some text)) (map (λ text. text.now) l.texts.items);
}

abbrev pub decreases-loop-at : goal.decreases-loop-at
decreases-loop-at l = length (bytes_left l.at)
