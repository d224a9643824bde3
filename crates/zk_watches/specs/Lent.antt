-- The lists that a part lends.
use Rattle.std.specs.Prelude.{map}
use Rattle.zk_records.specs.declared.set_watches.SetWatchesRef.{SetWatchesRef}
use Rattle.zk_watches.specs.Lists.{Lists}

abbrev pub lists_of : SetWatchesRef → Lists
lists_of part = record {
  data_watches = map (λ text. text.now) part.data_watches.now;
  exist_watches = map (λ text. text.now) part.exist_watches.now;
  child_watches = map (λ text. text.now) part.child_watches.now;
}
