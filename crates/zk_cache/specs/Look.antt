-- A map with text keys, seen as a finite map from their bytes.
use Rattle.std.specs.Prelude.{map, String, string_bytes}
use Rattle.std.specs.Cmp.Lexicographic.{slice_cmp}
use Rattle.std.specs.Ordering.{nat_cmp}
use Rattle.std.specs.FinMap as finite
use Rattle.indexmap.specs.IndexMap.{IndexMap}

-- from texts
abbrev pub ByText : Type 0 → Type 0
ByText X = finite.FinMap (slice_cmp nat_cmp) X

-- each value seen by f
abbrev pub as_map : {A V W S : Type 0} → (V → W) → IndexMap (String A) V S → ByText W
as_map f m = finite.from_entries (map (λ e. (string_bytes e.0, f e.1)) m.entries)
