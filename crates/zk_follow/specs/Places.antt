-- How subjects are found by their tickets and their paths.
use Rattle.std.specs.Prelude.{◌≡◌, ◌<◌, ◌≤◌, ◌+◌, ◌*◌, ◌^◌, ◌%◌, ℕ, Bool, true, List, [], Vec, fold, length, map, slice_index_or}
use Rattle.zk_follow.specs.declared.index.Index.{Index}
use Rattle.zk_follow.specs.declared.places.Places.{Places}
use Rattle.zk_follow.specs.declared.subject.Subject.{Subject}
use Rattle.zk_follow.specs.Following.{is_among}

-- the key of a text: its bytes as the digits of a number, of which the low bits are kept
abbrev pub key_of : List ℕ → ℕ
key_of text = fold (λ key byte. (key * 1099511628211 % 2 ^ 64 + byte) % 2 ^ 64) 0 text

-- the places in a bucket
abbrev pub places_of : {A : Type 0} → List (Vec ℕ A) → (slot : ℕ) → List ℕ
places_of buckets slot = slice_index_or (map (λ bucket. bucket.items) buckets) slot []

-- whether a place is among those of a key
abbrev pub has_place : {A : Type 0} → Places A → (key place : ℕ) → Bool
has_place places key place = is_among place (places_of places.buckets.items (key % length places.buckets.items))

-- The first subjects are found by their tickets, and by the keys of their paths.
abbrev pub AreFound : {A : Type 0} → Index A → List (Subject A) → Type 0
AreFound {A} index subjects = (index.count ≤ length subjects) × ((k : ℕ) (d : Subject A) → k < index.count
    → (has_place index.keys (slice_index_or subjects k d).ticket k ≡ true)
    × (has_place index.keys (key_of (slice_index_or subjects k d).path) k ≡ true))
