-- What is an ACL by what was read of its bytes, and what stands after the header of a create2.
use Rattle.std.proofs.Common.{◌≡◌, ◌⊎◌, inl, inr, ℕ, ◌++◌, pos, List, [], ◌∷◌, Option, Some, None, map, length}
use Rattle.std.proofs.Common.{refl, sym, ap, ◌∙◌, option_map, arith}
use Rattle.std.proofs.lemmas.List.{append-nil}
use Rattle.zk_jute.specs.Layout.{Value, int, buffer, ustring, vector}
use Rattle.zk_jute.specs.Lenient.{or_empty}
use Rattle.zk_jute.specs.Spelling.{spelling, Fits}
use Rattle.zk_nodes.specs.Path.{Text}
use Rattle.zk_records.specs.Layouts.{acl as entry}
use Rattle.zk_contend.specs.Acls.{IsAcl, SpellsCreates}

-- It was read to its end, and has an entry.
pub read_whole : (bytes rest : List ℕ) (value : Value (vector entry)) → Fits (vector entry) value
    → bytes ≡ spelling (vector entry) value ++ rest → rest ≡ [] → (or_empty value ≡ [] → ⊥) → IsAcl bytes
read_whole bytes rest None fits is none some = absurd (some refl)
read_whole bytes rest (Some entries) fits is none some = record {
  entries = entries;
  some = some;
  fits = fits;
  spelled = is ∙ ap (λ (more : List ℕ). spelling (vector entry) (Some entries) ++ more) none ∙ append-nil _;
}

-- What is so of each value that the bytes spell is so, if they are an ACL.
pub so_of : (bytes : List ℕ) (Is : Value (vector entry) → List ℕ → Type 0)
    → ((value : Value (vector entry)) (more : List ℕ) → Fits (vector entry) value → bytes ≡ spelling (vector entry) value ++ more
    → Is value more) → (acl : IsAcl bytes) → Is (Some acl.entries) []
so_of bytes Is each acl = each (Some acl.entries) [] acl.fits (acl.spelled ∙ sym (append-nil _))

-- What was read has no entry, or was not all.
pub read_none : (bytes rest : List ℕ) (value : Value (vector entry))
    → ((other : Value (vector entry)) (more : List ℕ) → Fits (vector entry) other → bytes ≡ spelling (vector entry) other ++ more
    → (value ≡ other) × (rest ≡ more)) → ((or_empty value ≡ []) ⊎ (rest ≡ [] → ⊥)) → IsAcl bytes → ⊥
read_none bytes rest value only (inl none) acl =
    acl.some (sym (ap or_empty (so_of bytes (λ other more. (value ≡ other) × (rest ≡ more)) only acl).0) ∙ none)
read_none bytes rest value only (inr more) acl = more (so_of bytes (λ other more. (value ≡ other) × (rest ≡ more)) only acl).1

-- What is made of each entry is none exactly if there is no entry.
module _ {V X Y : Type 0} (items : V → List X) (view : X → Y) where
  pub none_seen : (list : Option V) → length (or_empty (option_map items list)) ≡ 0
      → or_empty (option_map (λ v. map view (items v)) list) ≡ []
  none_seen None none = refl
  none_seen (Some v) none = by (items v) none
    where
      by : (its : List X) → length its ≡ 0 → map view its ≡ []
      by [] none = refl
      by (one ∷ its) none = absurd (omega (arith, none))

  pub seen_none : (list : Option V) → or_empty (option_map (λ v. map view (items v)) list) ≡ []
      → length (or_empty (option_map items list)) ≡ 0
  seen_none None none = refl
  seen_none (Some v) none = by (items v) none
    where
      by : (its : List X) → map view its ≡ [] → length its ≡ 0
      by [] none = refl
      by (one ∷ its) none = absurd cc

pub spells_creates : SpellsCreates
spells_creates acl path bytes flags is =
    ap (λ (its : List ℕ). spelling ustring (Some path) ++ (spelling buffer bytes ++ (its ++ spelling int (pos flags)))) is.spelled
