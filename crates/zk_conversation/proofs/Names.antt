-- Lists of lent names.
use Rattle.std.proofs.Common.{◌≡◌, ℕ, List, [], Option, Some, None, map, refl}
use Rattle.std.specs.Prelude.{unwrap_or}
use Rattle.std.specs.Option.{option_map}
use Rattle.std.proofs.lemmas.Simd.{map-map}
use Rattle.zk_jute.specs.Lenient.{or_empty}
use Rattle.zk_conversation.specs.Results.{texts_of}

-- a list that may be null, of texts that may be null, is read as a list of texts
pub names-lent : {V T : Type 0} (items : V → List T) (text : T → Option (List ℕ)) (elements : Option V) (other : V) → items other ≡ []
    → texts_of (option_map (λ v. map text (items v)) elements) ≡ map (λ name. or_empty (text name)) (items (unwrap_or elements other))
names-lent items text None other none = rw none refl
names-lent items text (Some v) other none = map-map or_empty text (items v)
