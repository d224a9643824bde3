-- How frames are told one after another.
use Rattle.std.proofs.Common.{◌≡◌, ℕ, List, [], ◌∷◌, ◌++◌, refl, sym, ap, ◌∙◌, append_assoc}
use Rattle.std.proofs.lemmas.List.{append-nil}
use Rattle.std.proofs.lemmas.Grind.{flat_map-append}
use Rattle.std.proofs.lemmas.Fn.{FoldsTo-push}
use Rattle.std.specs.List.{FoldsTo}
use Rattle.zk_frames.specs.Frame.{frame, joined}
use Rattle.script_stream.specs.declared.way.Way.{Way}
use Rattle.script_stream.specs.Streams.{Telling, Tells, told_after}

-- some frames are told, and these bytes are left
pub record SoFar (way : Way) (bytes : List ℕ) (old : Telling) (held : List ℕ) (here : Telling) : Type 0 where
  pub payloads : List (List ℕ)
  pub are : bytes ≡ joined payloads ++ held
  pub tells : FoldsTo (Tells way) old payloads here

pub none_yet : (way : Way) (bytes : List ℕ) (old : Telling) → SoFar way bytes old bytes old
none_yet way bytes old = record { payloads = []; are = refl; tells = refl }

one_joined : (payloads : List (List ℕ)) (payload rest : List ℕ)
    → joined payloads ++ (frame payload ++ rest) ≡ joined (payloads ++ payload ∷ []) ++ rest
one_joined payloads payload rest =
    sym (append_assoc (joined payloads) (frame payload) rest)
    ∙ ap (λ (x : List ℕ). (joined payloads ++ x) ++ rest) (sym (append-nil (frame payload)))
    ∙ ap (λ (x : List ℕ). x ++ rest) (sym (flat_map-append frame payloads (payload ∷ [])))

-- one more
pub one_more : (way : Way) (bytes : List ℕ) (old here new : Telling) (held payload rest : List ℕ)
    → SoFar way bytes old held here → held ≡ frame payload ++ rest
    → new ≡ told_after way here payload → SoFar way bytes old rest new
one_more way bytes old here new held payload rest so_far was is = record {
  payloads = so_far.payloads ++ payload ∷ [];
  are = so_far.are ∙ ap (λ (x : List ℕ). joined so_far.payloads ++ x) was ∙ one_joined so_far.payloads payload rest;
  tells = FoldsTo-push (Tells way) old so_far.payloads here payload new so_far.tells is;
}
