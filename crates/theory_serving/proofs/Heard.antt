-- What the servers hear of outputs, one after the other: by induction on the outputs, of which only frames and the end of a connection are
-- heard.
use Rattle.std.proofs.Common.{ℕ, ◌≡◌, true, false, List, [], ◌∷◌, ◌++◌, refl, ap, sym, ◌∙◌, append_assoc}
use Rattle.std.proofs.lemmas.List.{append-nil}
use Rattle.zk_turns.specs.Turns.{Output, Send, Answer, Report, Enters, Drop, ends_connection}
use Rattle.theory_serving.specs.Shown.{Shown, Phase, Apart, Open, Over, more_requests, sent_in, Hears}

none_more : (phase : Phase) (bytes : List ℕ) → bytes ≡ more_requests phase bytes []
none_more Apart bytes = refl
none_more Open bytes = sym (append-nil bytes)
none_more Over bytes = refl

more_twice : (phase : Phase) (bytes first second : List ℕ)
    → more_requests phase (more_requests phase bytes first) second ≡ more_requests phase bytes (first ++ second)
more_twice Apart bytes first second = refl
more_twice Open bytes first second = append_assoc bytes first second
more_twice Over bytes first second = refl

pub hears_nothing : (shown : Shown) → Hears [] shown shown
hears_nothing shown =
    record { history = refl; gets = λ ends. ap (λ bytes. record shown { requests = bytes }) (none_more shown.phase shown.requests) }

pub hears_bytes : (bytes : List ℕ) (outputs : List Output) (old new : Shown)
    → Hears outputs (record old { requests = more_requests old.phase old.requests bytes }) new → Hears (Send bytes ∷ outputs) old new
hears_bytes bytes outputs old new h = record {
  history = h.history;
  gets = λ ends. h.gets ends.1 ∙ ap (λ came. record old { requests = came }) (more_twice old.phase old.requests bytes (sent_in outputs));
}

pub hears_other : (output : Output) (outputs : List Output) (old new : Shown) → ((bytes : List ℕ) → output ≡ Send bytes → ⊥)
    → Hears outputs old new → Hears (output ∷ outputs) old new
hears_other (Send bytes) outputs old new other h = absurd (other bytes refl)
hears_other (Answer ticket outcome) outputs old new other h = record { history = h.history; gets = λ ends. h.gets ends.1 }
hears_other (Report path side event) outputs old new other h = record { history = h.history; gets = λ ends. h.gets ends.1 }
hears_other (Enters state) outputs old new other h = record { history = h.history; gets = λ ends. h.gets ends.1 }
hears_other (Drop fault) outputs old new other h = record { history = h.history; gets = λ ends. h.gets ends.1 }

pub hears_end : (output : Output) (outputs : List Output) (old new : Shown)
    → ends_connection output ≡ true → new.history ≡ old.history → Hears (output ∷ outputs) old new
hears_end output outputs old new over same =
    record { history = same; gets = λ ends. absurd (let clash : true ≡ false = sym over ∙ ends.0 in cc) }
