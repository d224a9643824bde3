-- What is added is the text that tells the outputs.
use Rattle.std.proofs.Common.{◌≡◌, ◌++◌, ap, ◌∙◌, List, ℕ, string_bytes, Result, Ok, Err, is_ok, if◌then◌else◌, OnOk}
use Rattle.zk_client.specs.Views.{said}
use Rattle.script_live.specs.Heard.{TellsEach}
use Rattle.script_live.proofs.heard.push_told.Goals as goal

-- a text that tells so is added, or nothing is
added : {X E : Type 0} (Tells : List ℕ → Type 0) (result : Result X E) (old text told new : List ℕ)
    → new ≡ (if is_ok result then old ++ text else old) → text ≡ told → Tells told
    → OnOk result ((told : List ℕ) × Tells told × (new ≡ old ++ told))
added Tells (Ok v) old text told new adds is tells = (told, tells, adds ∙ ap (λ t. old ++ t) is)
added Tells (Err e) old text told new adds is tells = tt

pub returns : goal.returns
returns g c =
    added (TellsEach (said c.args.outputs.now)) c.push_str.result (string_bytes c.args.text.now) c.as_str.result.now
    (string_bytes c.in_ok-told.told) (string_bytes c.push_str.new.self) c.push_str.ensures.bytes c.as_str.ensures.value c.in_ok-told.ensures
