-- A frame that gives no payload is at fault (`no_frame`), and so is one whose payload is (`passed_on`). Where nothing is ignored, the frame
-- of what is spelled is the frame itself (`printed_again`).
use Rattle.std.proofs.Common.{◌≡◌, List, ℕ, ◌++◌, Ok, ap, sym, ◌∙◌, inl, inr, ◌⊎◌}
use Rattle.std.proofs.lemmas.List.{append-nil}
use Rattle.std.proofs.lemmas.Result.{err_from_is_err_and}
use Rattle.shell_commands.specs.declared.fault.ShowFault.{ShowFault}
use Rattle.shell_commands.specs.declared.fault.ShowFault.TheVariants.{Memory}
use Rattle.shell_commands.specs.declared.kind.FrameKind.{FrameKind}
use Rattle.shell_commands.specs.Frame.{payload_of}
use Rattle.shell_commands.specs.Print.{frame_of}
use Rattle.shell_commands.specs.Show.{IsHexOf, IsPayloadFault, IsFault, PrintsAgain, no_frame, no_payload}
use Rattle.shell_commands.proofs.show.print_frame.Goals as goal

-- a payload's fault is the frame's
passed_on : (kind : FrameKind) (hex frame payload : List ℕ) (fault : ShowFault) → IsHexOf frame hex → payload_of frame ≡ Ok payload
    → (fault ≡ Memory) ⊎ IsPayloadFault kind payload fault → (fault ≡ Memory) ⊎ IsFault kind hex fault
passed_on kind hex frame payload fault decoded whole (inl memory) = inl memory
passed_on kind hex frame payload fault decoded whole (inr found) = inr (no_payload frame payload decoded whole found)

-- the frame of a payload with nothing after what is spelled is the frame of what is spelled
printed_again : (frame payload spelled ignored : List ℕ)
    → frame ≡ frame_of payload → payload ≡ spelled ++ ignored → PrintsAgain frame spelled ignored
printed_again frame payload spelled ignored whole begins = λ none.
    let same : payload ≡ spelled = begins ∙ ap (λ (x : List ℕ). spelled ++ x) none ∙ append-nil spelled in
    sym (whole ∙ ap frame_of same)

pub returns-in_err-payload-clause-fault : goal.returns-in_err-payload-clause-fault
returns-in_err-payload-clause-fault g c =
    let p = err_from_is_err_and c.from_residual-in_err-payload.result c.from_residual-in_err-payload.ensures.1 in
    let whole = rw c.as_slice.ensures.value at c.in_err-payload.ensures.gives in
    rw (p.1, p.2) (inr (no_frame _ c.in_ok-frame.ensures.ok whole))

pub returns-in_err-text-clause-fault : goal.returns-in_err-text-clause-fault
returns-in_err-text-clause-fault g c =
    let p = err_from_is_err_and c.from_residual-in_err-text.result c.from_residual-in_err-text.ensures.1 in
    let whole = rw c.as_slice.ensures.value at c.in_ok-payload.ensures.gives in
    rw (p.1, p.2) (passed_on _ _ _ _ _ c.in_ok-frame.ensures.ok whole c.in_err-text.ensures.fault)

pub returns-clause-shows : goal.returns-clause-shows
returns-clause-shows g c =
    let prints = c.in_ok-text.ensures.prints in
    let gives = rw c.as_slice.ensures.value at c.in_ok-payload.ensures.gives in
    let whole = rw c.as_slice.ensures.value at c.in_ok-payload.ensures.whole in
    record {
      frame = c.in_ok-frame.frame.items;
      payload = c.in_ok-payload.payload.now;
      decoded = c.in_ok-frame.ensures.ok;
      whole = gives;
      prints = prints;
      again = printed_again _ _ _ _ whole prints.begins;
    }
