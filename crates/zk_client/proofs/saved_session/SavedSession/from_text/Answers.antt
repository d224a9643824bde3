-- A text that spells a session decodes to its bytes (`decode_of-saved_text`), so `from_bytes` reads it. A fault of the digits can then only
-- be memory, since a bad digit contradicts that.
use Rattle.std.proofs.Common.{◌≡◌, length, inl, inr, ap, ◌∙◌}
use Rattle.hex.proofs.HexLemmas.{decode_of-same}
use Rattle.zk_client.specs.SavedSessions.{no_digits, saved_bytes}
use Rattle.zk_client.proofs.PuttingAway.{decode_of-saved_text}
use Rattle.zk_client.proofs.saved_session.SavedSession.from_text.Goals as goal

pub returns-in-Ok-clause-only : goal.returns-in-Ok-clause-only
returns-in-Ok-clause-only g c value can e =
    let decoded = decode_of-saved_text value c.args.text.now can e in
    let same : c.in-Ok.bytes.items ≡ saved_bytes value =
    decode_of-same c.args.text.now c.in-Ok.bytes.items (saved_bytes value) c.in-Ok.ensures.ok decoded in
    c.from_bytes.ensures.only value can (c.as_slice.ensures.value ∙ same)

pub returns-in-Err-clause-only : goal.returns-in-Err-clause-only
returns-in-Err-clause-only g c value can e =
    let decoded = decode_of-saved_text value c.args.text.now can e in
    elim c.in-Err.ensures.err [
      | inl memory ↦ c.no_digits.ensures ∙ ap (no_digits (length c.args.text.now)) memory
      | inr bad ↦ absurd (cc (bad, decoded))
    ]
