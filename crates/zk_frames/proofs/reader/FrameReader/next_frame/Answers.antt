-- The payload lent is that of the first frame from the place on, and the place moves past it: `moves_past`, with both lent slices being the
-- bytes from the place (`from_place`).
use Rattle.std.proofs.Common.{ℕ, ◌+◌, ◌-◌, drop, take, length, refl, sym, ap, subst, ◌∙◌}
use Rattle.zk_frames.specs.Held.{Held}
use Rattle.zk_frames.specs.inner.Next.{IsWhole}
use Rattle.zk_frames.proofs.Frames.{moves_past, from_place}
use Rattle.zk_frames.proofs.reader.FrameReader.next_frame.Goals as goal

pub returns-in-Ok-Some : goal.returns-in-Ok-Some
returns-in-Ok-Some g c =
    let at = c.self.inside in
    let lent = c.deref.result.now in
    let again = c.deref-in-Ok-Some.result.now in
    let n = c.in-Ok-Some.length in
    let most = c.args.most in
    let first = from_place at.bytes.items lent at.place c.deref.ensures.value in
    let second = from_place at.bytes.items again at.place c.deref-in-Ok-Some.ensures.value in
    let held = take (length again - at.place) (drop at.place again) in
    let whole : IsWhole most held n =
    subst (λ l. IsWhole most l n) (first ∙ sym second) (rw c.in-Ok-Some.field-0-is at c.in-Ok-Some.ensures) in
    let moves = moves_past most at.bytes.items held at.place n second whole in
    let still = c.in_default.is in (
      (
        refl,
        λ _. tt,
        record {
          was = sym (ap (λ (h : Held). h.bytes) c.self.view_is) ∙ moves.was;
          spent = ap (λ (k : ℕ). at.place + (4 + k)) (sym moves.long)
              ∙ ap (λ (h : Held). h.spent + (4 + length (take (4 + n - 4) (drop 4 held)))) c.self.view_is;
          read = sym (ap (λ (h : Held). h.fault) c.self.view_is) ∙ still;
          reads = still;
          admitted = moves.admitted;
          positive = moves.positive;
        },
      ),
      record { after = tt },
    )
