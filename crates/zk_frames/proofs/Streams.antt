-- The frames of a stream.
use Rattle.std.proofs.Common.{subst, ◌≡◌, ℕ, ◌+◌, ◌^◌, ◌<◌, ◌≤◌, List, [], ◌∷◌, ◌++◌, length, take, drop, refl, sym, ap, ◌∙◌, append_assoc}
use Rattle.std.proofs.Common.{arith}
use Rattle.std.proofs.Common.{length-append}
use Rattle.std.proofs.lemmas.Nat.{from_be_bytes-to_be_bytes_4}
use Rattle.std.proofs.lemmas.List.{append-nil}
use Rattle.std.proofs.Math.Seq.{take-append_seam, drop-append_seam}
use Rattle.std.specs.Prelude.{Err, None, MatchOption}
use Rattle.zk_frames.specs.declared.fault.FrameFault.{FrameFault}
use Rattle.zk_frames.specs.declared.fault.FrameFault.TheVariants.{Negative, TooLong, Memory}
use Rattle.zk_frames.specs.Next.{AnswersNext}
use Rattle.zk_frames.specs.Frame.{frame, joined, length_field, IsNegative, IsTooLong, IsUnfinished}
use Rattle.zk_frames.specs.Held.{Held, reading, failed}
use Rattle.zk_frames.specs.Stream.{Event, Run, fed, given, StreamIsKept, CutsDoNotMatter, StandsNext, FaultsStandNext}
use Rattle.zk_frames.specs.Stream.Event.{Fed, Gave, Waits}

-- the frames given and the bytes held are the bytes held before and the pieces fed
kept_from : (most : ℕ) (es : List Event) (old new : Held) → Run most old es new → joined (given es) ++ new.bytes ≡ old.bytes ++ fed es
kept_from most [] old new run = ap (λ (h : Held). h.bytes) run ∙ sym (append-nil old.bytes)
kept_from most (Fed piece ∷ es) old new run =
    kept_from most es run.0 new run.2 ∙ ap (λ (h : Held). h.bytes ++ fed es) run.1 ∙ append_assoc old.bytes piece (fed es)
kept_from most (Gave payload ∷ es) old new run =
    append_assoc (frame payload) (joined (given es)) new.bytes
    ∙ ap (λ l. frame payload ++ l) (kept_from most es run.0 new run.2)
    ∙ sym (append_assoc (frame payload) run.0.bytes (fed es))
    ∙ ap (λ (l : List ℕ). l ++ fed es) (sym run.1.was)
kept_from most (Waits ∷ es) old new run = kept_from most es run.0 new run.2 ∙ ap (λ (h : Held). h.bytes ++ fed es) run.1.same

pub stream_kept : StreamIsKept
stream_kept most es held run = kept_from most es (reading []) held run

-- payloads whose lengths a frame can tell
abbrev Admitted : List (List ℕ) → Type 0
Admitted [] = Unit {0}
Admitted (p ∷ ps) = (length p < 2 ^ 31) × Admitted ps

given_admitted : (most : ℕ) (es : List Event) (old new : Held) → Run most old es new → Admitted (given es)
given_admitted most [] old new run = tt
given_admitted most (Fed piece ∷ es) old new run = given_admitted most es run.0 new run.2
given_admitted most (Gave payload ∷ es) old new run = (run.1.positive, given_admitted most es run.0 new run.2)
given_admitted most (Waits ∷ es) old new run = given_admitted most es run.0 new run.2

length_field-frame : (p rest : List ℕ) → length p < 2 ^ 31 → length_field (frame p ++ rest) ≡ length p
length_field-frame p rest small = from_be_bytes-to_be_bytes_4 (length p) (omega arith)

length-frame : (p rest : List ℕ) → length (frame p ++ rest) ≡ 4 + length p + length rest
length-frame p rest = omega (arith, length-append p rest)

-- less than a frame begins with no frame
frame_is_whole : (most : ℕ) (p rest x : List ℕ) → length p < 2 ^ 31 → x ≡ frame p ++ rest → IsUnfinished most x → ⊥
frame_is_whole most p rest x small is less =
    let long = ap length is ∙ length-frame p rest in
    let field = ap length_field is ∙ length_field-frame p rest small in
    let there : 4 ≤ length x = omega (arith, long) in
    let short = less.short there in
    absurd (omega (arith, long, field, short))

-- a stream has its frames in one way
frames_are_one : (most : ℕ) (ps qs : List (List ℕ)) (x y : List ℕ)
    → Admitted ps → Admitted qs → joined ps ++ x ≡ joined qs ++ y → IsUnfinished most x → IsUnfinished most y → (ps ≡ qs) × (x ≡ y)
frames_are_one most [] [] x y a b e u v = (refl, e)
frames_are_one most [] (q ∷ qs) x y a b e u v =
    absurd (frame_is_whole most q (joined qs ++ y) x b.0 (e ∙ append_assoc (frame q) (joined qs) y) u)
frames_are_one most (p ∷ ps) [] x y a b e u v =
    absurd (frame_is_whole most p (joined ps ++ x) y a.0 (sym e ∙ append_assoc (frame p) (joined ps) x) v)
frames_are_one most (p ∷ ps) (q ∷ qs) x y a b e u v =
    let l = joined ps ++ x in
    let m = joined qs ++ y in
    let whole : frame p ++ l ≡ frame q ++ m = sym (append_assoc (frame p) (joined ps) x) ∙ e ∙ append_assoc (frame q) (joined qs) y in
    let size : length p ≡ length q = sym (length_field-frame p l a.0) ∙ ap length_field whole ∙ length_field-frame q m b.0 in
    let after : p ++ l ≡ q ++ m = ap (drop 4) whole in
    let first : p ≡ q = sym (take-append_seam p l) ∙ ap (take (length p)) after ∙ ap (λ n. take n (q ++ m)) size ∙ take-append_seam q m in
    let rest : l ≡ m = sym (drop-append_seam p l) ∙ ap (drop (length p)) after ∙ ap (λ n. drop n (q ++ m)) size ∙ drop-append_seam q m in
    let more = frames_are_one most ps qs x y a.1 b.1 rest u v in
    (ap (λ h. h ∷ ps) first ∙ ap (λ t. q ∷ t) more.0, more.1)

pub cuts_do_not : CutsDoNotMatter
cuts_do_not most es fs a b r s same u v =
    frames_are_one most (given es) (given fs) a.bytes b.bytes (given_admitted most es (reading []) a r)
    (given_admitted most fs (reading []) b s)
    (stream_kept most es a r ∙ same ∙ sym (stream_kept most fs b s)) u v

-- calls that gave no fault leave a reader that reads
still_reads : (most : ℕ) (es : List Event) (old new : Held) → old.fault ≡ None → Run most old es new → new.fault ≡ None
still_reads most [] old new h run = ap (λ (x : Held). x.fault) run ∙ h
still_reads most (Fed piece ∷ es) old new h run = still_reads most es run.0 new (ap (λ (x : Held). x.fault) run.1) run.2
still_reads most (Gave payload ∷ es) old new h run = still_reads most es run.0 new run.1.reads run.2
still_reads most (Waits ∷ es) old new h run = still_reads most es run.0 new (ap (λ (x : Held). x.fault) run.1.same ∙ h) run.2

stands : (most : ℕ) (held next : Held) (f : FrameFault) → held.fault ≡ None → AnswersNext most held (Err f) next
    → StandsNext most f held.bytes
stands most held next Negative h why = subst (λ o. MatchOption o (IsNegative held.bytes) (λ g. held ≡ failed Negative)) h why.why
stands most held next TooLong h why = subst (λ o. MatchOption o (IsTooLong most held.bytes) (λ g. held ≡ failed TooLong)) h why.why
stands most held next Memory h why = why

pub faults_next : FaultsStandNext
faults_next most es held next f run why =
    (stream_kept most es held run, stands most held next f (still_reads most es (reading []) held refl run) why)
