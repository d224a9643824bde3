-- Bytes that pass between a line and its bench: what is given is what the bench had sent first, and what is taken the bench has. It stays
-- ready, over the same history.
use Rattle.std.proofs.Common.{◌≡◌, ◌++◌, ◌∙◌, ℕ, ℤ, pos, Bool, true, false, List, [], length, take, ap, ap₂, refl, sym, subst, arith}
use Rattle.std.proofs.Common.{inl, nat_eq, of_z, w64, Option}
use Rattle.std.proofs.Common.{append-nil, take_all, Some, None}
use Rattle.std.proofs.Math.Seq.{take-append_seam}
use Rattle.std.proofs.lemmas.Bool.Decides.{nat_tests}
use Rattle.zk_bench.specs.Served.{is_open, without_output, Served}
use Rattle.zk_bench.specs.Served as bench
use Rattle.zk_bench.specs.Stepping.{IsReady}
use Rattle.theory_drivers.specs.Acts.{Takes}
use Rattle.zk_bench_dial.specs.BenchActs.{Answers, GoesBy}
use Rattle.zk_bench_dial.specs.Lines.{IsAnswering, IsDialled, IsLeft, IsUp, LineDoes, PastView}
use Rattle.zk_bench_dial.proofs.Acting.{goes_after, goes_giving, goes_taking}

-- two zxids that are compared as machine numbers
pub same_zxid : (r s : ℤ) (m n : ℕ) → r ≡ pos m → s ≡ pos n → nat_eq (of_z w64 r) (of_z w64 s) ≡ true → m ≡ n
same_zxid r s m n first second same =
    let is : nat_eq m n ≡ true = ap₂ (λ (a b : ℤ). nat_eq (of_z w64 a) (of_z w64 b)) (sym first) (sym second) ∙ same in
    grind (arith, nat_tests)

-- what is copied to the front of a buffer is what was taken out
pub fetched : (old new : Served) (bytes copied rest : List ℕ) (count most : ℕ) → copied ≡ bytes → count ≡ length bytes
    → bytes ≡ take most old.connection.output → new ≡ without_output old most → GoesBy Answers old [] (take count (copied ++ rest)) new
fetched old new bytes copied rest count most same long first gone =
    let is : take count (copied ++ rest) ≡ bytes =
    ap (λ (n : ℕ). take n (copied ++ rest)) (long ∙ ap length (sym same)) ∙ take-append_seam copied rest ∙ same in
    subst (λ (l : List ℕ). GoesBy Answers old [] l new) (sym is) (goes_giving old bytes new most first gone)

-- so it is up still
pub up_still : (past : PastView) (old new : Served) (most : ℕ) → new ≡ without_output old most → IsUp past old → IsUp past new
up_still past old new most gone up =
    subst (λ (s : Served). IsUp past s) (sym gone) (
      (record { taken = up.0.0.taken; there = up.0.0.there; unwatched = up.0.0.unwatched }, up.0.1),
      up.1,
    )

ready_taking : (old : Served) (bytes : List ℕ) (new : Served) (up : Bool) → is_open old.connection.phase ≡ up
    → Answers old (Takes bytes) new → IsReady old → IsReady new
ready_taking old bytes new true up does ready =
    subst IsReady (sym (does.0 up)) (record { taken = ready.taken; there = ready.there; unwatched = ready.unwatched })
ready_taking old bytes new false up does ready = subst IsReady (sym (does.1 up)) ready

-- a bench that is ready takes bytes, and stays ready
pub ready_still : (old : Served) (bytes : List ℕ) (new : Served) → Answers old (Takes bytes) new → IsReady old → IsReady new
ready_still old bytes new does ready = ready_taking old bytes new (is_open old.connection.phase) refl does ready

-- all bytes of a write are taken
all_taken : (bytes : List ℕ) → bytes ≡ take (length bytes) bytes
all_taken bytes = sym (take_all (length bytes) bytes (omega arith))

-- it takes all bytes, and serves
pub delivered : (old between new : Served) (bytes : List ℕ) → Answers old (Takes bytes) between → GoesBy Answers between [] [] new
    → GoesBy Answers old (take (length bytes) bytes) [] new
delivered old between new bytes does goes =
    subst (λ (l : List ℕ). GoesBy Answers old l [] new) (append-nil bytes ∙ all_taken bytes)
    (goes_after Answers bytes [] [] [] old between new (goes_taking old bytes between does) goes)

-- it takes all bytes, and then the line is over
pub lost : (old between : Served) (bytes : List ℕ) → Answers old (Takes bytes) between
    → IsAnswering (Some old) (take (length bytes) bytes) [] None
lost old between bytes does =
    (between, subst (λ (l : List ℕ). GoesBy Answers old l [] between) (all_taken bytes) (goes_taking old bytes between does))

-- ---- a line

-- what it answers it does, with its waits
pub as_answer : (old new : Option Served) (waits : ℕ) (took gave : List ℕ) → IsAnswering old took gave new
    → LineDoes (record { served = old; waits = waits }) took gave (record { served = new; waits = waits })
as_answer old new waits took gave answers = inl (record { answers = answers; waits = refl })

-- ---- it is dialled

pub up_first : (past : PastView) (before after : Served) (waits : ℕ) → IsLeft past (before, waits) → after ≡ bench.connected before 0
    → (IsReady before → IsReady after) → IsUp past after
up_first past before after waits left connects ready = (
  (ready left.0.0, ap (λ (s : Served). s.history) connects ∙ left.0.1),
  ap (λ (s : Served). s.server) connects,
)

pub is_dialled : (past : PastView) (before after : Served) (waits : ℕ) → IsLeft past (before, waits) → after ≡ bench.connected before 0
    → (IsReady before → IsReady after) → IsDialled past (record { served = Some after; waits = waits })
is_dialled past before after waits left connects ready = record {
  before = before;
  left = left;
  after = after;
  ready = ready left.0.0;
  connects = connects;
  there = refl;
}
