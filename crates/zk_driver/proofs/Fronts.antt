-- What a read brought, or a write took, as the stream says it and as it is read: the first bytes of the buffer, as many as were counted.
use Rattle.std.proofs.Common.{◌≡◌, ◌==◌, ℕ, Bool, true, false, List, [], Option, Some, None, ap, ◌∙◌, refl, sym, subst, take}
use Rattle.std.specs.Prelude.{if◌then◌else◌, Result, Ok, Err, unwrap_or}
use Rattle.std.proofs.lemmas.Bool.{eqb-true}
use Rattle.std_io.specs.IoError.{error_kind}
use Rattle.std_io.specs.declared.io.error.Error.{Error}
use Rattle.zk_link.specs.FarEnds.{front_by, FarEnd, Goes}
use Rattle.zk_link.proofs.Reaching.{goes_once}
use Rattle.zk_driver.specs.inner.Reads.{is_late, reading_of, reason_of, written_by}
use Rattle.zk_driver.specs.declared.bring.Reading.{Reading}
use Rattle.zk_driver.specs.declared.bring.Reading.TheVariants.{Bytes, Nothing, End}
use Rattle.zk_driver.specs.declared.reason.Reason.{Reason}
use Rattle.zk_driver.specs.declared.reason.Reason.TheVariants as reason

-- ---- what a read brought

abbrev pub brought_in : Reading → List ℕ → List ℕ
brought_in (Bytes count) buffer = take count buffer
brought_in reading buffer = []

counted : (is_none : Bool) (count : ℕ) (buffer : List ℕ) → (count == 0) ≡ is_none
    → take count buffer ≡ brought_in (if is_none then End reason.EndOfStream else Bytes count) buffer
counted true count buffer is = ap (λ n. take n buffer) (eqb-true count 0 is)
counted false count buffer is = refl

failed : (is_late : Bool) (why : Reason) (buffer : List ℕ) → [] ≡ brought_in (if is_late then Nothing else End why) buffer
failed true why buffer = refl
failed false why buffer = refl

brought_so : (read : Result ℕ Error) (buffer : List ℕ) → front_by read buffer ≡ brought_in (reading_of read) buffer
brought_so (Ok count) buffer = counted (count == 0) count buffer refl
brought_so (Err fault) buffer = failed (is_late (error_kind fault)) (reason_of (error_kind fault)) buffer

-- one read, by what it is read as
pub read_goes : (far : FarEnd) (read : Result ℕ Error) (reading : Reading) (buffer piece : List ℕ) (a b : far.State)
    → far.does a [] (front_by read buffer) b → reading ≡ reading_of read → piece ≡ brought_in reading buffer
    → Goes far [] piece a b
read_goes far read reading buffer piece a b does is brought =
    subst (λ given. Goes far [] given a b) (brought_so read buffer ∙ ap (λ r. brought_in r buffer) (sym is) ∙ sym brought)
    (goes_once far [] (front_by read buffer) a b does)

-- ---- what a write took

taken_so : (is_none : Bool) (count : ℕ) (bytes : List ℕ) → (count == 0) ≡ is_none
    → take count bytes ≡ take (unwrap_or (if is_none then None else Some count) 0) bytes
taken_so true count bytes is = ap (λ n. take n bytes) (eqb-true count 0 is)
taken_so false count bytes is = refl

refused_so : (is_late : Bool) (bytes : List ℕ) → [] ≡ take (unwrap_or (if is_late then Some 0 else None) 0) bytes
refused_so true bytes = refl
refused_so false bytes = refl

took_so : (write : Result ℕ Error) (bytes : List ℕ) → front_by write bytes ≡ take (unwrap_or (written_by write) 0) bytes
took_so (Ok count) bytes = taken_so (count == 0) count bytes refl
took_so (Err fault) bytes = refused_so (is_late (error_kind fault)) bytes

-- one write, by how many bytes it took
pub write_goes : (far : FarEnd) (write : Result ℕ Error) (taken : Option ℕ) (count : ℕ) (bytes : List ℕ) (a b : far.State)
    → far.does a (front_by write bytes) [] b → taken ≡ written_by write → count ≡ unwrap_or taken 0
    → Goes far (take count bytes) [] a b
write_goes far write taken count bytes a b does is counted =
    subst (λ taken. Goes far taken [] a b)
    (took_so write bytes ∙ ap (λ n. take n bytes) (ap (λ o. unwrap_or o 0) (sym is) ∙ sym counted))
    (goes_once far (front_by write bytes) [] a b does)
