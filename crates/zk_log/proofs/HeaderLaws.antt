-- Trailing the header of a log stand its entries.
use Rattle.std.proofs.Common.{◌≡◌, ℕ, ℤ, pos, List, length, Result, Ok, Err, refl, sym, ap, subst, ◌∙◌}
use Rattle.std.specs.Prelude.{◌≢◌, MatchResult}
use Rattle.std.specs.Int.{w32, w64}
use Rattle.std.proofs.lemmas.Int.{to_z-of_z}
use Rattle.zk_jute.specs.Layout.{Value}
use Rattle.zk_jute.specs.Spelling.{IsBytes, Fits}
use Rattle.zk_jute.specs.Reading.{reading}
use Rattle.zk_jute.specs.inner.Laws.{reads}
use Rattle.zk_log.specs.declared.log_fault.LogFault.{LogFault}
use Rattle.zk_log.specs.declared.log_fault.LogFault.TheVariants.{Memory}
use Rattle.zk_log.specs.Format.{file_header, magic, version}
use Rattle.zk_log.specs.Reading.{ReadLog, with_header, with_entries, entries_at, log_at}
use Rattle.zk_log.proofs.EntryLaws.{same_reading}

pub header_fits : (end : ℕ) (bytes : List ℕ) (found : Value file_header × List ℕ)
    → IsBytes bytes → reading file_header end bytes ≡ Ok found → Fits file_header found.0
header_fits end bytes found fits e = ((reads file_header end).takes bytes found fits e).1

pub header_is : (end : ℕ) (bytes : List ℕ) (m v d : ℤ) → m ≡ magic → v ≡ version
    → with_header end (Ok ((m, (v, d)), bytes)) ≡ with_entries d (entries_at (length bytes) end (pos 0) bytes)
header_is end bytes m v d e f =
    subst (λ (x : ℤ). with_header end (Ok ((x, (v, d)), bytes)) ≡ with_entries d (entries_at (length bytes) end (pos 0) bytes)) (sym e)
    (subst (λ (y : ℤ). with_header end (Ok ((magic, (y, d)), bytes)) ≡ with_entries d (entries_at (length bytes) end (pos 0) bytes)) (sym f)
    refl)

-- What a call returned, seen by view, is what reading gives, unless memory ran out.
abbrev pub GivesLog : {T : Type 0} → (T → ReadLog) → Result ReadLog LogFault → Result T LogFault → Type 0
GivesLog view read result = MatchResult result (λ l. read ≡ Ok (view l)) (λ e. e ≢ Memory → read ≡ Err e)

same_gives : {T : Type 0} (view : T → ReadLog) (a b : Result ReadLog LogFault) (result : Result T LogFault) → b ≡ a
    → GivesLog view a result → GivesLog view b result
same_gives view a b (Ok l) e gives = e ∙ gives
same_gives view a b (Err fault) e gives = λ other. e ∙ gives other

pub log_is : {T : Type 0} (view : T → ReadLog) (bytes start behind rest : List ℕ) (end : ℕ) (m v d told : ℤ) (result : Result T LogFault)
    → end ≡ length bytes → start ≡ bytes → reading file_header end start ≡ Ok ((m, (v, d)), rest) → behind ≡ rest → m ≡ magic
    → v ≡ version → told ≡ d
    → MatchResult result (λ l. with_entries told (entries_at (length behind) (length bytes) (pos 0) behind) ≡ Ok (view l))
    (λ e. e ≢ Memory → with_entries told (entries_at (length behind) (length bytes) (pos 0) behind) ≡ Err e)
    → GivesLog view (log_at bytes) result
unfolding log_at
log_is view bytes start behind rest end m v d told result e f read same is_magic is_version is_told gives =
    same_gives view (with_entries told (entries_at (length behind) (length bytes) (pos 0) behind)) (log_at bytes) result
    (ap (with_header (length bytes)) (same_reading file_header end (length bytes) start bytes (Ok ((m, (v, d)), rest)) e f read)
    ∙ header_is (length bytes) rest m v d is_magic is_version
    ∙ ap (λ (x : List ℕ). with_entries d (entries_at (length x) (length bytes) (pos 0) x)) (sym same)
    ∙ ap (λ (n : ℤ). with_entries n (entries_at (length behind) (length bytes) (pos 0) behind)) (sym is_told)) gives
