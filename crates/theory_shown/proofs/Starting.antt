-- What the lines of a script ask of its first session is in range: word by word, as each number that is read is tested, and of digits that
-- are few enough.
use Rattle.std.proofs.Common.{◌≡◌, ◌≤◌, ◌<◌, ◌+◌, ◌-◌, ◌*◌, ◌^◌, ℕ, ℤ, pos, negsuc, Bool, true, false, List, [], ◌∷◌, Option, Some, None}
use Rattle.std.proofs.Common.{length, refl, sym, subst, arith, w64}
use Rattle.std.proofs.lemmas.Bool.Decides.{nat_tests}
use Rattle.std.proofs.lemmas.Int.{ints}
use Rattle.std.specs.Prelude.{◌==◌, ◌&&◌, ◌≤ℤ◌, nat_le, if◌then◌else◌, option_and_then, codes, bytes_eq, FitsSigned, Result, Ok, Err}
use Rattle.std.specs.List.{list_all}
use Rattle.std.specs.Option.{ok_or, option_map}
use Rattle.zk_limits.specs.declared.limits.TheConstants.{LONGEST_PASSWORD}
use Rattle.zk_nodes.specs.Path.{Text}
use Rattle.zk_turns.specs.Turns.{Start}
use Rattle.zk_turns.specs.Ranges.{IsResumable}
use Rattle.zk_turns.proofs.Requested.{new_resumable}
use Rattle.script_words.specs.declared.script_fault.ScriptFault.{ScriptFault}
use Rattle.script_words.specs.declared.script_fault.ScriptFault.TheVariants.{Hex, Number, Words}
use Rattle.script_words.specs.Numbers.{digits_onto, is_digit, natural_of}
use Rattle.script_words.specs.Pieces.{words_of}
use Rattle.script_words.specs.Reads.{◌>>=◌, is_printed, number_read, time_at, zxid_read}
use Rattle.script_words.specs.Said.{says_split, something, split_keyword}
use Rattle.script_replay.specs.Reads.{below_zero, bytes_at, integer_of, password_at, password_read, session_at, timeout_at}
use Rattle.script_replay.specs.ReplayLines.{saved_at, BeginValue, ResumeLine, TimeoutLine}
use Rattle.script_replay.specs.Played.{start_of}
use Rattle.script_live.specs.Begins.{begun_by, begun_from, decided, Begins}
use Rattle.script_live.specs.LiveLines.{begins_at, fresh, resume_at}

-- ---- numbers

both_right : (a b : Bool) → (a && b) ≡ true → b ≡ true
both_right true b is = is
both_right false b is = let e : false ≡ true = is in cc

digits_within : (limit number n : ℕ) (bytes : List ℕ) → number ≤ limit → digits_onto limit number bytes ≡ Some n → n ≤ limit
digits_within limit number n [] low is = let same : number ≡ n = cc in subst (λ m. m ≤ limit) same low
digits_within limit number n (b ∷ bytes) low is =
    by (is_digit b && nat_le (10 * number + (b - 48)) limit) refl
    (λ below e. digits_within limit (10 * number + (b - 48)) n bytes below e) is
  where
    by : (t : Bool) → (is_digit b && nat_le (10 * number + (b - 48)) limit) ≡ t
        → (10 * number + (b - 48) ≤ limit → digits_onto limit (10 * number + (b - 48)) bytes ≡ Some n → n ≤ limit)
        → option_and_then (λ m. digits_onto limit m bytes) (if t then Some (10 * number + (b - 48)) else None) ≡ Some n → n ≤ limit
    by true fits rest is =
        let below : nat_le (10 * number + (b - 48)) limit ≡ true =
        both_right (is_digit b) (nat_le (10 * number + (b - 48)) limit) fits in
        rest (grind (arith, nat_tests)) is
    by false fits rest is = cc

natural_within : (limit n : ℕ) (word : List ℕ) → natural_of limit word ≡ Some n → n ≤ limit
natural_within limit n [] is = cc
natural_within limit n (b ∷ []) is = digits_within limit 0 n (b ∷ []) (omega arith) is
natural_within limit n (b ∷ c ∷ bytes) is = by (b == 48) is
  where
    by : (t : Bool) → (if t then None else digits_onto limit 0 (b ∷ c ∷ bytes)) ≡ Some n → n ≤ limit
    by true is = cc
    by false is = digits_within limit 0 n (b ∷ c ∷ bytes) (omega arith) is

-- ---- words

-- a timeout is above 0, and of 31 bits
pub record Timed (timeout : ℤ) : Type 0 where
  pub size : ℕ
  pub is : timeout ≡ pos size
  pub least : 0 < size
  pub most : size < 2 ^ 31

read_timed : (read : Option ℕ) (timeout : ℤ) → ((n : ℕ) → read ≡ Some n → n ≤ 2147483647) → zxid_read read ≡ Ok timeout → Timed timeout
read_timed None timeout within is = cc
read_timed (Some n) timeout within is = by (n == 0) refl is
  where
    by : (t : Bool) → (n == 0) ≡ t → (if t then Err Number else Ok (pos n)) ≡ Ok timeout → Timed timeout
    by true zero is = cc
    by false some is =
        let low : n ≤ 2147483647 = within n refl in
        record { size = n; is = cc; least = grind (arith, nat_tests); most = omega (arith, low) }

timeout_timed : (word : Text) (timeout : ℤ) → timeout_at word ≡ Ok timeout → Timed timeout
unfolding timeout_at
timeout_timed word timeout is =
    read_timed (natural_of 2147483647 word) timeout (λ n e. natural_within 2147483647 n word e) is

-- the number of a session has 64 bits
below_fits : (read : Option ℕ) (number : ℤ) → ((n : ℕ) → read ≡ Some n → n ≤ 9223372036854775808)
    → option_and_then below_zero read ≡ Some number → FitsSigned w64 number
below_fits None number within is = cc
below_fits (Some n) number within is = by (n == 0) refl is
  where
    by : (t : Bool) → (n == 0) ≡ t → (if t then None else Some (negsuc (n - 1))) ≡ Some number → FitsSigned w64 number
    by true zero is = cc
    by false some is =
        let low : n ≤ 9223372036854775808 = within n refl in
        let same : negsuc (n - 1) ≡ number = cc in
        subst (FitsSigned w64) same (record { sfits = omega (arith, low) })

above_fits : (read : Option ℕ) (number : ℤ) → ((n : ℕ) → read ≡ Some n → n ≤ 9223372036854775807)
    → option_map pos read ≡ Some number → FitsSigned w64 number
above_fits None number within is = cc
above_fits (Some n) number within is =
    let low : n ≤ 9223372036854775807 = within n refl in
    let same : pos n ≡ number = cc in
    subst (FitsSigned w64) same (record { sfits = omega (arith, low) })

integer_fits : (word : Text) (number : ℤ) → integer_of 9223372036854775807 9223372036854775808 word ≡ Some number → FitsSigned w64 number
unfolding integer_of
integer_fits [] number is = cc
integer_fits (b ∷ bytes) number is = by (b == 45) is
  where
    by : (t : Bool) → (if t then option_and_then below_zero (natural_of 9223372036854775808 bytes)
        else option_map pos (natural_of 9223372036854775807 (b ∷ bytes))) ≡ Some number
        → FitsSigned w64 number
    by true is =
        below_fits (natural_of 9223372036854775808 bytes) number (λ n e. natural_within 9223372036854775808 n bytes e) is
    by false is =
        above_fits (natural_of 9223372036854775807 (b ∷ bytes)) number
        (λ n e. natural_within 9223372036854775807 n (b ∷ bytes) e) is

session_fits : (word : Text) (number : ℤ) → session_at word ≡ Ok number → FitsSigned w64 number
unfolding session_at
session_fits word number is = by (integer_of 9223372036854775807 9223372036854775808 word) refl is
  where
    by : (read : Option ℤ) → integer_of 9223372036854775807 9223372036854775808 word ≡ read → ok_or read Number ≡ Ok number
        → FitsSigned w64 number
    by None e is = cc
    by (Some found) e is = let same : found ≡ number = cc in subst (FitsSigned w64) same (integer_fits word found e)

-- a zxid is not below 0, and of 64 bits
pub record Counted (zxid : ℤ) : Type 0 where
  pub fits : FitsSigned w64 zxid
  pub least : pos 0 ≤ℤ zxid

time_counted : (word : Text) (zxid : ℤ) → time_at word ≡ Ok zxid → Counted zxid
time_counted word zxid is = by (natural_of 9223372036854775807 word) refl is
  where
    by : (read : Option ℕ) → natural_of 9223372036854775807 word ≡ read → number_read read ≡ Ok zxid → Counted zxid
    by None e is = cc
    by (Some n) e is =
        let low : n ≤ 9223372036854775807 = natural_within 9223372036854775807 n word e in
        let same : pos n ≡ zxid = cc in
        subst Counted same (record { fits = record { sfits = omega (arith, low) }; least = omega (arith, ints) })

-- a password that is read is not longer than is admitted
password_short : (word : Text) (bytes : List ℕ) → password_at word ≡ Ok (Some bytes) → length bytes ≤ LONGEST_PASSWORD
unfolding password_at
password_short word bytes is = by (bytes_at word) is
  where
    by : (read : Result (List ℕ) ScriptFault) → password_read read ≡ Ok (Some bytes) → length bytes ≤ LONGEST_PASSWORD
    by (Err fault) is = cc
    by (Ok found) is = then_by (nat_le (length found) LONGEST_PASSWORD) refl is
      where
        then_by : (t : Bool) → nat_le (length found) LONGEST_PASSWORD ≡ t → (if t then Ok (Some found) else Err Words) ≡ Ok (Some bytes)
            → length bytes ≤ LONGEST_PASSWORD
        then_by true below is =
            let same : found ≡ bytes = cc in
            let low : length found ≤ LONGEST_PASSWORD = grind (arith, nat_tests) in
            subst (λ l. length l ≤ LONGEST_PASSWORD) same low
        then_by false below is = cc

-- ---- a line that says what is asked for

-- a session that is in range
pub record InRange (start : Start) : Type 0 where
  pub resumable : IsResumable start
  pub timed : 0 < start.timeout

new_in_range : (timeout : ℤ) → Timed timeout → InRange (start_of (TimeoutLine timeout))
new_in_range timeout timed =
    subst (λ t. InRange (start_of (TimeoutLine t))) (sym timed.is)
    (record { resumable = new_resumable timed.size timed.most; timed = timed.least })

resumed_in_range : (timeout session : ℤ) (password : List ℕ) (last : ℤ) → Timed timeout → FitsSigned w64 session
    → length password ≤ LONGEST_PASSWORD → Counted last → InRange (start_of (ResumeLine timeout session password last))
resumed_in_range timeout session password last timed fits short counted =
    subst (λ t. InRange (start_of (ResumeLine t session password last))) (sym timed.is) (record {
      resumable = record {
        timeout = timed.most;
        session = fits;
        password = short;
        last = counted.fits;
        counts = counted.least;
      };
      timed = timed.least;
    })

saved_in_range : (timeout session password last : Text) (value : BeginValue) → saved_at timeout session password last ≡ Ok value
    → InRange (start_of value)
unfolding saved_at
saved_in_range timeout session password last value is =
    by (password_at password) refl (timeout_at timeout) refl (session_at session) refl (time_at last) refl is
  where
    by : (a : Result (Option (List ℕ)) ScriptFault) → password_at password ≡ a
        → (b : Result ℤ ScriptFault) → timeout_at timeout ≡ b
        → (c : Result ℤ ScriptFault) → session_at session ≡ c
        → (d : Result ℤ ScriptFault) → time_at last ≡ d
        → (a >>= λ found. b >>= λ number. c >>= λ id. d >>= λ zxid. ok_or found Hex >>= λ bytes. Ok (ResumeLine number id bytes zxid))
        ≡ Ok value → InRange (start_of value)
    by (Err fault) ea b eb c ec d ed is = cc
    by (Ok found) ea (Err fault) eb c ec d ed is = cc
    by (Ok found) ea (Ok number) eb (Err fault) ec d ed is = cc
    by (Ok found) ea (Ok number) eb (Ok id) ec (Err fault) ed is = cc
    by (Ok None) ea (Ok number) eb (Ok id) ec (Ok zxid) ed is = cc
    by (Ok (Some bytes)) ea (Ok number) eb (Ok id) ec (Ok zxid) ed is =
        let same : ResumeLine number id bytes zxid ≡ value = cc in
        subst (λ v. InRange (start_of v)) same
        (resumed_in_range number id bytes zxid (timeout_timed timeout number eb) (session_fits session id ec)
        (password_short password bytes ea) (time_counted last zxid ed))

resume_in_range : (words : List Text) (value : BeginValue) → resume_at words ≡ Ok value → InRange (start_of value)
resume_in_range [] value is = cc
resume_in_range (session ∷ []) value is = cc
resume_in_range (session ∷ password ∷ []) value is = cc
resume_in_range (session ∷ password ∷ last ∷ []) value is =
    by (list_all is_printed (codes "30000" ∷ session ∷ password ∷ last ∷ [])) is
  where
    by : (t : Bool) → (if t then saved_at (codes "30000") session password last else Err Words) ≡ Ok value → InRange (start_of value)
    by true is = saved_in_range (codes "30000") session password last value is
    by false is = cc
resume_in_range (session ∷ password ∷ last ∷ more ∷ words) value is = cc

fresh_in_range : InRange (start_of fresh)
fresh_in_range = new_in_range (pos 30000) (record { size = 30000; is = refl; least = omega arith; most = omega arith })

-- ---- the first line that stands

line_in_range : (words : List Text) (value : BeginValue) → begins_at words ≡ Ok (Some value) → InRange (start_of value)
line_in_range words value is = by (split_keyword words) is
  where
    by : (split : Option (Text × List Text))
        → says_split (λ first behind. if bytes_eq first (codes "resume") then resume_at behind else Ok fresh) split ≡ Ok (Some value)
        → InRange (start_of value)
    by None is = cc
    by (Some line) is = said (bytes_eq line.0 (codes "resume")) is
      where
        said : (t : Bool) → something (if t then resume_at line.1 else Ok fresh) ≡ Ok (Some value) → InRange (start_of value)
        said true is = read (resume_at line.1) refl is
          where
            read : (r : Result BeginValue ScriptFault) → resume_at line.1 ≡ r → something r ≡ Ok (Some value) → InRange (start_of value)
            read (Err fault) e is = cc
            read (Ok found) e is =
                let same : found ≡ value = cc in
                subst (λ v. InRange (start_of v)) same (resume_in_range line.1 found e)
        said false is = let same : fresh ≡ value = cc in subst (λ v. InRange (start_of v)) same fresh_in_range

from_in_range : (number : ℕ) (lines : List Text) (value : BeginValue) → begun_from number lines ≡ Begins value → InRange (start_of value)
from_in_range number [] value is = let same : fresh ≡ value = cc in subst (λ v. InRange (start_of v)) same fresh_in_range
from_in_range number (line ∷ lines) value is =
    by (begins_at (words_of line)) refl (λ e. from_in_range (number + 1) lines value e) is
  where
    by : (said : Result (Option BeginValue) ScriptFault) → begins_at (words_of line) ≡ said
        → (begun_from (number + 1) lines ≡ Begins value → InRange (start_of value))
        → decided number said (begun_from (number + 1) lines) ≡ Begins value → InRange (start_of value)
    by (Err fault) e rest is = cc
    by (Ok None) e rest is = rest is
    by (Ok (Some found)) e rest is =
        let same : found ≡ value = cc in
        subst (λ v. InRange (start_of v)) same (line_in_range (words_of line) found e)

pub begins_in_range : (lines : List Text) (value : BeginValue) → begun_by lines ≡ Begins value → InRange (start_of value)
begins_in_range lines value is = from_in_range 1 lines value is
