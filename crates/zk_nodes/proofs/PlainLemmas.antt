-- Plain texts are texts of paths.
use Rattle.std.proofs.Common.{◌≡◌, ◌≢◌, ℕ, zero, suc, ◌+◌, ◌-◌, ◌<◌, ◌≤◌, ◌==◌, Bool, true, false, ◌&&◌, ◌||◌, not, cond, List, [], ◌∷◌}
use Rattle.std.proofs.Common.{length, None, get_or, refl, sym, ap, ◌∙◌, arith}
use Rattle.std.proofs.lemmas.Bool.Decides.{nat_tests}
use Rattle.std.proofs.lemmas.List.{take_all}
use Rattle.std.proofs.lemmas.Str.{chars-IsAscii}
use Rattle.std.specs.Prelude.{chars}
use Rattle.std.specs.Str.{IsAscii}
use Rattle.std.specs.List.{list_any}
use Rattle.zk_nodes.specs.Path.{path_of}
use Rattle.zk_nodes.specs.PathFault.{is_refused, fault_of, fault_of_names}
use Rattle.zk_nodes.specs.inner.Plain.{may_follow, IsPlain}
use Rattle.zk_limits.specs.declared.limits.TheConstants.{LONGEST_PATH}
use Rattle.zk_nodes.proofs.PathLemmas.{scan, scan-path_of, fault_of-names}

-- the same, byte by byte
abbrev plain_from : ℕ → List ℕ → Bool
plain_from before [] = not (before == 47)
plain_from before (b ∷ bs) = may_follow before b && plain_from b bs

plain_from_all : (before : ℕ) (bs : List ℕ) → ((k : ℕ) → k < length bs → may_follow (get_or (before ∷ bs) k 0) (get_or bs k 0) ≡ true)
    → get_or (before ∷ bs) (length bs) 0 ≢ 47 → plain_from before bs ≡ true
plain_from_all before [] h l = grind (arith, nat_tests, l)
plain_from_all before (b ∷ bs) h l =
    let first : may_follow before b ≡ true = h 0 (omega arith) in
    let rest = plain_from_all b bs (λ k less. h (suc k) (omega arith)) l in
    grind (arith, first, rest)

spelled : (before : ℕ) (bs : List ℕ) → plain_from before bs ≡ true → list_any is_refused bs ≡ false
spelled before [] e = refl
spelled before (b ∷ bs) e =
    let rest : plain_from b bs ≡ true = grind (arith, e) in
    grind (arith, nat_tests, e, spelled b bs rest)

ascii : (before : ℕ) (bs : List ℕ) → plain_from before bs ≡ true → (k : ℕ) → get_or bs k 0 < 128
ascii before [] e k = omega arith
ascii before (b ∷ bs) e zero = grind (arith, nat_tests, e)
ascii before (b ∷ bs) e (suc k) =
    let rest : plain_from b bs ≡ true = grind (arith, e) in
    ascii b bs rest k

-- scan n false false goes on with a byte that is a slash, or is none
go_on : (b : ℕ) (bs : List ℕ) (before n : ℕ) → 0 < n → plain_from before (b ∷ bs) ≡ true
    → ((s : Bool) → (m : ℕ) → 0 < m → (b == 47) ≡ s → scan (cond s 0 m) s false bs ≡ None) → (slash : Bool) → (b == 47) ≡ slash
    → scan n false false (b ∷ bs) ≡ None
go_on b bs before n some e rest true q =
    let m : (n == 0) ≡ false = grind (arith, nat_tests, some) in
    rw (q, m) (rest true 1 (omega arith) q)
go_on b bs before n some e rest false q = rw q (rest false (n + 1) (omega arith) q)

named : (bs : List ℕ) (s : Bool) (before n : ℕ)
    → 0 < n → (before == 47) ≡ s → plain_from before bs ≡ true → scan (cond s 0 n) s false bs ≡ None
named [] true before n some s e = grind (arith, nat_tests, s, e)
named [] false before n some s e =
    let m : (n == 0) ≡ false = grind (arith, nat_tests, some) in
    rw m refl
named (b ∷ bs) true before n some s e =
    let rest : plain_from b bs ≡ true = grind (arith, e) in
    let slash : (b == 47) ≡ false = grind (arith, nat_tests, s, e) in
    let dot : (b == 46) ≡ false = grind (arith, nat_tests, s, e) in
    rw (slash, dot) (named bs false b 1 (omega arith) slash rest)
named (b ∷ bs) false before n some s e =
    let rest : plain_from b bs ≡ true = grind (arith, e) in
    go_on b bs before n some e (λ slash m more is. named bs slash b m more is rest) (b == 47) refl

is_plain_from : (b c : ℕ) (bs : List ℕ) → IsPlain (b ∷ c ∷ bs) → plain_from b (c ∷ bs) ≡ true
is_plain_from b c bs plain = plain_from_all b (c ∷ bs) (λ k less. let place : k ≡ suc k - 1 = omega arith in
    ap (λ j. may_follow (get_or (b ∷ c ∷ bs) j 0) (get_or (c ∷ bs) k 0)) place ∙ plain.0 (suc k) (omega arith) (omega arith)) last where
      last : get_or (b ∷ c ∷ bs) (length (c ∷ bs)) 0 ≢ 47
      last e =
          let place : length (b ∷ c ∷ bs) - 1 ≡ length (c ∷ bs) = omega arith in
          plain.1 (omega arith) (ap (λ j. get_or (b ∷ c ∷ bs) j 0) place ∙ e)

-- a plain text that begins with a slash is ASCII
pub is_ascii-plain : (text : List ℕ) → 0 < length text → get_or text 0 0 ≡ 47 → IsPlain text → IsAscii text
is_ascii-plain [] some slash plain = absurd (omega (arith, some))
is_ascii-plain (b ∷ []) some slash plain = λ k. first k where
  first : (k : ℕ) → get_or (b ∷ []) k 0 < 128
  first zero = omega (arith, slash)
  first (suc k) = omega arith
is_ascii-plain (b ∷ c ∷ cs) some slash plain = λ k. all_ascii k where
  all_ascii : (k : ℕ) → get_or (b ∷ c ∷ cs) k 0 < 128
  all_ascii zero = omega (arith, slash)
  all_ascii (suc k) = ascii b (c ∷ cs) (is_plain_from b c cs plain) k

-- a plain text that begins with a slash has no fault of its characters and none of its names
plain_text : (text : List ℕ) → 0 < length text → get_or text 0 0 ≡ 47 → IsPlain text
    → (list_any is_refused (chars text) ≡ false) × (fault_of_names (path_of text) ≡ None)
plain_text [] some slash plain = absurd (omega (arith, some))
plain_text (b ∷ []) some slash plain =
    let spelled : list_any is_refused (b ∷ []) ≡ false = rw slash refl in
    (ap (list_any is_refused) (chars-IsAscii (b ∷ []) (is_ascii-plain (b ∷ []) some slash plain)) ∙ spelled, refl)
plain_text (b ∷ c ∷ cs) some slash plain =
    let rest : plain_from b (c ∷ cs) ≡ true = is_plain_from b c cs plain in
    let spelled : list_any is_refused (b ∷ c ∷ cs) ≡ false =
    ap (λ x. is_refused x || list_any is_refused (c ∷ cs)) slash ∙ spelled b (c ∷ cs) rest in
    let names : scan 0 true false (c ∷ cs) ≡ None = named (c ∷ cs) true b 1 (omega arith) (ap (λ x. x == 47) slash) rest in (
      ap (list_any is_refused) (chars-IsAscii (b ∷ c ∷ cs) (is_ascii-plain (b ∷ c ∷ cs) some slash plain)) ∙ spelled,
      sym (scan-path_of (b ∷ c ∷ cs) slash (λ e. absurd (omega (arith, e))) some)
          ∙ ap (scan 0 true false) (take_all (length (b ∷ c ∷ cs) - 1) (c ∷ cs) (omega arith)) ∙ names,
    )

pub fault_of-plain : (text : List ℕ) → (length text ≡ 0 → ⊥)
    → length text ≤ LONGEST_PATH → get_or text 0 0 ≡ 47 → IsPlain text → fault_of text ≡ None
fault_of-plain text some short slash plain =
    let parts = plain_text text (omega (arith, some)) slash plain in
    fault_of-names text some short slash parts.0 ∙ parts.1
