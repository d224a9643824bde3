-- The texts of paths: what one pass over the bytes finds, and that texts and good paths are the same.
use Rattle.std.proofs.Common.{◌≡◌, ℕ, suc, ◌+◌, ◌<◌, ◌≤◌, ◌==◌, Bool, true, false, ◌&&◌, ◌||◌, not, cond, eqb, if◌then◌else◌, nat_le, List}
use Rattle.std.proofs.Common.{[], ◌∷◌, ◌++◌, length, Option, Some, None, get_or, take, drop, ◌-◌, refl, sym, ap, ◌∙◌, arith}
use Rattle.std.proofs.lemmas.Grind.{common_steps}
use Rattle.std.proofs.lemmas.List.{length-append, append-nil, take_all}
use Rattle.std.proofs.Common.{append_assoc}
use Rattle.std.proofs.lemmas.List.Folds.{list_all-append, list_any-append}
use Rattle.std.proofs.Math.Bool.{and-true, or_comm}
use Rattle.std.proofs.lemmas.Bool.{eqb-true, cond-false}
use Rattle.std.proofs.lemmas.Bool.Decides.{nat_tests}
use Rattle.std.specs.Prelude.{fold, chars, IsUtf8}
use Rattle.std.proofs.lemmas.Str.{chars-append}
use Rattle.std.specs.List.{list_any, list_all}
use Rattle.zk_nodes.specs.Path.{Name, NodePath, text_of, byte_more, path_of, IsPathText, has_no_slash, is_empty, are_names, parent_of}
use Rattle.zk_nodes.specs.PathFault.{is_dots, is_refused, fault_of_names, fault_of, IsPath}
use Rattle.zk_nodes.specs.declared.path_fault.PathFault.{PathFault}
use Rattle.zk_nodes.specs.declared.path_fault.PathFault.TheVariants.{EmptyName, DotName, BadCharacter}
use Rattle.zk_limits.specs.declared.limits.TheConstants.{LONGEST_PATH}

-- the names, a slash before each
abbrev pub joined : NodePath → List ℕ
joined [] = []
joined (name ∷ path) = joined path ++ 47 ∷ name

pub text_of-joined : (name : Name) (path : NodePath) → text_of (name ∷ path) ≡ joined (name ∷ path)
text_of-joined name [] = refl
text_of-joined name (above ∷ path) = ap (λ t. t ++ 47 ∷ name) (text_of-joined above path)

-- one pass: how long the last name is so far, whether it is dots alone, and whether `.` or `..` came before it
abbrev pub scan : ℕ → Bool → Bool → List ℕ → Option PathFault
scan n dots dotted [] = if n == 0 then Some EmptyName else (if dotted || (dots && nat_le n 2) then Some DotName else None)
scan n dots dotted (b ∷ bs) =
    if b == 47 then (if n == 0 then Some EmptyName else scan 0 true (dotted || (dots && nat_le n 2)) bs)
    else scan (n + 1) (dots && (b == 46)) dotted bs

abbrev all_dots : Name → Bool
all_dots name = list_all (λ b. b == 46) name

is_dots-all_dots : (name : Name) → is_empty name ≡ false → is_dots name ≡ (all_dots name && nat_le (length name) 2)
is_dots-all_dots [] e = cc
is_dots-all_dots (a ∷ []) e = grind arith
is_dots-all_dots (a ∷ b ∷ []) e = grind arith
is_dots-all_dots (a ∷ b ∷ c ∷ more) e = grind arith

-- an empty name that is closed stays
empty_stays : (bs : List ℕ) (name : Name) (path : NodePath)
    → list_any is_empty path ≡ true → list_any is_empty (fold byte_more (name ∷ path) bs) ≡ true
empty_stays [] name path e = grind (arith, common_steps)
empty_stays (b ∷ bs) name path e =
    elim (eqb b 47) as (λ v. list_any is_empty (fold byte_more (cond v ([] ∷ name ∷ path) ((name ++ b ∷ []) ∷ path)) bs) ≡ true) [
      | true ↦ empty_stays bs [] (name ∷ path) (grind (arith, common_steps))
      | false ↦ empty_stays bs (name ++ b ∷ []) path e
    ]

closed : (bs : List ℕ) (name : Name) (path : NodePath) → list_any is_empty path ≡ false
    → ((p : NodePath) → list_any is_empty p ≡ false → scan 0 true (list_any is_dots p) bs ≡ fault_of_names (fold byte_more ([] ∷ p) bs))
    → (if length name == 0 then Some EmptyName else scan 0 true (list_any is_dots path || (all_dots name && nat_le (length name) 2)) bs)
    ≡ fault_of_names (fold byte_more ([] ∷ name ∷ path) bs)
closed bs [] path e rest = rw (empty_stays bs [] ([] ∷ path) refl) refl
closed bs (x ∷ xs) path e rest =
    let f : (suc (length xs) == 0) ≡ false = grind (arith, nat_tests) in
    cond-false (suc (length xs) == 0) _ _ f
    ∙ ap (λ v. scan 0 true v bs)
    (or_comm (list_any is_dots path) _ ∙ ap (λ v. v || list_any is_dots path) (sym (is_dots-all_dots (x ∷ xs) refl)))
    ∙ rest ((x ∷ xs) ∷ path) e

longer : (bs : List ℕ) (b : ℕ) (name : Name) (path : NodePath)
    → ((n : Name) → scan (length n) (all_dots n) (list_any is_dots path) bs ≡ fault_of_names (fold byte_more (n ∷ path) bs))
    → scan (length name + 1) (all_dots name && (b == 46)) (list_any is_dots path) bs
    ≡ fault_of_names (fold byte_more ((name ++ b ∷ []) ∷ path) bs)
longer bs b name path rest =
    let n : length (name ++ b ∷ []) ≡ length name + 1 = length-append name (b ∷ []) in
    let d : all_dots (name ++ b ∷ []) ≡ (all_dots name && (b == 46)) =
    list_all-append (λ x. x == 46) name (b ∷ []) ∙ ap (λ v. all_dots name && v) (and-true (b == 46)) in
    ap (λ k. scan k (all_dots name && (b == 46)) (list_any is_dots path) bs) (sym n)
    ∙ ap (λ v. scan (length (name ++ b ∷ [])) v (list_any is_dots path) bs) (sym d)
    ∙ rest (name ++ b ∷ [])

pub scan-names : (bs : List ℕ) (name : Name) (path : NodePath) → list_any is_empty path ≡ false
    → scan (length name) (all_dots name) (list_any is_dots path) bs ≡ fault_of_names (fold byte_more (name ∷ path) bs)
scan-names [] [] path e = refl
scan-names [] (x ∷ xs) path e = let d = is_dots-all_dots (x ∷ xs) refl in grind (arith, e, d)
scan-names (b ∷ bs) name path e =
    elim (eqb b 47) as (λ v. cond v (if length name == 0 then Some EmptyName else scan 0 true (list_any is_dots path
    || (all_dots name && nat_le (length name) 2)) bs) (scan (length name + 1) (all_dots name && (b == 46)) (list_any is_dots path) bs)
    ≡ fault_of_names (fold byte_more (cond v ([] ∷ name ∷ path) ((name ++ b ∷ []) ∷ path)) bs)) [
      | true ↦ closed bs name path e (λ p q. scan-names bs [] p q)
      | false ↦ longer bs b name path (λ n. scan-names bs n path e)
    ]

-- the pass begins after the first slash
pub scan-path_of : (text : List ℕ) → get_or text 0 0 ≡ 47 → (length text ≡ 1 → ⊥)
    → 0 < length text → scan 0 true false (take (length text - 1) (drop 1 text)) ≡ fault_of_names (path_of text)
scan-path_of [] h n l = absurd (omega arith)
scan-path_of (b ∷ []) h n l = absurd (n refl)
scan-path_of (b ∷ c ∷ cs) h n l =
    ap (scan 0 true false) (take_all (length (b ∷ c ∷ cs) - 1) (c ∷ cs) (omega arith))
    ∙ scan-names (c ∷ cs) [] [] refl
    ∙ ap (λ x. fault_of_names (fold byte_more (byte_more [] x) (c ∷ cs))) (sym h)

-- the text of a path, with more bytes
pub text_of-fold : (bs : List ℕ) (name : Name) (path : NodePath) → text_of (fold byte_more (name ∷ path) bs) ≡ joined (name ∷ path) ++ bs
text_of-fold [] name path = text_of-joined name path ∙ sym (append-nil (joined (name ∷ path)))
text_of-fold (b ∷ bs) name path =
    elim (eqb b 47) as (λ v. eqb b 47 ≡ v
    → text_of (fold byte_more (cond v ([] ∷ name ∷ path) ((name ++ b ∷ []) ∷ path)) bs) ≡ joined (name ∷ path) ++ b ∷ bs) [
      | true ↦ λ e. text_of-fold bs [] (name ∷ path) ∙ append_assoc (joined (name ∷ path)) (47 ∷ []) bs
          ∙ ap (λ x. joined (name ∷ path) ++ x ∷ bs) (sym (eqb-true b 47 e))
      | false ↦ λ e. text_of-fold bs (name ++ b ∷ []) path ∙ ap (λ t. t ++ bs) (sym (append_assoc (joined path) (47 ∷ name) (b ∷ [])))
          ∙ append_assoc (joined (name ∷ path)) (b ∷ []) bs
    ] refl

-- no name has a slash
no_slash-fold : (bs : List ℕ) (name : Name) (path : NodePath)
    → list_all has_no_slash (name ∷ path) ≡ true → list_all has_no_slash (fold byte_more (name ∷ path) bs) ≡ true
no_slash-fold [] name path e = e
no_slash-fold (b ∷ bs) name path e =
    elim (eqb b 47) as
    (λ v. eqb b 47 ≡ v → list_all has_no_slash (fold byte_more (cond v ([] ∷ name ∷ path) ((name ++ b ∷ []) ∷ path)) bs) ≡ true) [
      | true ↦ λ _. no_slash-fold bs [] (name ∷ path) e
      | false ↦ λ f. no_slash-fold bs (name ++ b ∷ []) path (rw (list_all-append (λ x. not (x == 47)) name (b ∷ [])) (grind (arith, e, f)))
    ] refl

are_names-from : (path : NodePath) → list_any is_empty path ≡ false → list_all has_no_slash path ≡ true → are_names path ≡ true
are_names-from [] e f = refl
are_names-from (name ∷ path) e f =
    let p : list_any is_empty path ≡ false = grind (arith, e) in
    let q : list_all has_no_slash path ≡ true = grind (arith, f) in
    grind (arith, e, f, are_names-from path p q)

none_empty : (path : NodePath) → fault_of_names path ≡ None → list_any is_empty path ≡ false
none_empty path e = grind (arith, e)

-- a text with no fault is the text of its path
pub text_of-path_of : (text : List ℕ) → 0 < length text → get_or text 0 0 ≡ 47 → text_of (path_of text) ≡ text
text_of-path_of [] l e = absurd (omega arith)
text_of-path_of (b ∷ []) l e = ap (λ x. x ∷ []) (sym e)
text_of-path_of (b ∷ c ∷ cs) l e =
    ap (λ x. text_of (fold byte_more (byte_more [] x) (c ∷ cs))) e ∙ text_of-fold (c ∷ cs) [] [] ∙ ap (λ x. x ∷ c ∷ cs) (sym e)

pub are_names-path_of : (text : List ℕ)
    → 0 < length text → get_or text 0 0 ≡ 47 → fault_of_names (path_of text) ≡ None → are_names (path_of text) ≡ true
are_names-path_of [] l e f = absurd (omega arith)
are_names-path_of (b ∷ []) l e f = refl
are_names-path_of (b ∷ c ∷ cs) l e f =
    are_names-from (path_of (b ∷ c ∷ cs)) (none_empty (path_of (b ∷ c ∷ cs)) f)
    (ap (λ x. list_all has_no_slash (fold byte_more (byte_more [] x) (c ∷ cs))) e ∙ no_slash-fold (c ∷ cs) [] [] refl)

-- the first fault of a text that is short and begins with a slash
pub fault_of-refused : (text : List ℕ) → (length text ≡ 0 → ⊥)
    → length text ≤ LONGEST_PATH → get_or text 0 0 ≡ 47 → list_any is_refused (chars text) ≡ true → fault_of text ≡ Some BadCharacter
fault_of-refused text n m h r = grind (arith, nat_tests, n, m, h, r)

pub fault_of-names : (text : List ℕ) → (length text ≡ 0 → ⊥) → length text ≤ LONGEST_PATH → get_or text 0 0 ≡ 47
    → list_any is_refused (chars text) ≡ false → fault_of text ≡ fault_of_names (path_of text)
fault_of-names text n m h r = grind (arith, nat_tests, n, m, h, r)

-- what it means that a text has no fault
pub IsPath-parts : (text : List ℕ) → IsPath text
    → (0 < length text) × (length text ≤ LONGEST_PATH) × (get_or text 0 0 ≡ 47) × (list_any is_refused (chars text) ≡ false)
    × (fault_of_names (path_of text) ≡ None)
IsPath-parts text e = (
  grind (arith, nat_tests, e),
  grind (arith, nat_tests, e),
  grind (arith, nat_tests, e),
  grind (arith, nat_tests, e),
  grind (arith, nat_tests, e),
)

pub IsPath-text : (text : List ℕ) → IsPath text → text_of (path_of text) ≡ text
IsPath-text text e = let parts = IsPath-parts text e in text_of-path_of text parts.0 parts.2

pub IsPath-names : (text : List ℕ) → IsPath text → are_names (path_of text) ≡ true
IsPath-names text e = let parts = IsPath-parts text e in are_names-path_of text parts.0 parts.2 parts.4

pub IsPath-absolute : (text : List ℕ) → IsPath text → IsPathText text
IsPath-absolute text e = let parts = IsPath-parts text e in go text parts.0 parts.2 where
  go : (bs : List ℕ) → 0 < length bs → get_or bs 0 0 ≡ 47 → IsPathText bs
  go [] l h = absurd (omega arith)
  go (b ∷ bs) l h = h

-- names without the last one have no fault
fewer_names : (name : Name) (path : NodePath) → fault_of_names (name ∷ path) ≡ None → fault_of_names path ≡ None
fewer_names name path e =
    let a : list_any is_empty path ≡ false = grind (arith, e) in
    let b : list_any is_dots path ≡ false = grind (arith, e) in
    rw (a, b) refl

above_faultless : (path above : NodePath) → fault_of_names path ≡ None → Some above ≡ parent_of path → fault_of_names above ≡ None
above_faultless [] above e p = cc
above_faultless (name ∷ path) above e p =
    let q : path ≡ above = cc in
    ap fault_of_names (sym q) ∙ fewer_names name path e

-- The text of the parent of a path is a path: it is the front of the path's text.
pub IsPath-front : (t u v : List ℕ) (above : NodePath) → IsPath t → IsUtf8 u → t ≡ u ++ v → 0 < length u → get_or u 0 0 ≡ 47
    → path_of u ≡ above → Some above ≡ parent_of (path_of t) → IsPath u
IsPath-front t u v above e utf8 front some slash is p =
    let parts = IsPath-parts t e in
    let spelled : (list_any is_refused (chars u) || list_any is_refused (chars v)) ≡ false =
    sym (list_any-append is_refused (chars u) (chars v)) ∙ ap (list_any is_refused) (sym (chars-append u v utf8))
    ∙ ap (λ x. list_any is_refused (chars x)) (sym front) ∙ parts.3 in
    let clean : list_any is_refused (chars u) ≡ false = grind (arith, spelled) in
    let short : length u ≤ LONGEST_PATH = omega (arith, parts.1, ap length front, length-append u v) in
    fault_of-names u (omega (arith, some)) short slash clean ∙ ap fault_of_names is ∙ above_faultless (path_of t) above parts.4 p
