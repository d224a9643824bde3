-- The text of a child: what it is made of, and its first fault by the name alone.
use Rattle.std.proofs.Common.{◌≡◌, ℕ, ◌<◌, ◌≤◌, ◌==◌, Bool, true, false, ◌&&◌, ◌||◌, not, eqb, if◌then◌else◌, List, [], ◌∷◌, ◌++◌, length}
use Rattle.std.proofs.Common.{get_or, Some, None, refl, sym, ap, ◌∙◌, arith}
use Rattle.std.proofs.lemmas.List.Folds.{list_any-append}
use Rattle.std.proofs.lemmas.Bool.Decides.{nat_tests}
use Rattle.std.proofs.lemmas.Str.{chars-append, chars-IsAscii, IsUtf8-from_ascii}
use Rattle.std.specs.Prelude.{nat_lt, bytes_eq, chars, IsUtf8}
use Rattle.std.specs.List.{list_any}
use Rattle.zk_nodes.specs.Path.{Name, NodePath, text_of, path_of, has_no_slash, is_empty, are_names, child_text}
use Rattle.zk_nodes.specs.PathFault.{is_dots, is_refused, fault_of_names, fault_of, child_fault, IsPath}
use Rattle.zk_nodes.specs.declared.path_fault.PathFault.TheVariants.{TooLong, BadCharacter, DotName, SlashInName, EmptyName}
use Rattle.zk_nodes.proofs.PathLemmas.{IsPath-parts, IsPath-text, IsPath-names}
use Rattle.zk_nodes.proofs.PathTexts.{path_of-text_of, slash_first, slash_ascii, root_text}
use Rattle.zk_limits.specs.declared.limits.TheConstants.{LONGEST_PATH}

-- a byte is a slash where not all are others
pub slash-found : (name : Name) → list_any (λ b. b == 47) name ≡ not (has_no_slash name)
slash-found [] = refl
slash-found (b ∷ bs) =
    elim (eqb b 47) as (λ v. (v || list_any (λ b. b == 47) bs) ≡ not (not v && has_no_slash bs)) [
      | true ↦ refl
      | false ↦ slash-found bs
    ]

pub slash_in : (bytes name : List ℕ) (found : Bool)
    → bytes ≡ name → found ≡ list_any (λ b. b == 47) bytes → found ≡ true → not (has_no_slash name) ≡ true
slash_in bytes name found e h is = sym (slash-found name) ∙ ap (list_any (λ b. b == 47)) (sym e) ∙ sym h ∙ is

pub one_name : (bytes name : List ℕ) (found : Bool)
    → bytes ≡ name → found ≡ list_any (λ b. b == 47) bytes → found ≡ false → has_no_slash name ≡ true
one_name bytes name found e h is =
    let n : not (has_no_slash name) ≡ false = sym (slash-found name) ∙ ap (list_any (λ b. b == 47)) (sym e) ∙ sym h ∙ is in
    grind (arith, n)

pub filled : (name : Name) → (length name ≡ 0 → ⊥) → is_empty name ≡ false
filled [] n = absurd (n refl)
filled (b ∷ bs) n = refl

pub child_text-root : (text name : List ℕ) → path_of text ≡ [] → child_text text name ≡ 47 ∷ name
child_text-root text name e = ap (λ p. text_of (name ∷ p)) e

pub child_text-below : (text name : List ℕ) → IsPath text → (path_of text ≡ [] → ⊥) → child_text text name ≡ text ++ 47 ∷ name
child_text-below text name is n = go (path_of text) n ∙ ap (λ t. t ++ 47 ∷ name) (IsPath-text text is) where
  go : (p : NodePath) → (p ≡ [] → ⊥) → text_of (name ∷ p) ≡ text_of p ++ 47 ∷ name
  go [] n = absurd (n refl)
  go (x ∷ p) n = refl

-- a slash and a name
slash_refused : (name : List ℕ) → list_any is_refused (chars (47 ∷ name)) ≡ list_any is_refused (chars name)
slash_refused name =
    ap (list_any is_refused) (chars-append (47 ∷ []) name (IsUtf8-from_ascii (47 ∷ []) slash_ascii))
    ∙ ap (λ cs. list_any is_refused (cs ++ chars name)) (chars-IsAscii (47 ∷ []) slash_ascii)

nonempty : (name : Name) (path : NodePath) → name ∷ path ≡ [] → ⊥
nonempty name path e = cc

child_refused : (text name : List ℕ)
    → IsPath text → IsUtf8 text → list_any is_refused (chars (child_text text name)) ≡ list_any is_refused (chars name)
child_refused text name is utf8 = go (path_of text) refl where
  go : (p : NodePath) → path_of text ≡ p → list_any is_refused (chars (child_text text name)) ≡ list_any is_refused (chars name)
  go [] e = ap (λ t. list_any is_refused (chars t)) (child_text-root text name e) ∙ slash_refused name
  go (x ∷ p) e =
      ap (λ t. list_any is_refused (chars t)) (child_text-below text name is (λ r. nonempty x p (sym e ∙ r)))
      ∙ ap (list_any is_refused) (chars-append text (47 ∷ name) utf8)
      ∙ list_any-append is_refused (chars text) (chars (47 ∷ name))
      ∙ ap (λ v. v || list_any is_refused (chars (47 ∷ name))) (IsPath-parts text is).3
      ∙ slash_refused name

more_names : (name : Name) (path : NodePath)
    → is_empty name ≡ false → fault_of_names path ≡ None → fault_of_names (name ∷ path) ≡ (if is_dots name then Some DotName else None)
more_names name path e f =
    let a : list_any is_empty path ≡ false = grind (arith, f) in
    let b : list_any is_dots path ≡ false = grind (arith, f) in
    grind (arith, e, a, b)

-- one dot, two, or neither
pub one_dot : (name : Name) (is : Bool) → is ≡ bytes_eq name (46 ∷ []) → is ≡ true → true ≡ is_dots name
one_dot name is e h = let f : bytes_eq name (46 ∷ []) ≡ true = sym e ∙ h in grind (arith, f)

pub two_dots : (name : Name) (is : Bool) → is ≡ bytes_eq name (46 ∷ 46 ∷ []) → is ≡ true → true ≡ is_dots name
two_dots name is e h = let f : bytes_eq name (46 ∷ 46 ∷ []) ≡ true = sym e ∙ h in grind (arith, f)

pub no_dots : (name : Name) (one two : Bool) → one ≡ bytes_eq name (46 ∷ []) → one ≡ false → two ≡ bytes_eq name (46 ∷ 46 ∷ [])
    → two ≡ false → false ≡ is_dots name
no_dots name one two e h k l =
    let f : bytes_eq name (46 ∷ []) ≡ false = sym e ∙ h in
    let g : bytes_eq name (46 ∷ 46 ∷ []) ≡ false = sym k ∙ l in
    grind (arith, f, g)

-- the faults that are left where a text begins with a slash
opened : (text : List ℕ) → (length text ≡ 0 → ⊥) → get_or text 0 0 ≡ 47
    → fault_of text ≡ (if nat_lt LONGEST_PATH (length text) then Some TooLong
    else (if list_any is_refused (chars text) then Some BadCharacter else fault_of_names (path_of text)))
opened text n h = grind (arith, nat_tests, n, h)

-- the path that has one byte is the root
pub below_root : (text : List ℕ) → IsPath text → (length text ≡ 1 → ⊥) → path_of text ≡ [] → ⊥
below_root text is n e = n (ap length (root_text text is e))

pub at_root : (text : List ℕ) → IsPath text → length text ≤ 1 → length text ≡ 1
at_root text is l = omega (arith, l, (IsPath-parts text is).0)

pub child_names : (text name : List ℕ)
    → IsPath text → is_empty name ≡ false → has_no_slash name ≡ true → are_names (name ∷ path_of text) ≡ true
child_names text name is some one = grind (arith, some, one, IsPath-names text is)

-- the path of a child is its name below the path
pub child_path : (text name : List ℕ)
    → IsPath text → is_empty name ≡ false → has_no_slash name ≡ true → path_of (child_text text name) ≡ name ∷ path_of text
child_path text name is some one = path_of-text_of (name ∷ path_of text) (child_names text name is some one)

-- The first fault of a child by its name.
pub child_fault-name : (text name : List ℕ) → IsPath text → IsUtf8 text → is_empty name ≡ false → has_no_slash name ≡ true
    → child_fault text name ≡ (if nat_lt LONGEST_PATH (length (child_text text name)) then Some TooLong
    else (if list_any is_refused (chars name) then Some BadCharacter else (if is_dots name then Some DotName else None)))
child_fault-name text name is utf8 some one =
    let slash = slash_first (name ∷ path_of text) in
    let first : child_fault text name ≡ fault_of (child_text text name) = rw (some, one) refl in
    let names : fault_of_names (path_of (child_text text name)) ≡ (if is_dots name then Some DotName else None) =
    ap fault_of_names (child_path text name is some one) ∙ more_names name (path_of text) some (IsPath-parts text is).4 in
    first
    ∙ opened (child_text text name) (λ e. omega (arith, e, slash.1)) slash.0
    ∙ ap (λ v. if nat_lt LONGEST_PATH (length (child_text text name)) then Some TooLong
    else (if v then Some BadCharacter else fault_of_names (path_of (child_text text name)))) (child_refused text name is utf8)
    ∙ ap (λ v. if nat_lt LONGEST_PATH (length (child_text text name)) then Some TooLong
    else (if list_any is_refused (chars name) then Some BadCharacter else v)) names

pub child_fault-long : (text name : List ℕ) → IsPath text → IsUtf8 text → is_empty name ≡ false → has_no_slash name ≡ true
    → LONGEST_PATH < length (child_text text name) → child_fault text name ≡ Some TooLong
child_fault-long text name is utf8 some one long =
    let l : nat_lt LONGEST_PATH (length (child_text text name)) ≡ true = grind (arith, nat_tests, long) in
    child_fault-name text name is utf8 some one ∙ rw l refl

pub child_fault-short : (text name : List ℕ) → IsPath text → IsUtf8 text → is_empty name ≡ false → has_no_slash name ≡ true
    → length (child_text text name) ≤ LONGEST_PATH → (refused dots : Bool)
    → refused ≡ list_any is_refused (chars name) → dots ≡ is_dots name
    → child_fault text name ≡ (if refused then Some BadCharacter else (if dots then Some DotName else None))
child_fault-short text name is utf8 some one short refused dots r d =
    let l : nat_lt LONGEST_PATH (length (child_text text name)) ≡ false = grind (arith, nat_tests, short) in
    child_fault-name text name is utf8 some one ∙ rw (l, r, d) refl

-- where there is no fault, the name is one name
pub joined_path : (text name : List ℕ) → IsPath text → child_fault text name ≡ None → path_of (child_text text name) ≡ name ∷ path_of text
joined_path text name is e = go (has_no_slash name) (is_empty name) refl refl e where
  go : (one some : Bool) → has_no_slash name ≡ one → is_empty name ≡ some
      → (if not one then Some SlashInName else (if some then Some EmptyName else fault_of (child_text text name))) ≡ None
      → path_of (child_text text name) ≡ name ∷ path_of text
  go false some h k n = cc
  go true true h k n = cc
  go true false h k n = child_path text name is k h

pub joined_above : (above text name : List ℕ)
    → above ≡ text → IsPath text → child_fault above name ≡ None → path_of (child_text above name) ≡ name ∷ path_of text
joined_above above text name e is none =
    ap (λ t. path_of (child_text t name)) e ∙ joined_path text name is (ap (λ t. child_fault t name) (sym e) ∙ none)
