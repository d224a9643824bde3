-- What is not refused is a change that the history takes: each test that passed is one of the conditions under which a change is legal.
use Rattle.std.proofs.Common.{◌≡◌, ◌<◌, ◌≤◌, ◌+◌, ◌-◌, ◌%◌, ◌==◌, ◌&&◌, ◌^◌, fold, replicate, append_assoc, ℕ, zero, suc, ℤ, pos, Bool}
use Rattle.std.proofs.Common.{true, false, cond, List, [], ◌∷◌, ◌++◌, length, take, Option, Some, None, refl, sym, ap, ◌∙◌, subst, arith}
use Rattle.std.specs.Prelude.{bytes_eq, is_some, nat_lt, not}
use Rattle.std.specs.Ordering.{int_eq}
use Rattle.std.specs.Fmt.{decimal}
use Rattle.std.proofs.lemmas.Bool.Decides.{Decides-int_eq}
use Rattle.std.proofs.lemmas.Fmt.{decimal_by_steps}
use Rattle.std.proofs.lemmas.List.Sums.{fold-append}
use Rattle.std.specs.FinSet as set
use Rattle.std.proofs.lemmas.List.{take_all, append-nil}
use Rattle.std.proofs.lemmas.Slice.Eq.{bytes_eq-Decides}
use borrow.Author.Tests.{ltb-true, ltb-false, ne_eqb}
use Rattle.zk_nodes.specs.Path.{Text, Name, NodePath, byte_more, path_of, has_no_slash}
use Rattle.zk_nodes.specs.History.{Node, Tree, Creates, Sets, Deletes, Transaction, AreRising, up_to, newest, after, size_of}
use Rattle.zk_history.specs.HistoryView.{HistoryView, HasChildren, IsAccepted, first_tree, newest_tree}
use Rattle.zk_nodes.specs.PathFault.{fault_of, IsPath}
use Rattle.zk_nodes.specs.declared.path_fault.PathFault.{PathFault}
use Rattle.zk_nodes.specs.Names.{Names, name_cmp}
use Rattle.zk_history.proofs.ViewLemmas.{same_count}
use Rattle.zk_nodes.proofs.PathTexts.{root_text}
use Rattle.zk_records.specs.declared.code.Code.{Code}
use Rattle.zk_records.specs.declared.code.Code.TheVariants as codes
use Rattle.zk_laws.proofs.Stamps.{up_to_newest}
use Rattle.zk_bench.specs.inner.Writing.{tree_of, text_unless, path_told, node_of, node_at, is_version, set_refusal, absence_refusal}
use Rattle.zk_bench.specs.inner.Writing.{deletion_refusal, ten_digits, made_text, parent_refusal, place_refusal, text_refusal, first_of}
use Rattle.zk_bench.specs.inner.Writing.{refusal_above, path_refusal, creation_refusal, AreBeside}
use Rattle.zk_bench.proofs.Written.{path_told-some}

-- The tree at the last zxid is that after all transactions.
pub newest_seen : (kept : HistoryView) → AreRising 0 kept.transactions → tree_of kept (pos (newest 0 kept.transactions)) ≡ newest_tree kept
newest_seen kept rising =
    let ts = kept.transactions in
    let whole : take (length ts) ts ≡ ts = take_all (length ts) ts (omega arith) in
    let all : up_to (newest 0 ts) ts ≡ ts =
    ap (λ (xs : List Transaction). up_to (newest 0 xs) ts) (sym whole) ∙ up_to_newest 0 (length ts) ts rising ∙ whole in
    ap (λ (xs : List Transaction). after xs (first_tree kept)) all

-- a node that is found at a text is at its path
there : (tree : Tree) (text : Text) (node : Node) → node_at tree text ≡ Some node → IsPath text × (tree (path_of text) ≡ Some node)
there tree text node is = go (fault_of text) refl is
  where
    go : (fault : Option PathFault) → fault_of text ≡ fault → node_of tree (text_unless fault text) ≡ Some node
        → (fault_of text ≡ None) × (tree (path_of text) ≡ Some node)
    go None none e = (none, e)
    go (Some fault) some e = absurd cc

-- neither of two tests refuses
both_pass : (first second : Bool) (one two : Code) → cond first (Some one) (cond second None (Some two)) ≡ None → second ≡ true
both_pass true second one two is = absurd cc
both_pass false true one two is = refl
both_pass false false one two is = absurd cc

-- Where a setData is not refused, the history takes the data, unless they are too long.
pub set_allowed : (tree : Tree) (text : Text) (asked : ℤ) (content : Option (List ℕ))
    → set_refusal (node_at tree text) asked ≡ None → size_of content ≤ 2147483647 → IsAccepted (Sets (path_of text) content) tree
set_allowed tree text asked content free small = (go (node_at tree text) refl free, small)
  where
    go : (node : Option Node) → node_at tree text ≡ node → set_refusal node asked ≡ None
        → (held : Node) × (tree (path_of text) ≡ Some held) × (held.version < 2147483647)
    go None is none = absurd cc
    go (Some held) is none = (
      held,
      (there tree text held is).1,
      ltb-true held.version 2147483647
          (both_pass (not (is_version asked (pos held.version))) (nat_lt held.version 2147483647) codes.BadVersion codes.BadArguments none),
    )

absent : (node : Option Node) → is_some node ≡ false → node ≡ None
absent None is = refl
absent (Some node) is = absurd cc

legal_delete : (tree : Tree) (path : NodePath) (names : Names) (node : Node) → (path ≡ [] → ⊥)
    → tree path ≡ Some node → HasChildren tree path names → set.len names ≡ 0 → IsAccepted (Deletes path) tree
legal_delete tree [] names node below is children none = absurd (below refl)
legal_delete tree (name ∷ path) names node below is children none =
    let empty : names ≡ set.empty = set.empty_of_len names none in (
      (
        ap is_some is,
        λ child. absent (tree (child ∷ name ∷ path))
            (sym (children child) ∙ ap (λ (x : Names). set.contains x child) empty ∙ set.contains-empty name_cmp child),
      ),
      tt,
    )

no_count : (count : ℕ) → int_eq (pos count) (pos 0) ≡ true → count ≡ 0
no_count count is = let same : pos count ≡ pos 0 = (Decides-int_eq (pos count) (pos 0)).0 is in cc

-- Where a delete is not refused, the history takes it.
pub delete_allowed : (tree : Tree) (text : Text) (names : Names) (asked : ℤ) → HasChildren tree (path_of text) names
    → deletion_refusal tree text (set.len names) asked ≡ None → IsAccepted (Deletes (path_of text)) tree
delete_allowed tree text names asked children free = root (bytes_eq text (47 ∷ [])) refl free
  where
    go : (node : Option Node) → node_at tree text ≡ node → bytes_eq text (47 ∷ []) ≡ false
        → absence_refusal node (set.len names) asked ≡ None → IsAccepted (Deletes (path_of text)) tree
    go None is below none = absurd cc
    go (Some held) is below none =
        let at = there tree text held is in
        let apart : path_of text ≡ [] → ⊥ = λ top. let e : bytes_eq text (47 ∷ []) ≡ true =
        (bytes_eq-Decides text (47 ∷ [])).1 (root_text text at.0 top) in absurd cc in
        legal_delete tree (path_of text) names held apart at.1 children (no_count (set.len names) (both_pass
        (not (is_version asked (pos held.version))) (int_eq (pos (set.len names)) (pos 0)) codes.BadVersion codes.NotEmpty none))

    root : (top : Bool) → bytes_eq text (47 ∷ []) ≡ top → cond top (Some codes.BadArguments)
        (absence_refusal (node_at tree text) (set.len names) asked) ≡ None → IsAccepted (Deletes (path_of text)) tree
    root true is none = absurd cc
    root false is none = go (node_at tree text) refl is none

-- The parent of a sequential node is that of the path that was asked for

plain_digit : (digit : ℕ) → has_no_slash ((48 + digit) ∷ []) ≡ true
plain_digit digit = let other : ((48 + digit) == 47) ≡ false = ne_eqb (48 + digit) 47 (λ same. omega (arith, same)) in
    ap (λ (b : Bool). not b && true) other

plain_front : (slash rest : Bool) → (not slash && rest) ≡ true → (slash ≡ false) × (rest ≡ true)
plain_front true rest is = absurd cc
plain_front false rest is = (refl, is)

plain-append : (xs ys : List ℕ) → has_no_slash xs ≡ true → has_no_slash ys ≡ true → has_no_slash (xs ++ ys) ≡ true
plain-append [] ys front back = back
plain-append (x ∷ xs) ys front back =
    let h = plain_front (x == 47) (has_no_slash xs) front in
    ap (λ (b : Bool). not b && has_no_slash (xs ++ ys)) h.0 ∙ plain-append xs ys h.1 back

plain_zeros : (count : ℕ) → has_no_slash (replicate count 48) ≡ true
plain_zeros zero = refl
plain_zeros (suc count) = plain_zeros count

plain_decimal : (number : ℕ) → number < 2 ^ 64 → has_no_slash (decimal number) ≡ true
plain_decimal number low =
    decimal_by_steps (λ n digits. has_no_slash digits ≡ true) (λ n small. plain_digit n)
    (λ n digits large front. plain-append digits ((48 + n % 10) ∷ []) front (plain_digit (n % 10))) number low

-- bytes that are no slash go to the last name
name_grows : (bytes : List ℕ) (name : Name) (path : NodePath)
    → has_no_slash bytes ≡ true → fold byte_more (name ∷ path) bytes ≡ (name ++ bytes) ∷ path
name_grows [] name path plain = ap (λ (n : Name). n ∷ path) (sym (append-nil name))
name_grows (b ∷ bytes) name path plain =
    let h = plain_front (b == 47) (has_no_slash bytes) plain in
    ap (λ (t : Bool). fold byte_more (cond t ([] ∷ name ∷ path) ((name ++ b ∷ []) ∷ path)) bytes) h.0
    ∙ name_grows bytes (name ++ b ∷ []) path h.1
    ∙ ap (λ (n : Name). n ∷ path) (append_assoc name (b ∷ []) bytes)

longer_path : (asked bytes : Text) (name : Name) (path : NodePath)
    → path_of asked ≡ name ∷ path → has_no_slash bytes ≡ true → path_of (asked ++ bytes) ≡ (name ++ bytes) ∷ path
longer_path [] bytes name path is plain = absurd cc
longer_path (b ∷ []) bytes name path is plain = absurd cc
longer_path (b ∷ c ∷ rest) bytes name path is plain =
    fold-append byte_more [] (b ∷ c ∷ rest) bytes ∙ ap (λ (p : NodePath). fold byte_more p bytes) is ∙ name_grows bytes name path plain

made_path : (sequential : Bool) (tree : Tree) (asked at : Text) (number : ℕ) (name : Name) (parent : NodePath)
    → made_text sequential asked number ≡ Some at → path_of asked ≡ name ∷ parent
    → (last : Name) × (path_of at ≡ last ∷ parent)
made_path false tree asked at number name parent is above = let same : asked ≡ at = cc in (name, ap path_of (sym same) ∙ above)
made_path true tree asked at number name parent is above = go (nat_lt 9999999999 number) refl is
  where
    go : (long : Bool) → nat_lt 9999999999 number ≡ long → cond long None (path_told (asked ++ ten_digits number)) ≡ Some at
        → (last : Name) × (path_of at ≡ last ∷ parent)
    go true test none = absurd cc
    go false test some =
        let low : number ≤ 9999999999 = ltb-false 9999999999 number test in
        let same : at ≡ asked ++ ten_digits number = (path_told-some tree (asked ++ ten_digits number) at some).0 in
        let plain : has_no_slash (ten_digits number) ≡ true = plain-append (replicate (10 - length (decimal number)) 48) (decimal number)
        (plain_zeros (10 - length (decimal number))) (plain_decimal number (omega (arith, low))) in
        (name ++ ten_digits number, ap path_of same ∙ longer_path asked (ten_digits number) name parent above plain)

-- Creates

none_first : (one two : Option Code) → first_of one two ≡ None → (one ≡ None) × (two ≡ None)
none_first None two is = (refl, is)
none_first (Some code) two is = absurd cc

parent_there : (node : Option Node) → parent_refusal node ≡ None → is_some node ≡ true
parent_there None is = absurd cc
parent_there (Some node) is = refl

place_free : (node : Option Node) (count : ℕ) → place_refusal node (pos count) ≡ None → (node ≡ None) × (count < 2147483647)
place_free (Some node) count is = absurd cc
place_free None count is = (refl, go (nat_lt count 2147483647) refl is)
  where
    go : (few : Bool) → nat_lt count 2147483647 ≡ few → cond few None (Some codes.BadArguments) ≡ None → count < 2147483647
    go true e h = ltb-true count 2147483647 e
    go false e h = absurd cc

-- Where a create is not refused, the history takes it, unless the data are too long.
pub create_allowed : (tree : Tree) (sequential : Bool) (text at : Text) (number : ℕ) (names : Names) (content : Option (List ℕ)) (owner : ℤ)
    → AreBeside tree (path_of text) names
    → made_text sequential text number ≡ Some at → creation_refusal tree sequential text number (set.len names) ≡ None
    → size_of content ≤ 2147483647 → IsAccepted (Creates (path_of at) content owner) tree
create_allowed tree sequential text at number names content owner beside made free small = told (fault_of text) free
  where
    rest : Option Code
    rest = text_refusal tree (made_text sequential text number) (pos (set.len names))

    below : (path : NodePath) → path_of text ≡ path → AreBeside tree path names → first_of (refusal_above tree path) rest ≡ None
        → IsAccepted (Creates (path_of at) content owner) tree
    below [] is near none = absurd cc
    below (name ∷ parent) is near none =
        let both = none_first (parent_refusal (tree parent)) rest none in
        let last = made_path sequential tree text at number name parent made is in
        let free_at = place_free (tree (path_of at)) (set.len names)
        (ap (λ (o : Option Text). text_refusal tree o (pos (set.len names))) (sym made) ∙ both.1) in
        let gone : tree (last.0 ∷ parent) ≡ None = ap tree (sym last.1) ∙ free_at.0 in
        subst (λ (p : NodePath). IsAccepted (Creates p content owner) tree) (sym last.1) (
          (gone, parent_there (tree parent) both.0),
          (small, λ others children. omega (arith, free_at.1, same_count tree parent names others near children)),
        )

    told : (fault : Option PathFault) → path_refusal tree sequential (text_unless fault text) number (set.len names) ≡ None
        → IsAccepted (Creates (path_of at) content owner) tree
    told None none = below (path_of text) refl beside none
    told (Some fault) none = absurd cc
