-- None of some names is before another, as a test and as a set says it: name by name, the test is whether a name has the prefix and is
-- before.
use Rattle.std.proofs.Common.{◌≡◌, ◌↔◌, Bool, true, false, ◌||◌, not, List, [], ◌∷◌, refl, sym, ap, ◌∙◌, subst, drop, length}
use Rattle.std.proofs.lemmas.Bool.Decides.{Decides-eqb}
use Rattle.std.specs.Prelude.{bytes_eq, nat_eq}
use Rattle.std.specs.List.{list_any, starts_with}
use Rattle.std.specs.FinSet as set
use Rattle.std.proofs.lemmas.Slice.Eq.{starts_is}
use Rattle.zk_turns.proofs.Lists.{same_text, bytes_eq-refl}
use Rattle.zk_nodes.specs.Path.{Name}
use Rattle.zk_conclusions.specs.Holders.{HasPrefix, is_before, IsFirstOf}
use Rattle.zk_conclusions.specs.inner.Holders.{is_rival}
use Rattle.zk_conclusions.proofs.Sets.{members}

-- the test of a prefix
pub begins : (prefix name : Name) → starts_with nat_eq name prefix ≡ true → HasPrefix prefix name
begins prefix name e = (drop (length prefix) name, (starts_is Decides-eqb name prefix (starts_with nat_eq name prefix) refl).0 e)

pub tells_prefix : (prefix name : Name) → HasPrefix prefix name → starts_with nat_eq name prefix ≡ true
tells_prefix prefix name h = (starts_is Decides-eqb name prefix (starts_with nat_eq name prefix) refl).1 h.0 h.1

-- a name that does not begin with the prefix, or is not before the own one, is no rival
no_rival : (prefix own name : Name) → (HasPrefix prefix name → is_before name own ≡ false) → is_rival prefix own name ≡ false
no_rival prefix own name h = go (starts_with nat_eq name prefix) refl
  where
    go : (b : Bool) → starts_with nat_eq name prefix ≡ b → is_rival prefix own name ≡ false
    go true e = rw e (h (begins prefix name e))
    go false e = rw e refl

not_before : (prefix own name : Name) → is_rival prefix own name ≡ false → HasPrefix prefix name → is_before name own ≡ false
not_before prefix own name e h = let k = tells_prefix prefix name h in (rw k at e)

or_false : (a b : Bool) → (a || b) ≡ false → (a ≡ false) × (b ≡ false)
or_false false false e = (refl, refl)
or_false false true e = absurd cc
or_false true b e = absurd cc

-- none of these is a rival, and this is one of them
one_of : (prefix own name : Name) (names : List Name)
    → list_any (is_rival prefix own) names ≡ false → list_any (bytes_eq name) names ≡ true → is_rival prefix own name ≡ false
one_of prefix own name [] none there = absurd cc
one_of prefix own name (one ∷ more) none there = go (bytes_eq name one) refl (λ k. one_of prefix own name more parts.1 k)
  where
    parts : (is_rival prefix own one ≡ false) × (list_any (is_rival prefix own) more ≡ false)
    parts = or_false (is_rival prefix own one) (list_any (is_rival prefix own) more) none

    go : (b : Bool) → bytes_eq name one ≡ b → (list_any (bytes_eq name) more ≡ true → is_rival prefix own name ≡ false)
        → is_rival prefix own name ≡ false
    go true e rest = subst (λ (n : Name). is_rival prefix own n ≡ false) (sym (same_text name one e)) parts.0
    go false e rest = rest (rw e at there)

none_of : (prefix own : Name) (names : List Name)
    → ((name : Name) → list_any (bytes_eq name) names ≡ true → is_rival prefix own name ≡ false)
    → list_any (is_rival prefix own) names ≡ false
none_of prefix own [] each = refl
none_of prefix own (one ∷ more) each =
    let here : is_rival prefix own one ≡ false = each one (rw (bytes_eq-refl one) refl) in
    rw here (none_of prefix own more (λ name there. each name (later name there)))
  where
    later : (name : Name) → list_any (bytes_eq name) more ≡ true → (bytes_eq name one || list_any (bytes_eq name) more) ≡ true
    later name there = go (bytes_eq name one)
      where
        go : (b : Bool) → (b || list_any (bytes_eq name) more) ≡ true
        go true = refl
        go false = there

not_true : (result b : Bool) → result ≡ not b → result ≡ true → b ≡ false
not_true result false e t = refl
not_true result true e t = absurd cc

-- no rival is among the names exactly where the name is first of their set
pub is_first_of : (prefix own : Name) (names : List Name) (result : Bool) → result ≡ not (list_any (is_rival prefix own) names)
    → (result ≡ true) ↔ IsFirstOf (set.from_list names) prefix own
is_first_of prefix own names result e = (to, from)
  where
    to : result ≡ true → IsFirstOf (set.from_list names) prefix own
    to t name there starts =
        let none : list_any (is_rival prefix own) names ≡ false = not_true result (list_any (is_rival prefix own) names) e t in
        not_before prefix own name (one_of prefix own name names none (members names name ∙ there)) starts

    from : IsFirstOf (set.from_list names) prefix own → result ≡ true
    from first =
        let none : list_any (is_rival prefix own) names ≡ false =
        none_of prefix own names (λ name there. no_rival prefix own name (first name (sym (members names name) ∙ there))) in
        e ∙ ap not none
