-- Names in the order of their numbers: one comparison of number and name, which is total, so the order is.
use Rattle.std.proofs.Common.{◌≡◌, ◌⊎◌, Bool, true, false, ◌||◌, refl, sym, ap, ◌∙◌, inl, inr}
use Rattle.std.specs.Ordering.{is_lt, ordering_reverse, ordering_then}
use Rattle.std.specs.Cmp.{IsTotalOrder, then_total, on_total}
use Rattle.std.specs.declared.cmp.Ordering.{Ordering}
use Rattle.std.specs.declared.cmp.Ordering.TheVariants.{Less, Equal, Greater}
use Rattle.std.proofs.lemmas.Cmp.{nat_list_cmp_total}
use Rattle.zk_nodes.specs.Path.{Name}
use Rattle.zk_nodes.specs.Names.{name_cmp}
use Rattle.zk_conclusions.proofs.Orders as in_bytes
use Rattle.zk_conclusions.specs.Numbers.{Kind, number_of, by_number, is_before, is_numbered, is_rival, is_one}

-- the other way round
reversed : (one other : Name) (o : Ordering)
    → name_cmp (number_of one) (number_of other) ≡ o → name_cmp (number_of other) (number_of one) ≡ ordering_reverse o
reversed one other o e = nat_list_cmp_total.antisymm (number_of other) (number_of one) ∙ ap ordering_reverse e

-- of two names, the one is before the other or they are the same, where the other is not before it
pub before_or_same : (one other : Name) → is_before other one ≡ false → (is_before one other ≡ true) ⊎ (one ≡ other)
before_or_same one other f = go (name_cmp (number_of one) (number_of other)) refl
  where
    go : (o : Ordering) → name_cmp (number_of one) (number_of other) ≡ o → (is_before one other ≡ true) ⊎ (one ≡ other)
    go Less e = inl (ap (λ (o : Ordering). by_number o (is_lt (name_cmp one other))) e)
    go Equal e =
        let back : is_before other one ≡ is_lt (name_cmp other one) =
        ap (λ (o : Ordering). by_number o (is_lt (name_cmp other one))) (reversed one other Equal e) in
        elim (in_bytes.before_or_same one other (sym back ∙ f)) [
          | inl before ↦ inl (ap (λ (o : Ordering). by_number o (is_lt (name_cmp one other))) e ∙ before)
          | inr same ↦ inr same
        ]
    go Greater e =
        let back : is_before other one ≡ true =
        ap (λ (o : Ordering). by_number o (is_lt (name_cmp other one))) (reversed one other Greater e) in
        absurd cc

or_left : (a b : Bool) → a ≡ true → (a || b) ≡ true
or_left true b e = refl
or_left false b e = absurd cc

or_right : (a b : Bool) → b ≡ true → (a || b) ≡ true
or_right true b e = refl
or_right false b e = e

pub own_is_one : (kind : Kind) (name : Name) → is_numbered kind.own name ≡ true → is_one kind name ≡ true
own_is_one kind name e = or_left (is_numbered kind.own name) (is_rival kind name) e

pub rival_is_one : (kind : Kind) (name : Name) → is_rival kind name ≡ true → is_one kind name ≡ true
rival_is_one kind name e = or_right (is_numbered kind.own name) (is_rival kind name) e

-- The order as one comparison

key_cmp : Name → Name → Ordering
key_cmp one other = ordering_then (name_cmp (number_of one) (number_of other)) (name_cmp one other)

key_total : IsTotalOrder key_cmp
unfolding key_cmp
key_total = then_total (on_total number_of nat_list_cmp_total) nat_list_cmp_total

by_both : (o r : Ordering) → by_number o (is_lt r) ≡ is_lt (ordering_then o r)
by_both Less r = refl
by_both Equal r = refl
by_both Greater r = refl

is_key : (one other : Name) → is_before one other ≡ is_lt (key_cmp one other)
unfolding key_cmp
is_key one other = by_both (name_cmp (number_of one) (number_of other)) (name_cmp one other)

less_of : (o : Ordering) → is_lt o ≡ true → o ≡ Less
less_of Less e = refl
less_of Equal e = absurd cc
less_of Greater e = absurd cc

key_less : (one other : Name) → is_before one other ≡ true → key_cmp one other ≡ Less
key_less one other e = less_of (key_cmp one other) (sym (is_key one other) ∙ e)

pub before_trans : (a b c : Name) → is_before a b ≡ true → is_before b c ≡ true → is_before a c ≡ true
before_trans a b c p q = is_key a c ∙ ap is_lt (key_total.trans a b c (key_less a b p) (key_less b c q))

pub never_before : (a : Name) → is_before a a ≡ false
never_before a = go (is_before a a) refl
  where
    go : (b : Bool) → is_before a a ≡ b → b ≡ false
    go false e = refl
    go true e =
        let k : key_cmp a a ≡ Less = key_less a a e in
        let m : Less ≡ ordering_reverse Less = sym k ∙ (key_total.antisymm a a ∙ ap ordering_reverse k) in
        absurd cc
