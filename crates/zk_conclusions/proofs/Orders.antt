-- Names in the order of bytes: of two names, one is before the other or they are the same.
use Rattle.std.proofs.Common.{◌≡◌, ◌⊎◌, true, false, refl, ap, ◌∙◌, inl, inr}
use Rattle.std.specs.Ordering.{is_lt, ordering_reverse}
use Rattle.std.specs.declared.cmp.Ordering.{Ordering}
use Rattle.std.specs.declared.cmp.Ordering.TheVariants.{Less, Equal, Greater}
use Rattle.std.proofs.lemmas.Cmp.{nat_list_cmp_total}
use Rattle.std.proofs.lemmas.Map.Lookups.{exact_bytes}
use Rattle.zk_nodes.specs.Path.{Name}
use Rattle.zk_nodes.specs.Names.{name_cmp}
use Rattle.zk_conclusions.specs.Holders.{is_before}

-- of two names, the one is before the other or they are the same, where the other is not before it
pub before_or_same : (one other : Name) → is_before other one ≡ false → (is_before one other ≡ true) ⊎ (one ≡ other)
before_or_same one other f = go (name_cmp one other) refl
  where
    go : (o : Ordering) → name_cmp one other ≡ o → (is_before one other ≡ true) ⊎ (one ≡ other)
    go Less e = inl (ap is_lt e)
    go Equal e = inr (exact_bytes one other e)
    go Greater e =
        let k : name_cmp other one ≡ Less = nat_list_cmp_total.antisymm other one ∙ ap ordering_reverse e in
        let l : is_before other one ≡ true = ap is_lt k in
        absurd cc
