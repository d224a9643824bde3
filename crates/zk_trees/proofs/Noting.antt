-- A tree is noted to be behind, or was so before, or is left as it is. How its members were shown to be in order makes no difference.
use Rattle.std.proofs.Common.{◌≡◌, ◌∙◌, Bool, true, false, List, refl, sym, ap}
use Rattle.std.proofs.Props.{props}
use Rattle.std.specs.Prelude.{⊤, if◌then◌else◌}
use Rattle.zk_trees.specs.declared.member.Member.{Member}
use Rattle.zk_trees.specs.declared.tree.Tree.{Tree}
use Rattle.zk_trees.specs.Orders.{AreInOrder}

one_proof : {A : Type 0} (rise : Bool) (members : List (Member A ⊤)) (p q : rise ≡ true → AreInOrder members) → p ≡ q
one_proof {A} rise members p q = same p q
  where
    same : (p q : rise ≡ true → AreInOrder members) → p ≡ q
    same = hlevel props

module _ {A : Type 0} (tree : Tree A) (is : Bool) where
  pub so_noted : (p : tree.tickets_rise ≡ true → AreInOrder tree.members.items) → is ≡ true
      → record tree { is_behind = true; in_order = p } ≡ (if is then record tree { is_behind = true } else tree)
  so_noted p so = ap (λ q. record tree { is_behind = true; in_order = q }) (one_proof tree.tickets_rise tree.members.items p tree.in_order)
      ∙ ap (λ (b : Bool). if b then record tree { is_behind = true } else tree) (sym so)

  pub not_noted : is ≡ false → tree ≡ (if is then record tree { is_behind = true } else tree)
  not_noted so = ap (λ (b : Bool). if b then record tree { is_behind = true } else tree) (sym so)

  pub noted_before : tree.is_behind ≡ true → tree ≡ (if is then record tree { is_behind = true } else tree)
  noted_before so = by is refl
    where
      by : (b : Bool) → is ≡ b → tree ≡ (if is then record tree { is_behind = true } else tree)
      by true e = ap (λ b. record tree { is_behind = b }) so
          ∙ ap (λ (b : Bool). if b then record tree { is_behind = true } else tree) (sym e)
      by false e = ap (λ (b : Bool). if b then record tree { is_behind = true } else tree) (sym e)
