-- What is so of a value that a handle was to hold is so of what it holds, if it held nothing before.
use Rattle.std.proofs.Common.{◌≡◌, ◌∙◌, ◌⊎◌, Option, Some, None, inl, inr, subst, sym}

pub made_so : {X A B : Type 0} (P : X → Type 0) (held old : Option X) (made : X)
    → (A × (held ≡ Some made)) ⊎ (B × (held ≡ old)) → old ≡ None → P made → (x : X) → held ≡ Some x → P x
made_so P held old made (inl holds) none so x is = subst P (let e : Some made ≡ Some x = sym holds.1 ∙ is in cc) so
made_so P held old made (inr kept) none so x is = absurd (let e : None ≡ Some x = sym none ∙ sym kept.1 ∙ is in cc)
