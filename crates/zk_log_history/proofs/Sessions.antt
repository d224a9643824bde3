-- The paths that are kept for each session.
use Rattle.std.proofs.Common.{◌≡◌, ◌<ℤ◌, ℕ, ℤ, pos, Bool, true, false, ◌&&◌, not, List, [], ◌∷◌, ◌++◌, map, Option}
use Rattle.std.proofs.Common.{Some, None, refl, sym, ap, ◌∙◌, cond, subst, arith}
use Rattle.std.proofs.Common.{Result, Ok, Err, OnOk, Ordering, Less, Equal, Greater}
use Rattle.std.proofs.lemmas.Bool.{cond-true, cond-false}
use Rattle.std.proofs.lemmas.Bool.Decides.{Decides-int_eq}
use Rattle.std.proofs.lemmas.Int.{ints}
use Rattle.std.proofs.lemmas.List.{append-nil, map-append}
use Rattle.std.specs.BTreeMap.{BTreeMap, UpdatesBy, get}
use Rattle.std.specs.Cmp.{int_ranks}
use Rattle.std.specs.Option.{option_map_or}
use Rattle.std.specs.Ordering.{MatchOrdering, int_eq, int_cmp, is_eq}
use Rattle.std.specs.declared.vec.Vec.{Vec}
use Rattle.zk_nodes.specs.Path.{Text, path_of}
use Rattle.zk_nodes.specs.History.{Change}
use Rattle.zk_history.specs.HistoryView.{HistoryView, with_change, with_transaction}
use Rattle.zk_history.specs.Made.{change_of}
use Rattle.zk_history.specs.declared.change.Change.{Change as Made}
use Rattle.zk_history.specs.declared.change.Change.TheVariants.{Create}
use Rattle.zk_log_history.specs.Changes.{is_owner, made_by, made_in}
use Rattle.zk_log_history.specs.Made.{paths_made, AreMade}
use Rattle.zk_log_history.proofs.Changing.{made_in-with, made_in-begun}

pub differs : (x y : ℤ) → (x ≡ y → ⊥) → int_eq x y ≡ false
differs x y h = go (int_eq x y) refl where
  go : (b : Bool) → int_eq x y ≡ b → int_eq x y ≡ false
  go false e = e
  go true e = absurd (h ((Decides-int_eq x y).0 e))

compared : (x y : ℤ) → is_eq (int_cmp x y) ≡ int_eq x y
compared x y = go (int_cmp x y) refl where
  ranks : (r : Ordering) → int_cmp x y ≡ r → MatchOrdering r (x <ℤ y) (x ≡ y) (y <ℤ x)
  ranks r e = subst (λ o. MatchOrdering o (x <ℤ y) (x ≡ y) (y <ℤ x)) e (int_ranks x y)

  go : (r : Ordering) → int_cmp x y ≡ r → is_eq r ≡ int_eq x y
  go Less e = sym (differs x y (λ same. let below : x <ℤ y = ranks Less e in omega (arith, ints, below, same)))
  go Equal e = sym ((Decides-int_eq x y).1 (ranks Equal e))
  go Greater e = sym (differs x y (λ same. let above : y <ℤ x = ranks Greater e in omega (arith, ints, above, same)))

pub and_false : (a : Bool) → (a && false) ≡ false
and_false true = refl
and_false false = refl

-- a path more is kept for its session, in the place of what was kept
pub noted : {A : Type 0} (m n after : BTreeMap ℤ (Vec Text A)) (w : Vec Text A) (owner : ℤ) (p : Text) → (owner ≡ pos 0 → ⊥)
    → UpdatesBy int_cmp (int_cmp owner) m n None → UpdatesBy int_cmp (int_cmp owner) n after (Some w)
    → w.items ≡ paths_made m owner ++ p ∷ []
    → (s : ℤ) → paths_made after s ≡ cond (is_owner s owner) (paths_made m s ++ p ∷ []) (paths_made m s)
noted {A} m n after w owner p some out put is s = go (int_eq owner s) refl where
  items : Option (Vec Text A) → List Text
  items o = option_map_or (λ v. v.items) o []

  go : (b : Bool) → int_eq owner s ≡ b → paths_made after s ≡ cond (is_owner s owner) (paths_made m s ++ p ∷ []) (paths_made m s)
  go true e =
      let same : owner ≡ s = (Decides-int_eq owner s).0 e in
      let here : is_eq (int_cmp owner s) ≡ true = compared owner s ∙ e in
      let real : int_eq s (pos 0) ≡ false = differs s (pos 0) (λ zero. some (same ∙ zero)) in
      let owns : is_owner s owner ≡ true = ap (λ b. not b && int_eq owner s) real ∙ e in
      ap items (put.0 s ∙ cond-true (is_eq (int_cmp owner s)) (Some w) (get int_cmp n s) here) ∙ is
      ∙ ap (λ q. paths_made m q ++ p ∷ []) same
      ∙ sym (cond-true (is_owner s owner) (paths_made m s ++ p ∷ []) (paths_made m s) owns)
  go false e =
      let apart : is_eq (int_cmp owner s) ≡ false = compared owner s ∙ e in
      let other : is_owner s owner ≡ false = ap (λ b. not (int_eq s (pos 0)) && b) e ∙ and_false (not (int_eq s (pos 0))) in
      ap items (put.0 s ∙ cond-false (is_eq (int_cmp owner s)) (Some w) (get int_cmp n s) apart
      ∙ out.0 s ∙ cond-false (is_eq (int_cmp owner s)) None (get int_cmp m s) apart)
      ∙ sym (cond-false (is_owner s owner) (paths_made m s ++ p ∷ []) (paths_made m s) other)

-- so is its name path
pub listed_more : (b : Bool) (old new : List Text) (p : Text) → new ≡ cond b (old ++ p ∷ []) old
    → map path_of new ≡ map path_of old ++ cond b (path_of p ∷ []) []
listed_more true old new p is = ap (map path_of) is ∙ map-append path_of old (p ∷ [])
listed_more false old new p is = ap (map path_of) is ∙ sym (append-nil (map path_of old))

pub noted_as : {A : Type 0} (m n : BTreeMap ℤ (Vec Text A)) (one : Made A) (p : Text) (bytes : Option (Vec ℕ A)) (owner session : ℤ)
    → one ≡ Create p bytes owner → session ≡ owner
    → ((s : ℤ) → paths_made n s ≡ cond (is_owner s session) (paths_made m s ++ p ∷ []) (paths_made m s))
    → (s : ℤ) → map path_of (paths_made n s) ≡ map path_of (paths_made m s) ++ made_by s (change_of one ∷ [])
noted_as m n one p bytes owner session is same noted s =
    listed_more (is_owner s session) (paths_made m s) (paths_made n s) p (noted s)
    ∙ ap (λ (k : ℤ). map path_of (paths_made m s) ++ cond (is_owner s k) (path_of p ∷ []) []) same
    ∙ ap (λ c. map path_of (paths_made m s) ++ made_by s (change_of c ∷ [])) (sym is)

-- what is kept stays right with a change
pub AreMade-with : {A : Type 0} (m n : BTreeMap ℤ (Vec Text A)) (kept : HistoryView) (c : Change) → (kept.transactions ≡ [] → ⊥)
    → ((s : ℤ) → map path_of (paths_made n s) ≡ map path_of (paths_made m s) ++ made_by s (c ∷ []))
    → AreMade m kept → AreMade n (with_change kept c)
AreMade-with m n kept c some more made = λ s.
    more s ∙ ap (λ ps. ps ++ made_by s (c ∷ [])) (made s) ∙ sym (made_in-with s kept.transactions c some)

pub AreMade-after : {A : Type 0} (m n : BTreeMap ℤ (Vec Text A)) (kept after : HistoryView) (c : Change) → (kept.transactions ≡ [] → ⊥)
    → ((s : ℤ) → map path_of (paths_made n s) ≡ map path_of (paths_made m s) ++ made_by s (c ∷ []))
    → after ≡ with_change kept c → AreMade m kept → AreMade n after
AreMade-after m n kept after c some more then made = subst (AreMade n) (sym then) (AreMade-with m n kept c some more made)

-- what two clauses say of one outcome
pub both_ok : {X E P Q R : Type 0} (r : Result X E) → (P → Q → R) → OnOk r P → OnOk r Q → OnOk r R
both_ok (Ok x) both p q = both p q
both_ok (Err e) both p q = tt

pub AreMade-begun : {A : Type 0} (m : BTreeMap ℤ (Vec Text A)) (kept after : HistoryView) (zxid : ℕ) (time : ℤ)
    → after ≡ with_transaction kept zxid time → AreMade m kept → AreMade m after
AreMade-begun m kept after zxid time then made = λ s.
    made s ∙ sym (made_in-begun s kept.transactions zxid time) ∙ ap (λ (k : HistoryView). made_in s k.transactions) (sym then)
