-- Where a server stands in a history: by induction on the transactions that it has taken, whose last one has its zxid, as zxids rise.
use Rattle.std.proofs.Common.{◌≡◌, ◌<◌, ◌≤◌, ◌-◌, ◌^◌, ℕ, zero, suc, ℤ, pos, negsuc, List, [], ◌∷◌, Option, Some, None, refl, sym, ap}
use Rattle.std.proofs.Common.{subst, ◌∙◌, arith, take, length}
use Rattle.std.specs.Prelude.{unwrap_or, slice_get, FitsSigned}
use Rattle.std.specs.Int.{w64}
use Rattle.zk_bench.proofs.Continuing.{above}
use Rattle.std.proofs.lemmas.Option.{none-some}
use Rattle.std.proofs.lemmas.List.{take_all}
use Rattle.zk_nodes.specs.History.{Transaction, AreRising, newest, History, after, tree_at}
use Rattle.zk_laws.specs.Server.{zxid_held, tree_held}
use Rattle.zk_laws.proofs.Stamps.{up_to_newest}
use Rattle.zk_laws.specs.ServerSteps.{changes_next}
use Rattle.zk_history.specs.HistoryView.{natural}

-- the zxid of the first n + 1 transactions is that of the one after n
newest_at : (ts : List Transaction) (low n : ℕ) (t : Transaction) → slice_get ts n ≡ Some t → newest low (take (suc n) ts) ≡ t.zxid
newest_at [] low n t is = absurd (none-some t is)
newest_at (one ∷ more) low zero t is = ap (λ (o : Option Transaction). (unwrap_or o one).zxid) is
newest_at (one ∷ more) low (suc n) t is = newest_at more one.zxid n t is

positive : (ts : List Transaction) (low n : ℕ) (t : Transaction) → AreRising low ts → slice_get ts n ≡ Some t → low < t.zxid
positive [] low n t rising is = absurd (none-some t is)
positive (one ∷ more) low zero t rising is =
    subst (λ (x : ℕ). low < x) (ap (λ (o : Option Transaction). (unwrap_or o one).zxid) is) rising.0
positive (one ∷ more) low (suc n) t rising is = let rest = positive more one.zxid n t rising.2 is in omega (arith, rest, rising.0)

whole : (zxid : ℤ) (n : ℕ) → natural zxid ≡ n → 0 < n → zxid ≡ pos n
whole (pos k) n e low = ap pos e
whole (negsuc k) n e low = absurd (omega (arith, e, low))

there : (ts : List Transaction) (n : ℕ) → n < length ts → slice_get ts n ≡ None → ⊥
there [] n low e = omega (arith, low)
there (one ∷ more) zero low e = cc
there (one ∷ more) (suc n) low e = there more n (omega (arith, low)) e

-- the zxid of a server that has taken some transactions
pub zxid_is : (ts : List Transaction) (taken : ℕ) (zxid : ℤ) (t : Transaction) → AreRising 0 ts → (taken ≡ 0 → ⊥)
    → slice_get ts (taken - 1) ≡ Some t → t.zxid ≡ natural zxid → zxid ≡ pos (newest 0 (take taken ts))
zxid_is ts zero zxid t rising some is e = absurd (some refl)
zxid_is ts (suc n) zxid t rising some is e =
    let one : suc n - 1 ≡ n = omega arith in
    let at : slice_get ts n ≡ Some t = subst (λ (k : ℕ). slice_get ts k ≡ Some t) one is in
    let last = newest_at ts 0 n t at in
    whole zxid (newest 0 (take (suc n) ts)) (sym e ∙ sym last) (subst (λ (k : ℕ). 0 < k) (sym last) (positive ts 0 n t rising at))

-- one that has taken some has a last one
pub has_last : (ts : List Transaction) (taken : ℕ) → taken ≤ length ts → (taken ≡ 0 → ⊥) → slice_get ts (taken - 1) ≡ None → ⊥
has_last ts zero low some e = some refl
has_last ts (suc n) low some e =
    let one : suc n - 1 ≡ n = omega arith in
    there ts n (omega (arith, low)) (subst (λ (k : ℕ). slice_get ts k ≡ None) one e)

-- a transaction that is there has a place below their number
pub is_room : (ts : List Transaction) (n : ℕ) (t : Transaction) → slice_get ts n ≡ Some t → n < length ts
is_room [] n t is = absurd (none-some t is)
is_room (one ∷ more) zero t is = omega arith
is_room (one ∷ more) (suc n) t is = let r = is_room more n t is in omega (arith, r)

-- where none is there, there are no more
pub no_room : (ts : List Transaction) (n : ℕ) → slice_get ts n ≡ None → length ts ≤ n
no_room [] n is = omega arith
no_room (one ∷ more) zero is = absurd cc
no_room (one ∷ more) (suc n) is = let r = no_room more n is in omega (arith, r)

-- its changes are the next ones
pub next_are : (h : History) (n : ℕ) (t : Transaction) → slice_get h.transactions n ≡ Some t → changes_next h n ≡ t.changes
next_are h n t is = ap (λ (o : Option Transaction). elim o [ None ↦ [] | Some one ↦ one.changes ]) is

-- it is one of 64 bits
pub zxid_fits : (ts : List Transaction) (taken : ℕ) (zxid : ℤ) (t : Transaction) → AreRising 0 ts → (taken ≡ 0 → ⊥)
    → slice_get ts (taken - 1) ≡ Some t → t.zxid ≡ natural zxid → FitsSigned w64 zxid
zxid_fits ts taken zxid t rising some is e =
    let bounds = above ts 0 (taken - 1) t rising is in
    let low : 0 < t.zxid = omega (arith, bounds.0) in
    let high : t.zxid < 2 ^ 63 = bounds.1 in
    let same : zxid ≡ pos t.zxid = whole zxid t.zxid (sym e) low in
    let fits : FitsSigned w64 (pos t.zxid) = omega (arith, high) in
    subst (λ (z : ℤ). FitsSigned w64 z) (sym same) fits

-- the tree at the zxid of a server is that of the transactions that it has taken
pub held_tree : (h : History) (taken : ℕ) → AreRising 0 h.transactions → tree_at h (zxid_held h taken) ≡ tree_held h taken
held_tree h taken rising = ap (λ (ts : List Transaction). after ts h.first) (up_to_newest 0 taken h.transactions rising)

-- the newest tree is that of a server that has taken all transactions
pub newest_tree : (h : History) (taken : ℕ)
    → AreRising 0 h.transactions → length h.transactions ≤ taken → tree_at h (newest 0 h.transactions) ≡ tree_held h taken
newest_tree h taken rising all =
    ap (λ (ts : List Transaction). tree_at h (newest 0 ts)) (sym (take_all taken h.transactions all)) ∙ held_tree h taken rising
