-- How a history goes on: what is there stays, and transactions are added after it, so its zxids go on rising and there are fewer
-- transactions than zxids.
use Rattle.std.proofs.Common.{◌≡◌, ◌<◌, ◌+◌, ◌^◌, ℕ, zero, suc, ℤ, List, [], ◌∷◌, ◌++◌, Option, Some, refl, sym, ap, subst, ◌∙◌, arith}
use Rattle.std.specs.Prelude.{unwrap_or, slice_get}
use Rattle.std.proofs.lemmas.List.{append-nil}
use Rattle.std.proofs.lemmas.Option.{none-some}
use Rattle.zk_nodes.specs.History.{Transaction, Change, AreRising}
use Rattle.zk_history.specs.HistoryView.{HistoryView, with_change, with_transaction, with_one, last_with, made_transaction}
use Rattle.zk_bench.specs.Served.{Continues}

-- what stays as it was goes on
pub same_goes_on : (old new : HistoryView) → new ≡ old → Continues old new
same_goes_on old new same = record {
  nodes = ap (λ (k : HistoryView). k.nodes) same;
  more = [];
  transactions = ap (λ (k : HistoryView). k.transactions) same ∙ sym (append-nil old.transactions);
}

-- a change goes into the last transaction
pub last_with-append : (ts : List Transaction) (t : Transaction) (c : Change) → last_with (ts ++ t ∷ []) c ≡ ts ++ with_one t c ∷ []
last_with-append [] t c = refl
last_with-append (a ∷ []) t c = refl
last_with-append (a ∷ b ∷ ts) t c = ap (λ (xs : List Transaction). a ∷ xs) (last_with-append (b ∷ ts) t c)

-- a transaction more, with no change yet
pub begun_goes_on : (old new : HistoryView) (zxid : ℕ) (time : ℤ) → new ≡ with_transaction old zxid time → Continues old new
begun_goes_on old new zxid time is = record {
  nodes = ap (λ (k : HistoryView). k.nodes) is;
  more = made_transaction zxid time [] ∷ [];
  transactions = ap (λ (k : HistoryView). k.transactions) is;
}

-- a transaction more, with one change
pub changed_goes_on : (old mid new : HistoryView) (zxid : ℕ) (time : ℤ) (c : Change)
    → mid ≡ with_transaction old zxid time → new ≡ with_change mid c → Continues old new
changed_goes_on old mid new zxid time c begun changed =
    let is : new ≡ with_change (with_transaction old zxid time) c = changed ∙ ap (λ (k : HistoryView). with_change k c) begun in
    record {
      nodes = ap (λ (k : HistoryView). k.nodes) is;
      more = with_one (made_transaction zxid time []) c ∷ [];
      transactions = ap (λ (k : HistoryView). k.transactions) is ∙ last_with-append old.transactions (made_transaction zxid time []) c;
    }

-- The n-th of rising transactions has a zxid above n more than the bound.
pub above : (ts : List Transaction) (low n : ℕ) (t : Transaction)
    → AreRising low ts → slice_get ts n ≡ Some t → (low + n < t.zxid) × (t.zxid < 2 ^ 63)
above [] low n t rising is = absurd (none-some t is)
above (one ∷ more) low zero t rising is =
    let e : one ≡ t = ap (λ (o : Option Transaction). unwrap_or o one) is in
    let P : Transaction → Type 0 = λ (x : Transaction). (low + 0 < x.zxid) × (x.zxid < 2 ^ 63) in
    subst P e (omega (arith, rising.0), rising.1)
above (one ∷ more) low (suc n) t rising is =
    let rest = above more one.zxid n t rising.2 is in
    (omega (arith, rest.0, rising.0), rest.1)

-- There are fewer transactions than zxids.
pub few : (ts : List Transaction) (n : ℕ) (t : Transaction) → AreRising 0 ts → slice_get ts n ≡ Some t → n < 2 ^ 63
few ts n t rising is = let h = above ts 0 n t rising is in omega (arith, h.0, h.1)
