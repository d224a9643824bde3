-- Calls whose tickets or limits rise: so a search by halves finds a ticket, and the first limit is the least.
use Rattle.std.proofs.Common.{◌≡◌, ◌<◌, ◌≤◌, ◌&&◌, ◌==◌, nat_le, nat_lt, ℕ, Bool, true, false, cond, not, List, [], ◌∷◌, Option, Some}
use Rattle.std.proofs.Common.{None, length, get_or, is_some, refl, sym, ap, ◌∙◌, fold, arith}
use Rattle.std.specs.List.{filter, position}
use Rattle.std.specs.List.Sorted.{IsPartitionedBy, IsPartitionPoint}
use Rattle.std.proofs.lemmas.Bool.Decides.{nat_tests}
use Rattle.zk_turns.specs.Turns.{Outcome}
use Rattle.zk_conversation.specs.Views.{call_view}
use Rattle.zk_calls.specs.declared.entry.Entry.{Entry}
use Rattle.zk_calls.specs.declared.entry.Ending.{Ending}
use Rattle.zk_calls.specs.declared.entry.Ending.TheVariants.{LostOf, Late}
use Rattle.zk_calls.specs.Lines.{answered, ended, first_handed, first_limit, first_of, goes_back, has_come, is_ended, waits_turn}
use Rattle.zk_calls.specs.Orders.{in_order, is_below}
use Rattle.zk_calls.proofs.Places.{none_passes}
use Rattle.zk_calls.proofs.Orders.{before_at, in_order-with_first, none_taken, position_is, position_none}

-- ---- tickets

pub tickets_join : {A : Type 0} (a b c : Entry A) → is_below a b ≡ true → is_below b c ≡ true → is_below a c ≡ true
tickets_join a b c one other = grind (arith, nat_tests)

and_false : (b : Bool) → (b && false) ≡ false
and_false true = refl
and_false false = refl

other_ticket : {A : Type 0} (ticket : ℕ) (entry : Entry A) → (entry.ticket == ticket) ≡ false → is_ended (LostOf ticket) entry ≡ false
other_ticket ticket entry other = ap (λ b. entry.is_sent && b) other ∙ and_false entry.is_sent

sooner : (n m : ℕ) → nat_lt n m ≡ true → (n == m) ≡ false
sooner n m less = grind (arith, nat_tests)

further : (n m : ℕ) → nat_lt m n ≡ true → (n == m) ≡ false
further n m less = grind (arith, nat_tests)

above : (at its ticket : ℕ) → nat_lt at ticket ≡ false → nat_lt at its ≡ true → nat_lt ticket its ≡ true
above at its ticket up less = grind (arith, nat_tests)

is_less : (n m : ℕ) → nat_lt n m ≡ true → n < m
is_less n m less = grind (arith, nat_tests)

is_same : (n m : ℕ) → (n == m) ≡ true → n ≡ m
is_same n m same = grind (arith, nat_tests)

is_more : (n m : ℕ) → nat_lt n m ≡ false → (n == m) ≡ false → m < n
is_more n m less same = grind (arith, nat_tests)

up_to : (n m t : ℕ) → nat_lt m t ≡ true → nat_lt n m ≡ true → nat_lt n t ≡ true
up_to n m t one other = grind (arith, nat_tests)

parted_by : {A : Type 0} (ticket : ℕ) (entries : List (Entry A)) → in_order is_below entries ≡ true → (i j : ℕ) (d : Entry A) (same : Bool)
    → (i == j) ≡ same → i ≤ j → j < length entries
    → nat_lt (get_or entries j d).ticket ticket ≡ true → nat_lt (get_or entries i d).ticket ticket ≡ true
parted_by ticket entries ordered i j d true same upto below passes =
    ap (λ n. nat_lt (get_or entries n d).ticket ticket) (is_same i j same) ∙ passes
parted_by ticket entries ordered i j d false other upto below passes =
    let less : i < j = grind (arith, nat_tests) in
    up_to (get_or entries i d).ticket (get_or entries j d).ticket ticket passes (before_at is_below entries i j d ordered less below)

pub tickets_parted : {A : Type 0} (ticket : ℕ) (entries : List (Entry A))
    → in_order is_below entries ≡ true → IsPartitionedBy (λ (e : Entry A). nat_lt e.ticket ticket) entries
tickets_parted ticket entries ordered i j d upto below passes = parted_by ticket entries ordered i j d (i == j) refl upto below passes

module _ {A : Type 0} (ticket : ℕ) (entries : List (Entry A)) (ordered : in_order is_below entries ≡ true) (place : ℕ)
    (point : IsPartitionPoint (λ (e : Entry A). nat_lt e.ticket ticket ≡ true)
    (λ (e : Entry A). nat_lt e.ticket ticket ≡ false) entries place) where
  before_fails : (k : ℕ) (d : Entry A) → k < place → is_ended (LostOf ticket) (get_or entries k d) ≡ false
  before_fails k d less =
      other_ticket ticket (get_or entries k d) (sooner (get_or entries k d).ticket ticket (point.0 k d (omega arith) less))

  after_fails : (k : ℕ) (d : Entry A) → place < k → k < length entries → is_ended (LostOf ticket) (get_or entries k d) ≡ false
  after_fails k d more below =
      let up : nat_lt (get_or entries place d).ticket ticket ≡ false = point.1 place d (omega arith) (omega arith) in
      let past : nat_lt (get_or entries place d).ticket (get_or entries k d).ticket ≡ true =
      before_at is_below entries place k d ordered more below in
      other_ticket ticket (get_or entries k d)
      (further (get_or entries k d).ticket ticket (above (get_or entries place d).ticket (get_or entries k d).ticket ticket up past))

  pub found_by_search : (x : Entry A) → place < length entries → x ≡ get_or entries place x → is_ended (LostOf ticket) x ≡ true
      → Some place ≡ position (is_ended (LostOf ticket)) entries
  found_by_search x below is passes =
      sym (position_is (is_ended (LostOf ticket)) entries place x below (λ k less. before_fails k x less)
      (ap (is_ended (LostOf ticket)) (sym is) ∙ passes))

  module _ (here : (d : Entry A) → place < length entries → is_ended (LostOf ticket) (get_or entries place d) ≡ false) where
    fails : (k : ℕ) (d : Entry A) (less same : Bool)
        → nat_lt k place ≡ less → (k == place) ≡ same → k < length entries → is_ended (LostOf ticket) (get_or entries k d) ≡ false
    fails k d true same it_is is below = before_fails k d (is_less k place it_is)
    fails k d false true it_isnt is below =
        let at : k ≡ place = is_same k place is in
        ap (λ n. is_ended (LostOf ticket) (get_or entries n d)) at ∙ here d (let it : place < length entries = omega (arith, at) in it)
    fails k d false false it_isnt other below = after_fails k d (is_more k place it_isnt other) below

    pub not_found_by_search : None ≡ position (is_ended (LostOf ticket)) entries
    not_found_by_search =
        sym (position_none (is_ended (LostOf ticket)) entries (λ k d below. fails k d (nat_lt k place) (k == place) refl refl below))

-- ---- limits

-- where the first limit has not come, no other one has
neither : (now : ℕ) (a b : Option ℕ) → has_come now (first_of a b) ≡ false → (has_come now a ≡ false) × (has_come now b ≡ false)
neither now None b it_isnt = (refl, it_isnt)
neither now (Some a) None it_isnt = (it_isnt, refl)
neither now (Some a) (Some b) it_isnt =
    let one : nat_le a now ≡ false = grind (arith, nat_tests) in
    let other : nat_le b now ≡ false = grind (arith, nat_tests) in (one, other)

not_taken : {A : Type 0} (late : Bool) (entry : Entry A) (entries : List (Entry A))
    → late ≡ false → entries ≡ [] → cond late (entry ∷ entries) entries ≡ []
not_taken late entry entries it_isnt none = ap (λ b. cond b (entry ∷ entries) entries) it_isnt ∙ none

none_late_from : {A : Type 0} (now : ℕ) (first : Option ℕ) (entries : List (Entry A))
    → has_come now (fold (λ first entry. first_of first entry.until) first entries) ≡ false
    → (has_come now first ≡ false) × (filter (is_ended (Late now)) entries ≡ [])
none_late_from now first [] it_isnt = (it_isnt, refl)
none_late_from now first (entry ∷ entries) it_isnt =
    let rest = none_late_from now (first_of first entry.until) entries it_isnt in
    let parts = neither now first entry.until rest.0 in
    (parts.0, not_taken (has_come now entry.until) entry (filter (is_ended (Late now)) entries) parts.1 rest.1)

pub none_late : {A : Type 0} (now : ℕ) (entries : List (Entry A))
    → has_come now (first_limit entries) ≡ false → filter (is_ended (Late now)) entries ≡ []
none_late now entries it_isnt = let rest = none_late_from now None entries it_isnt in rest.1

-- ---- what an answer and a turn leave of the order

module _ {A : Type 0} (before : Entry A → Entry A → Bool) (entries : List (Entry A)) where
  pub answered_in_order : ((entry : Entry A) → before (record entry { is_sent = false }) ≡ before entry)
      → ((other entry : Entry A) → before other (record entry { is_sent = false }) ≡ before other entry)
      → (ticket : ℕ) (outcome : Outcome) → in_order before entries ≡ true → in_order before (answered ticket outcome entries) ≡ true
  answered_in_order left right ticket outcome ordered =
      in_order-with_first before (λ (entry : Entry A). record entry { is_sent = false })
      (λ (entry : Entry A). goes_back (call_view entry.call) outcome) (is_ended (LostOf ticket)) left right entries ordered

  pub handed_in_order : ((entry : Entry A) → before (record entry { is_sent = true }) ≡ before entry)
      → ((other entry : Entry A) → before other (record entry { is_sent = true }) ≡ before other entry)
      → in_order before entries ≡ true → in_order before (first_handed entries) ≡ true
  handed_in_order left right ordered =
      in_order-with_first before (λ (entry : Entry A). record entry { is_sent = true })
      (λ (entry : Entry A). true) waits_turn left right entries ordered

-- ---- where none ends

pub none_by_ticket : {A : Type 0} (ending : Ending) (ticket : ℕ) (found : Option ℕ) (entries : List (Entry A))
    → ending ≡ LostOf ticket → found ≡ position (is_ended (LostOf ticket)) entries → is_some found ≡ false
    → ended ending entries ≡ []
none_by_ticket ending ticket None entries is at none =
    ap (λ e. ended e entries) is ∙ none_taken (is_ended (LostOf ticket)) entries (none_passes (is_ended (LostOf ticket)) entries (sym at))
none_by_ticket ending ticket (Some place) entries is at none = absurd (cc)

not_so : (b : Bool) → not b ≡ true → b ≡ false
not_so true is = sym is
not_so false is = refl

pub none_by_limit : {A : Type 0} (ending : Ending) (now : ℕ) (first : Option ℕ) (late : Bool) (entries : List (Entry A))
    → ending ≡ Late now → first ≡ first_limit entries → late ≡ has_come now first → not late ≡ true
    → ended ending entries ≡ []
none_by_limit ending now first late entries is at its none =
    ap (λ e. ended e entries) is ∙ none_late now entries (ap (has_come now) (sym at) ∙ sym its ∙ not_so late none)
