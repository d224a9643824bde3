-- What becomes of one call, by its place: a call is found there by its ticket, so what is done to the line is done to that place.
use Rattle.std.proofs.Common.{◌≡◌, ◌<◌, ◌+◌, ◌++◌, ℕ, Bool, true, false, cond, not, List, [], ◌∷◌, Some, None, length, get_or, set, map}
use Rattle.std.proofs.Common.{Option, take, sym, ap, ◌∙◌, arith}
use Rattle.std.specs.List.{position, remove}
use Rattle.std.specs.Option.{option_map}
use Rattle.std.proofs.lemmas.Grind.{common_steps}
use Rattle.std.proofs.lemmas.List.{get_or_default, map-append, take_more}
use Rattle.std.proofs.lemmas.List.Elements.{filter-append}
use Rattle.zk_conversation.specs.Calls.{Call}
use Rattle.zk_conversation.specs.Views.{call_view}
use Rattle.zk_turns.specs.Turns.{Outcome}
use Rattle.zk_calls.specs.declared.entry.Entry.{Entry}
use Rattle.zk_calls.specs.declared.entry.Ending.{Ending}
use Rattle.zk_calls.specs.declared.entry.Ending.TheVariants.{LostOf}
use Rattle.zk_calls.specs.Lines.{after_answer, answered, ended, ended_of, first_handed, goes_back, is_ended, next_call, settles}
use Rattle.zk_calls.specs.Lines.{is_asked_again, is_read, settles_one}
use Rattle.zk_calls.specs.Lines.{waits_turn}
use Rattle.zk_calls.proofs.Places.{found_at, is_first, none_passes, not_found, removed_at, set_at, unchanged}

pub within : {X : Type 0} (p : X → Bool) (xs : List X) (place : ℕ) → position p xs ≡ Some place → place < length xs
within p xs place at = grind (arith, common_steps)

-- what is at a place, however it is read
same_there : {X : Type 0} (xs : List X) (place : ℕ) (x y : X) → place < length xs → x ≡ get_or xs place x → y ≡ get_or xs place y → y ≡ x
same_there xs place x y below is its = its ∙ get_or_default xs place y x below ∙ sym is

module _ {A : Type 0} (ticket : ℕ) (outcome : Outcome) (entries : List (Entry A)) (place : ℕ)
    (at : position (is_ended (LostOf ticket)) entries ≡ Some place) where
  back_there : (x y : Entry A) (back : Bool)
      → x ≡ get_or entries place x → y ≡ get_or entries place y → goes_back (call_view y.call) outcome ≡ back
      → goes_back (call_view (get_or entries place x).call) outcome ≡ back
  back_there x y back is its says =
      let same : y ≡ x = same_there entries place x y (within (is_ended (LostOf ticket)) entries place at) is its in
      ap (λ (e : Entry A). goes_back (call_view e.call) outcome) (sym is ∙ sym same) ∙ says

  pub goes_back_there : (x y : Entry A)
      → x ≡ get_or entries place x → y ≡ get_or entries place y → goes_back (call_view y.call) outcome ≡ true
      → set entries place (record x { is_sent = false }) ≡ answered ticket outcome entries
  goes_back_there x y is its says =
      sym (set_at (is_ended (LostOf ticket)) (after_answer outcome) entries place x (record x { is_sent = false })
      (is_first (is_ended (LostOf ticket)) entries place x at)
      (ap (λ b. cond b (record (get_or entries place x) { is_sent = false } ∷ []) []) (back_there x y true is its says)
      ∙ ap (λ (e : Entry A). record e { is_sent = false } ∷ []) (sym is)))

  pub settled_there : (y : Entry A)
      → y ≡ get_or entries place y → goes_back (call_view y.call) outcome ≡ false → remove entries place ≡ answered ticket outcome entries
  settled_there y its says =
      sym (removed_at (is_ended (LostOf ticket)) (after_answer outcome) entries place y
      (is_first (is_ended (LostOf ticket)) entries place y at)
      (ap (λ b. cond b (record (get_or entries place y) { is_sent = false } ∷ []) []) (back_there y y false its its says)))

  pub settles_there : (y : Entry A) (back : Bool)
      → y ≡ get_or entries place y → goes_back (call_view y.call) outcome ≡ back → settles ticket outcome entries ≡ not back
  settles_there y back its says =
      ap (settles_one outcome)
      (found_at (is_ended (LostOf ticket)) entries place y (is_first (is_ended (LostOf ticket)) entries place y at))
      ∙ ap not (back_there y y back its its says)

  -- what the asker is told, where the answer leaves the call waiting, and where it settles it
  pub not_told : (y : Entry A) → y ≡ get_or entries place y → goes_back (call_view y.call) outcome ≡ true
      → None ≡ cond (settles ticket outcome entries) (Some outcome) None
  not_told y its says = ap (λ b. cond b (Some outcome) None) (sym (settles_there y true its says))

  pub told : (y : Entry A) → y ≡ get_or entries place y → goes_back (call_view y.call) outcome ≡ false
      → Some outcome ≡ cond (settles ticket outcome entries) (Some outcome) None
  told y its says = ap (λ b. cond b (Some outcome) None) (sym (settles_there y false its says))

module _ {A : Type 0} (ticket : ℕ) (outcome : Outcome) (entries : List (Entry A))
    (at : position (is_ended (LostOf ticket)) entries ≡ None) where
  pub as_it_was : entries ≡ answered ticket outcome entries
  as_it_was = sym (unchanged (is_ended (LostOf ticket)) (after_answer outcome) entries (none_passes (is_ended (LostOf ticket)) entries at))

  pub nobody_told : None ≡ cond (settles ticket outcome entries) (Some outcome) None
  nobody_told =
      ap (λ b. cond b (Some outcome) None) (sym
      (ap (settles_one outcome) (not_found (is_ended (LostOf ticket)) entries (none_passes (is_ended (LostOf ticket)) entries at))))

-- ---- whether a call is asked again

abbrev again_by : {A : Type 0} → Option (Entry A) → Bool
again_by found = elim found [ None ↦ false | Some entry ↦ is_read (call_view entry.call) ]

pub asked_again_there : {A : Type 0} (ticket : ℕ) (entries : List (Entry A)) (place : ℕ)
    → position (is_ended (LostOf ticket)) entries ≡ Some place
    → (entry : Entry A) → entry ≡ get_or entries place entry → is_read (call_view entry.call) ≡ is_asked_again ticket entries
asked_again_there {A} ticket entries place at entry is =
    ap (λ (e : Entry A). is_read (call_view e.call)) is
    ∙ sym (ap again_by
    (found_at (is_ended (LostOf ticket)) entries place entry (is_first (is_ended (LostOf ticket)) entries place entry at)))

pub none_asked_again : {A : Type 0} (ticket : ℕ) (entries : List (Entry A))
    → position (is_ended (LostOf ticket)) entries ≡ None → false ≡ is_asked_again ticket entries
none_asked_again ticket entries at =
    sym (ap again_by (not_found (is_ended (LostOf ticket)) entries (none_passes (is_ended (LostOf ticket)) entries at)))

-- ---- the call whose turn it is

abbrev asked_by : {A : Type 0} → Entry A → ℕ × Call
asked_by entry = (entry.ticket, call_view entry.call)

module _ {A : Type 0} (entries : List (Entry A)) where
  pub next_there : (place : ℕ) (x y : Entry A) (ticket : ℕ) (call : Call)
      → position waits_turn entries ≡ Some place → x ≡ get_or entries place x → y ≡ get_or entries place y
      → ticket ≡ x.ticket → call ≡ call_view y.call → next_call entries ≡ Some (ticket, call)
  next_there place x y ticket call at is its same asked =
      let one : y ≡ x = same_there entries place x y (within waits_turn entries place at) is its in
      ap (option_map asked_by) (found_at waits_turn entries place x (is_first waits_turn entries place x at))
      ∙ ap (λ (e : Entry A). Some (asked_by e)) (sym is)
      ∙ ap (λ t. Some (t, call_view x.call)) (sym same)
      ∙ ap (λ c. Some (ticket, c)) (sym (asked ∙ ap (λ (e : Entry A). call_view e.call) one))

  pub handed_there : (place : ℕ) (x : Entry A) → position waits_turn entries ≡ Some place → x ≡ get_or entries place x
      → set entries place (record x { is_sent = true }) ≡ first_handed entries
  handed_there place x at is =
      sym (set_at waits_turn (λ entry. record entry { is_sent = true } ∷ []) entries place x (record x { is_sent = true })
      (is_first waits_turn entries place x at)
      (ap (λ (e : Entry A). record e { is_sent = true } ∷ []) (sym is)))

  pub no_next : position waits_turn entries ≡ None → None ≡ next_call entries
  no_next at = ap (option_map asked_by) (sym (not_found waits_turn entries (none_passes waits_turn entries at)))

  pub none_handed : position waits_turn entries ≡ None → entries ≡ first_handed entries
  none_handed at = sym (unchanged waits_turn (λ entry. record entry { is_sent = true } ∷ []) entries (none_passes waits_turn entries at))

-- ---- those that wait no more

pub one_more_told : {A : Type 0} (ending : Ending) (entries : List (Entry A)) (place : ℕ) (entry : Entry A)
    → place < length entries → entry ≡ get_or entries place entry
    → map ended_of (ended ending (take (place + 1) entries))
    ≡ map ended_of (ended ending (take place entries)) ++ map ended_of (ended ending (entry ∷ []))
one_more_told ending entries place entry below is =
    ap (λ es. map ended_of (ended ending es)) (take_more entries place entry below)
    ∙ ap (map ended_of) (filter-append (is_ended ending) (take place entries) (get_or entries place entry ∷ []))
    ∙ map-append ended_of (ended ending (take place entries)) (ended ending (get_or entries place entry ∷ []))
    ∙ ap (λ e. map ended_of (ended ending (take place entries)) ++ map ended_of (ended ending (e ∷ []))) (sym is)

pub told_so_far : {X : Type 0} (before now more so_far all : List X)
    → now ≡ before ++ more → before ≡ so_far → all ≡ so_far ++ more → now ≡ all
told_so_far before now more so_far all added was is = added ∙ ap (λ xs. xs ++ more) was ∙ sym is
