-- What holds of a client after a run: its turns lead from view to view, and the outside tells them.
use Rattle.std.proofs.lemmas.Int.{ints}
use Rattle.std.proofs.Common.{◌≡◌, refl, sym, ap, subst, ◌∙◌, append_assoc, arith, List, [], ◌∷◌, ◌++◌, Bool, true, Some, None}
use Rattle.std.specs.Prelude.{Option, IfSome, Result, Ok, Err, OnErr, ◌≤ℤ◌, ◌↔◌, map, reverse, ℤ}
use Rattle.std.proofs.lemmas.Grind.{reverse_onto}
use Rattle.std.specs.Int.Signed.{≤ℤ_refl}
use Rattle.zk_nodes.specs.declared.side.Side.TheVariants.{Data, Child}
use Rattle.zk_cache.specs.Kept.{is_marked_good}
use Rattle.zk_turns.specs.Turns.{Start, Item, Turned, Halts, Turn, Input, Output}
use Rattle.zk_turns.specs.View.{View, Cache, view_at}
use Rattle.zk_turns.specs.Past.{last_of, is_good}
use Rattle.zk_turns.specs.Taken.{past_of}
use Rattle.zk_turns.specs.Rule.{Stands, HaltsAs, empty_cache}
use Rattle.zk_turns.specs.Meaning.{IsLastSeen, IsGoodSince}
use Rattle.zk_turns.proofs.Marks.{data_marks, child_marks}
use Rattle.zk_turns.proofs.Meant.{is_good_since, is_last_seen}
use Rattle.zk_turns.proofs.Over.{nothing_kept, last_rises}
use Rattle.zk_turns.proofs.Reporting.{reports_are}
use Rattle.zk_turns.proofs.Stepped.{halt_stands}
use Rattle.zk_laws.proofs.Headlines.{headline_here, quiet_client}
use Rattle.zk_client.specs.Outsides.{Told, HandsOut, IsGiven, TellsAll}
use Rattle.zk_client.specs.Runs.{Holds, IsExact, Ran}
use Rattle.zk_client.proofs.CacheLemmas.{cache-ext}

-- ---- one view

marked : (P : Type 0) (a b : Bool) → a ≡ b → (b ≡ true → P) × (P → b ≡ true) → a ≡ true ↔ P
marked P a b e both = (λ yes. both.0 (sym e ∙ yes), λ p. e ∙ both.1 p)

exact_here : (start : Start) (items : List Item) (view : View) → Stands start items view → IsExact start items view
exact_here start items view s = record {
  nodes = λ path. marked (IsGoodSince Data path (past_of start items)) (is_marked_good (view.cache.nodes path))
      (is_good Data path (past_of start items))
      (ap (λ (c : Cache). is_marked_good (c.nodes path)) s.cache ∙ data_marks path (past_of start items))
      (is_good_since Data path (past_of start items));
  children = λ path. marked (IsGoodSince Child path (past_of start items)) (is_marked_good (view.cache.children path))
      (is_good Child path (past_of start items))
      (ap (λ (c : Cache). is_marked_good (c.children path)) s.cache ∙ child_marks path (past_of start items))
      (is_good_since Child path (past_of start items));
  last = subst (λ z. IsLastSeen start (past_of start items) z) (sym (ap (λ v. v.last) s.saved)) (is_last_seen start (past_of start items));
  reports = reports_are start items view s;
  emptied = λ over. s.cache ∙ cache-ext (view_at start (past_of start items)).cache empty_cache (nothing_kept start items over).nodes
      (nothing_kept start items over).children;
}

pub holds_here : (start : Start) (items : List Item) (view : View) → Stands start items view → Holds start items view
holds_here start items view s = record {
  stands = s;
  exact = exact_here start items view s;
  served = record {
    coherent = λ h is served. headline_here h is start items view s served;
    quiet = λ h is entries may e q. quiet_client h is start entries view may (subst (λ i. Stands start i view) (sym e) s) q;
  };
}

-- ---- many turns

le_through : (a b c : ℤ) → a ≤ℤ b → b ≤ℤ c → a ≤ℤ c
le_through a b c x y = grind (arith, ints)

-- the last seen zxid never falls
rises : (start : Start) (more items : List Item) → last_of start (past_of start items) ≤ℤ last_of start (past_of start (more ++ items))
rises start [] items = ≤ℤ_refl (last_of start (past_of start items))
rises start (item ∷ more) items =
    le_through (last_of start (past_of start items)) (last_of start (past_of start (more ++ items)))
    (last_of start (past_of start (item ∷ (more ++ items))))
    (rises start more items) (last_rises start item (more ++ items))

rising_here : (start : Start) (turns marks items : List Item) (before after : View)
    → Stands start items before → Stands start (marks ++ (turns ++ items)) after → before.saved.last ≤ℤ after.saved.last
rising_here start turns marks items before after s t =
    subst (λ z. z ≤ℤ after.saved.last) (sym (ap (λ v. v.last) s.saved))
    (subst (λ z. last_of start (past_of start items) ≤ℤ z) (sym (ap (λ v. v.last) t.saved))
    (le_through (last_of start (past_of start items)) (last_of start (past_of start (turns ++ items)))
    (last_of start (past_of start (marks ++ (turns ++ items))))
    (rises start turns items) (rises start marks (turns ++ items))))

-- how far a run is
pub record HasCome (before now : View) (told told_now : Option Told) : Type 0 where
  pub turns : List Turn
  pub stands : (start : Start) (items : List Item) → Stands start items before → Stands start (map Turned turns ++ items) now
  pub tells : TellsAll told turns [] told_now

tells_none : (told : Option Told) → TellsAll told [] [] told
tells_none None = refl
tells_none (Some old) = (refl, refl)

pub at_first : (before : View) (told : Option Told) → HasCome before before told told
at_first before told = record { turns = []; stands = λ start items s. s; tells = tells_none told }

-- the inputs of these turns, the oldest first
abbrev inputs : List Turn → List Input
inputs turns = reverse (map (λ turn. turn.input) turns)

-- those of one turn more, before these
one-later : (turn : Turn) (turns : List Turn) (rest : List Input) → inputs turns ++ turn.input ∷ rest ≡ inputs (turn ∷ turns) ++ rest
one-later turn turns rest =
    sym (append_assoc (inputs turns) (turn.input ∷ []) rest)
    ∙ sym (ap (λ (l : List Input). l ++ rest) (reverse_onto (map (λ turn. turn.input) turns) turn.input []))

-- one more turn is told
tells_more : (told now mid new : Option Told) (turns : List Turn) (input : Input) (outputs : List Output)
    → TellsAll told turns [] now → HandsOut now (Some input) mid → IsGiven mid outputs new
    → TellsAll told (record { input = input; outputs = outputs } ∷ turns) [] new
tells_more None None None None turns input outputs t hands given = refl
tells_more None None None (Some new) turns input outputs t hands given = given
tells_more None None (Some mid) new turns input outputs t hands given = absurd cc
tells_more None (Some now) mid new turns input outputs t hands given = absurd cc
tells_more (Some old) None mid new turns input outputs t hands given = absurd t
tells_more (Some old) (Some now) None new turns input outputs t hands given = let m = hands.2 in absurd cc
tells_more (Some old) (Some now) (Some mid) None turns input outputs t hands given = absurd cc
tells_more (Some old) (Some now) (Some mid) (Some new) turns input outputs t hands given =
    let m : mid ≡ record { coming = hands.0; asked = Some input; turns = now.turns } = cc in
    let n : Some new ≡ Some (record { coming = hands.0; asked = None; turns = record { input = input; outputs = outputs } ∷ now.turns }) =
    subst (λ (d : Told). IsGiven (Some d) outputs (Some new)) m given in
    let k : new ≡ record { coming = hands.0; asked = None; turns = record { input = input; outputs = outputs } ∷ now.turns } = cc in (
      t.0 ∙ ap (λ l. inputs turns ++ l) hands.1 ∙ ap (λ (d : Told). inputs turns ++ input ∷ d.coming) (sym k)
          ∙ one-later (record { input = input; outputs = outputs }) turns new.coming,
      ap (λ (d : Told). d.turns) k ∙ ap (λ l. record { input = input; outputs = outputs } ∷ l) t.1,
    )

pub further : (before now after : View) (told told_now mid new : Option Told) (input : Input) (outputs : List Output)
    → HasCome before now told told_now → HandsOut told_now (Some input) mid
    → ((start : Start) (items : List Item) → Stands start items now
    → Stands start (Turned (record { input = input; outputs = outputs }) ∷ items) after)
    → IsGiven mid outputs new → HasCome before after told new
further before now after told told_now mid new input outputs come hands step given = record {
  turns = record { input = input; outputs = outputs } ∷ come.turns;
  stands = λ start items s. step start (map Turned come.turns ++ items) (come.stands start items s);
  tells = tells_more told told_now mid new come.turns input outputs come.tells hands given;
}

-- no input is left
tells_same : (told now new : Option Told) (turns : List Turn)
    → TellsAll told turns [] now → HandsOut now None new → TellsAll told turns [] new × IfSome new (λ told. told.coming ≡ [])
tells_same None None None turns t hands = (refl, tt)
tells_same None None (Some new) turns t hands = absurd cc
tells_same None (Some now) new turns t hands = absurd cc
tells_same (Some old) None new turns t hands = absurd t
tells_same (Some old) (Some now) None turns t hands = let n = hands.1 in absurd cc
tells_same (Some old) (Some now) (Some new) turns t hands =
    let n : new ≡ now = cc in
    (subst (λ d. TellsAll (Some old) turns [] (Some d)) (sym n) t, ap (λ (d : Told). d.coming) n ∙ hands.0)

pub ended : (before now : View) (told told_now new : Option Told)
    → HasCome before now told told_now → HandsOut told_now None new
    → Ran before now told new [] [] × IfSome new (λ told. told.coming ≡ [])
ended before now told told_now new come hands =
    let t = tells_same told told_now new come.turns come.tells hands in (
      record {
        turns = come.turns;
        holds = λ start items s. holds_here start (map Turned come.turns ++ items) now (come.stands start items s);
        rising = λ start items s. rising_here start (map Turned come.turns) [] items before now s (come.stands start items s);
        tells = t.0;
      },
      t.1,
    )

-- the last input is no turn
tells_last : (told now new : Option Told) (turns : List Turn) (input : Input)
    → TellsAll told turns [] now → HandsOut now (Some input) new → TellsAll told turns (input ∷ []) new
tells_last None None new turns input t hands = hands
tells_last None (Some now) new turns input t hands = absurd cc
tells_last (Some old) None new turns input t hands = absurd t
tells_last (Some old) (Some now) None turns input t hands = let n = hands.2 in absurd cc
tells_last (Some old) (Some now) (Some new) turns input t hands =
    let n : new ≡ record { coming = hands.0; asked = Some input; turns = now.turns } = cc in (
      t.0 ∙ ap (λ l. inputs turns ++ l) hands.1 ∙ ap (λ (d : Told). inputs turns ++ input ∷ d.coming) (sym n),
      ap (λ (d : Told). d.turns) n ∙ t.1,
    )

pub halted : (before now after : View) (told told_now new : Option Told) (input : Input)
    → HasCome before now told told_now → HandsOut told_now (Some input) new → HaltsAs now after
    → Ran before after told new (Halts ∷ []) (input ∷ [])
halted before now after told told_now new input come hands h = record {
  turns = come.turns;
  holds = λ start items s. holds_here start (Halts ∷ (map Turned come.turns ++ items)) after (stands start items s);
  rising = λ start items s. rising_here start (map Turned come.turns) (Halts ∷ []) items before after s (stands start items s);
  tells = tells_last told told_now new come.turns input come.tells hands;
} where
  stands : (start : Start) (items : List Item) → Stands start items before → Stands start (Halts ∷ (map Turned come.turns ++ items)) after
  stands start items s = halt_stands start (map Turned come.turns ++ items) now after (come.stands start items s) h

pub at_an_error : {T E : Type 0} (r : Result T E) (P : Type 0) → P → OnErr r P
at_an_error (Ok x) P p = tt
at_an_error (Err e) P p = p
