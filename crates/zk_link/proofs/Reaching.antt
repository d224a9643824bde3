-- What goes to the far end of a connection and comes from there, one step after the other: lists of steps are joined, and the bytes of
-- each with them.
use Rattle.std.proofs.Common.{◌≡◌, ◌++◌, ◌∙◌, ◌≤◌, ℕ, List, [], ◌∷◌, ap, append-nil, append_assoc, refl, sym, subst, take, drop, length}
use Rattle.std.proofs.Common.{take-append-drop, Option, Some, None}
use Rattle.std.specs.Prelude.{Result, Ok, Err, IfOk}
use Rattle.std.specs.List.{flat_map, FoldsTo}
use Rattle.std.specs.Io.KnownBytes.{Consumes, Keeps}
use Rattle.std.proofs.lemmas.List.{take-append-le}
use Rattle.zk_link.specs.Streams.{Sends}
use Rattle.zk_link.specs.FarEnds.{FarEnd, Goes, Reached, Reaches, Trades, Went}
use Rattle.zk_link.proofs.Streaming.{appends_kept, consumes_none, consumes_on, keeps_same, kept_consumes, sends_none, sends_on}

-- ---- steps

folds_on : {X Y : Type 0} (make : Y → X → Y → Type 0) (xs more : List X) (a b c : Y)
    → FoldsTo make a xs b → FoldsTo make b more c → FoldsTo make a (xs ++ more) c
folds_on make [] more a b c same rest = subst (λ y. FoldsTo make y more c) (sym same) rest
folds_on make (x ∷ xs) more a b c first rest = (first.0, first.1, folds_on make xs more first.0 b c first.2 rest)

joined : {X : Type 0} (part : X → List ℕ) (xs more : List X) → flat_map part (xs ++ more) ≡ flat_map part xs ++ flat_map part more
joined part [] more = refl
joined part (x ∷ xs) more =
    ap (λ l. part x ++ l) (joined part xs more) ∙ sym (append_assoc (part x) (flat_map part xs) (flat_map part more))

pub goes_none : (far : FarEnd) (a : far.State) → Goes far [] [] a a
goes_none far a = record { steps = []; does = refl; took = refl; gave = refl }

pub goes_once : (far : FarEnd) (taken given : List ℕ) (a b : far.State) → far.does a taken given b → Goes far taken given a b
goes_once far taken given a b does =
    record { steps = (taken, given) ∷ []; does = (b, does, refl); took = append-nil taken; gave = append-nil given }

pub goes_on : (far : FarEnd) (taken given more other : List ℕ) (a b c : far.State)
    → Goes far taken given a b → Goes far more other b c → Goes far (taken ++ more) (given ++ other) a c
goes_on far taken given more other a b c first rest = record {
  steps = first.steps ++ rest.steps;
  does = folds_on (λ before (step : List ℕ × List ℕ) after. far.does before step.0 step.1 after) first.steps rest.steps a b c
      first.does rest.does;
  took = joined (λ (step : List ℕ × List ℕ). step.0) first.steps rest.steps
      ∙ ap (λ l. l ++ flat_map (λ (step : List ℕ × List ℕ). step.0) rest.steps) first.took ∙ ap (λ l. taken ++ l) rest.took;
  gave = joined (λ (step : List ℕ × List ℕ). step.1) first.steps rest.steps
      ∙ ap (λ l. l ++ flat_map (λ (step : List ℕ × List ℕ). step.1) rest.steps) first.gave ∙ ap (λ l. given ++ l) rest.gave;
}

-- what takes nothing, after something
pub goes_then : (far : FarEnd) (taken given : List ℕ) (a b c : far.State)
    → Goes far taken [] a b → Goes far [] given b c → Goes far taken given a c
goes_then far taken given a b c first rest =
    subst (λ l. Goes far l given a c) (append-nil taken) (goes_on far taken [] [] given a b c first rest)

went_on : (far : FarEnd) (taken more given : List ℕ) (a b c : Option far.State)
    → Went far taken [] a b → Went far more given b c → Went far (taken ++ more) given a c
went_on far taken more given (Some a) (Some b) (Some c) first rest = goes_on far taken [] more given a b c first rest
went_on far taken more given None None None first rest = tt
went_on far taken more given (Some a) (Some b) None first rest = absurd rest
went_on far taken more given (Some a) None c first rest = absurd first
went_on far taken more given None (Some b) c first rest = absurd first
went_on far taken more given None None (Some c) first rest = absurd rest

-- ---- what is unsent

went_none : (far : FarEnd) (a : Option far.State) → Went far [] [] a a
went_none far None = tt
went_none far (Some a) = goes_none far a

pub trades_none : (far : FarEnd) (unsent : List ℕ) (a : Option far.State) → Trades far unsent unsent [] a a
trades_none far unsent a = ([], refl, went_none far a)

pub trades_on : (far : FarEnd) (unsent mid rest piece : List ℕ) (a b c : Option far.State)
    → Trades far unsent mid [] a b → Trades far mid rest piece b c → Trades far unsent rest piece a c
trades_on far unsent mid rest piece a b c first more = (
  first.0 ++ more.0,
  first.1 ∙ ap (λ l. first.0 ++ l) more.1 ∙ sym (append_assoc first.0 more.0 rest),
  went_on far first.0 more.0 piece a b c first.2 more.2,
)

-- the first bytes of a piece of what is unsent were written
pub trades_front : (far : FarEnd) (count piece : ℕ) (unsent : List ℕ) (a b : far.State) → count ≤ length (take piece unsent)
    → Goes far (take count (take piece unsent)) [] a b
    → Trades far unsent (drop count unsent) [] (Some a) (Some b)
trades_front far count piece unsent a b most goes =
    let front : take count (take piece unsent) ≡ take count unsent =
    sym (take-append-le count (take piece unsent) (drop piece unsent) most) ∙ ap (take count) (take-append-drop piece unsent) in
    (take count unsent, sym (take-append-drop count unsent), subst (λ l. Goes far l [] a b) front goes)

-- a write that took nothing
pub trades_no_more : (far : FarEnd) (unsent rest : List ℕ) (a b c : far.State)
    → Trades far unsent rest [] (Some a) (Some b) → Goes far [] [] b c → Trades far unsent rest [] (Some a) (Some c)
trades_no_more far unsent rest a b c first goes =
    trades_on far unsent rest rest [] (Some a) (Some b) (Some c) first ([], refl, goes)

-- ---- all of it

-- nothing was read after it
pub reaches_none : {far : FarEnd} (unsent rest : List ℕ) (old new : Reached far)
    → Sends unsent rest old.took new.took → Keeps old.left new.left → Trades far unsent rest [] old.end new.end
    → Reaches unsent rest old new []
reaches_none unsent rest old new sends keeps trades =
    record { sends = sends; gives = consumes_none old.left new.left keeps; trades = trades }

-- some was written, and then a read was made
pub reached : {X E : Type 0} {far : FarEnd} (result : Result X E) (piece : X → List ℕ) (unsent rest : List ℕ) (old wrote new : Reached far)
    → Sends unsent rest old.took wrote.took
    → Keeps old.left wrote.left → Keeps wrote.took new.took
    → IfOk result (λ brought. Consumes wrote.left new.left (piece brought))
    → Trades far unsent rest [] old.end wrote.end → IfOk result (λ brought. Went far [] (piece brought) wrote.end new.end)
    → IfOk result (λ brought. Reaches unsent rest old new (piece brought))
reached {far = far} (Ok brought) piece unsent rest old wrote new sends left took gives trades went = record {
  sends = (sends.0, sends.1, appends_kept old.took wrote.took new.took sends.0 sends.2 took);
  gives = kept_consumes old.left wrote.left new.left (piece brought) left gives;
  trades = trades_on far unsent rest rest (piece brought) old.end wrote.end new.end trades ([], refl, went);
}
reached (Err e) piece unsent rest old wrote new sends left took gives trades went = tt

-- what brought nothing, and what came after it
pub reaches_on : {far : FarEnd} (unsent mid rest : List ℕ) (old between new : Reached far) (piece : List ℕ)
    → Reaches unsent mid old between [] → Reaches mid rest between new piece
    → Reaches unsent rest old new piece
reaches_on {far} unsent mid rest old between new piece first more = record {
  sends = sends_on unsent mid rest old.took between.took new.took first.sends more.sends;
  gives = consumes_on old.left between.left new.left piece first.gives more.gives;
  trades = trades_on far unsent mid rest piece old.end between.end new.end first.trades more.trades;
}

pub ok_reaches_on : {X E : Type 0} {far : FarEnd} (result : Result X E) (piece : X → List ℕ) (unsent mid rest : List ℕ)
    (old between new : Reached far)
    → Reaches unsent mid old between []
    → IfOk result (λ brought. Reaches mid rest between new (piece brought))
    → IfOk result (λ brought. Reaches unsent rest old new (piece brought))
ok_reaches_on (Ok brought) piece unsent mid rest old between new first more =
    reaches_on unsent mid rest old between new (piece brought) first more
ok_reaches_on (Err e) piece unsent mid rest old between new first more = tt

pub reaches_same : {far : FarEnd} (unsent : List ℕ) (known : Reached far) → Reaches unsent unsent known known []
reaches_same {far} unsent known =
    reaches_none unsent unsent known known (sends_none unsent known.took) (keeps_same known.left) (trades_none far unsent known.end)

pub ok_goes_then : {X E : Type 0} (far : FarEnd) (result : Result X E) (piece : X → List ℕ) (taken : List ℕ) (a b c : far.State)
    → Goes far taken [] a b → IfOk result (λ brought. Goes far [] (piece brought) b c)
    → IfOk result (λ brought. Goes far taken (piece brought) a c)
ok_goes_then far (Ok brought) piece taken a b c first rest = goes_then far taken (piece brought) a b c first rest
ok_goes_then far (Err e) piece taken a b c first rest = tt
