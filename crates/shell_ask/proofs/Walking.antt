-- A walk through a tree: the nodes that wait, and how it ends. The next node is the last of those kept, and its children are put after all
-- others, the last first, so the walk goes down before it goes on.
use Rattle.std.proofs.Common.{◌≡◌, ◌≢◌, ◌<◌, ◌⊎◌, ◌++◌, ◌∙◌, List, [], ◌∷◌, map, reverse, inl, inr, Contains, IfNone, IfOk, IfSome, Option}
use Rattle.std.proofs.Common.{None, Some, Result, length, true, false, append_assoc, refl, sym, ap, subst}
use Rattle.std.proofs.lemmas.List.{map-append, reverse-append, reverse-reverse}
use Rattle.zk_link.specs.FarEnds.{FarEnd}
use Rattle.zk_nodes.specs.Path.{Text}
use Rattle.zk_driver.specs.Flowing.{Flow, Runs}
use Rattle.zk_driver.proofs.Running.{runs_join, runs_same}
use Rattle.zk_turns.specs.Turns.{Replied, ConnectionLoss, SessionExpired, SessionClosed, NotConnected, TooManyWatches, TooLarge}
use Rattle.zk_turns.specs.Turns.{TooManyPending}
use Rattle.zk_conversation.specs.Results.{NoNode, Refused, Found, Read, Listing, Made, Done, Brought}
use Rattle.shell_ask.specs.declared.end.CallEnd.{CallEnd}
use Rattle.shell_ask.specs.declared.end.CallEnd.TheVariants as ends
use Rattle.shell_ask.specs.declared.spots.Spot.{Spot as Place}
use Rattle.shell_ask.specs.declared.walk.Bounds.{Bounds}
use Rattle.shell_ask.specs.declared.walk.Ending.{Ending as Reached}
use Rattle.shell_ask.specs.Asking.{Coming, Answered, Heard, Late}
use Rattle.shell_ask.specs.Printing.{end_of, IsToldEnd}
use Rattle.shell_ask.specs.Trees.{child_of, ending_end, listing_of, names_within}
use Rattle.shell_ask.specs.inner.Trees.{ending_view, spot_view, waiting_view, with_next}
use Rattle.shell_ask.specs.Trees.{AreInOrder, EndsAt, Ending, Full, HasNoPath, IsGone, IsHeard, IsListed, Misnamed, Reaches, Spot}
use Rattle.shell_ask.specs.inner.Trees.{IsUndone}
use Rattle.shell_ask.specs.Trees.{Stage, Steps, Stopped, Whole, WalksRun, begins, leaves_out, prints_leaf, prints_node, steps}

-- ---- the nodes that wait

map_reverse : {X Y : Type 0} (f : X → Y) (xs : List X) → map f (reverse xs) ≡ reverse (map f xs)
map_reverse f [] = refl
map_reverse f (x ∷ xs) =
    ap (map f) (reverse-append (x ∷ []) xs) ∙ map-append f (reverse xs) (x ∷ []) ∙ ap (λ l. l ++ f x ∷ []) (map_reverse f xs)
    ∙ sym (reverse-append (f x ∷ []) (map f xs))

-- the last place holds the next node
pub waiting_pop : {A : Type 0} (places : List (Place A)) (place : Place A)
    → waiting_view (places ++ place ∷ []) ≡ spot_view place ∷ waiting_view places
waiting_pop places place =
    ap reverse (map-append spot_view places (place ∷ [])) ∙ reverse-append (map spot_view places) (spot_view place ∷ [])

-- what is put after all, the last first, is next
pub waiting_first : {A : Type 0} (places more : List (Place A))
    → waiting_view (places ++ reverse more) ≡ map spot_view more ++ waiting_view places
waiting_first places more =
    ap reverse (map-append spot_view places (reverse more)) ∙ reverse-append (map spot_view places) (map spot_view (reverse more))
    ∙ ap (λ l. reverse l ++ waiting_view places) (map_reverse spot_view more)
    ∙ ap (λ l. l ++ waiting_view places) (reverse-reverse (map spot_view more))

-- ---- how it ends

-- the call that stopped it is not done
pub undone : {A : Type 0} {far : FarEnd} (bounds : Bounds) (last : Stage A far) (ending : Ending)
    → EndsAt bounds last ending → IsUndone ending
undone bounds last Whole ends_so = tt
undone bounds last Full ends_so = tt
undone bounds last (Stopped name coming) ends_so = ends_so.undone
undone bounds last (Misnamed name) ends_so = tt

-- a call is done, or it is told why it is not
call_told : (coming : Coming) → (end_of coming ≡ ends.Done) ⊎ ((end_of coming ≢ ends.More) × IsToldEnd (end_of coming))
call_told (Answered (Replied zxid NoNode)) = inr ((λ e. cc), tt)
call_told (Answered (Replied zxid Done)) = inl refl
call_told (Answered (Replied zxid (Refused code))) = inr ((λ e. cc), tt)
call_told (Answered (Replied zxid (Found stat))) = inl refl
call_told (Answered (Replied zxid (Read bytes stat))) = inl refl
call_told (Answered (Replied zxid (Listing names stat))) = inl refl
call_told (Answered (Replied zxid (Made path))) = inl refl
call_told (Answered (Replied zxid (Brought bytes))) = inl refl
call_told (Answered ConnectionLoss) = inr ((λ e. cc), tt)
call_told (Answered SessionExpired) = inr ((λ e. cc), tt)
call_told (Answered SessionClosed) = inr ((λ e. cc), tt)
call_told (Answered NotConnected) = inr ((λ e. cc), tt)
call_told (Answered TooManyWatches) = inr ((λ e. cc), tt)
call_told (Answered TooLarge) = inr ((λ e. cc), tt)
call_told (Answered TooManyPending) = inr ((λ e. cc), tt)
call_told (Late was_sent false) = inr ((λ e. cc), tt)
call_told (Late was_sent true) = inr ((λ e. cc), tt)

told_end : (end : CallEnd) → (end ≡ ends.Done) ⊎ ((end ≢ ends.More) × IsToldEnd end) → (end ≡ ends.Done) ⊎ IsToldEnd end
told_end end (inl done) = inl done
told_end end (inr told) = inr told.1

not_more : (end : CallEnd) → (end ≡ ends.Done) ⊎ ((end ≢ ends.More) × IsToldEnd end) → end ≢ ends.More
not_more end (inl done) = λ more. cc
not_more end (inr told) = told.0

-- a walk is whole, or it is told why it is not
pub ending_is_told : (ending : Ending) → (ending_end ending ≡ ends.Done) ⊎ IsToldEnd (ending_end ending)
ending_is_told Whole = inl refl
ending_is_told Full = inr tt
ending_is_told (Stopped name coming) = told_end (end_of coming) (call_told coming)
ending_is_told (Misnamed name) = inr tt

pub is_whole : (ending : Ending) → IsUndone ending → ending_end ending ≡ ends.Done → ending ≡ Whole
is_whole Whole undone_so done = refl
is_whole Full undone_so done = absurd cc
is_whole (Stopped name coming) undone_so done = absurd (undone_so done)
is_whole (Misnamed name) undone_so done = absurd cc

pub is_full : (ending : Ending) → ending_end ending ≡ ends.More → ending ≡ Full
is_full Whole more = absurd cc
is_full Full more = refl
is_full (Stopped name coming) more = absurd (not_more (end_of coming) (call_told coming) more)
is_full (Misnamed name) more = absurd cc

-- ---- its steps

abbrev pub stage : {A : Type 0} {far : FarEnd} → Flow A far → (waiting : List Spot) (printed : List Text) → Stage A far
stage flow waiting printed = record { flow = flow; waiting = waiting; printed = printed }

pub heard_of : {A : Type 0} {far : FarEnd} (bounds : Bounds) (old : Stage A far) (spot : Spot) (coming : Coming) (last : Flow A far)
    → length old.printed < bounds.most → IsListed bounds.deepest spot
    → Heard (listing_of spot) bounds.until old.flow.course coming last.course → Runs old.flow last
    → IsHeard bounds (with_next spot old) spot old.waiting coming last
heard_of bounds old spot coming last room listed heard runs =
    record { next = record { next = refl; room = room }; listed = listed; heard = heard; runs = runs }

pub misnamed : {A : Type 0} {far : FarEnd} (bounds : Bounds) (old : Stage A far) (spot : Spot) (coming : Coming)
    (last : Flow A far) (each : List Text)
    (child : Text) (ending : Ending)
    → IsHeard bounds (with_next spot old) spot old.waiting coming last → end_of coming ≡ ends.Done
    → AreInOrder each (names_within bounds.deepest spot coming)
    → Contains each child → HasNoPath spot child → ending ≡ Misnamed spot.name → EndsAt bounds (with_next spot old) ending
misnamed bounds old spot coming last each child ending heard done order has pathless is =
    subst (λ (e : Ending). EndsAt bounds (with_next spot old) e) (sym is) (record {
      spot = spot;
      rest = old.waiting;
      coming = coming;
      flow = last;
      each = each;
      child = child;
      heard = heard;
      done = done;
      listed = order;
      contains = has;
      pathless = pathless;
      named = refl;
    })

pub stopped : {A : Type 0} {far : FarEnd} (bounds : Bounds) (old : Stage A far) (spot : Spot) (coming : Coming) (last : Flow A far)
    → IsHeard bounds (with_next spot old) spot old.waiting coming last
    → end_of coming ≢ ends.Done → (IsGone spot coming → ⊥) → EndsAt bounds (with_next spot old) (Stopped spot.name coming)
stopped bounds old spot coming last heard undone_so stays = record {
  spot = spot;
  rest = old.waiting;
  flow = last;
  heard = heard;
  undone = undone_so;
  stays = stays;
  named = refl;
}

pub if_none : {X : Type 0} {P Q : Type 0} (o : Option X) → IfNone o P → (P → Q) → IfNone o Q
if_none None p f = f p
if_none (Some x) p f = tt

-- where the nodes that wait are the same
pub ends_at : {A E : Type 0} {far : FarEnd} (bounds : Bounds) (flow : Flow A far) (waiting next : List Spot) (printed now : List Text)
    (r : Result (Option (Reached A)) E) → waiting ≡ next
    → IfOk r (λ ending. IfSome ending (λ e. EndsAt bounds (stage flow next printed) (ending_view e) × (now ≡ printed)))
    → IfOk r (λ ending. IfSome ending (λ e. EndsAt bounds (stage flow waiting printed) (ending_view e) × (now ≡ printed)))
ends_at bounds flow waiting next printed now r same =
    subst (λ (w : List Spot).
    IfOk r (λ ending. IfSome ending (λ e. EndsAt bounds (stage flow w printed) (ending_view e) × (now ≡ printed)))) (sym same)

pub steps_from : {A E : Type 0} {far : FarEnd} (bounds : Bounds) (flow : Flow A far) (waiting next : List Spot)
    (printed : List Text) (new : Stage A far)
    (r : Result (Option (Reached A)) E)
    → waiting ≡ next → IfOk r (λ ending. IfNone ending (Steps bounds (stage flow next printed) new))
    → IfOk r (λ ending. IfNone ending (Steps bounds (stage flow waiting printed) new))
steps_from bounds flow waiting next printed new r same =
    subst (λ (w : List Spot). IfOk r (λ ending. IfNone ending (Steps bounds (stage flow w printed) new))) (sym same)

-- ---- from the beginning on

pub from_there : {A : Type 0} {far : FarEnd} (bounds : Bounds) (flow : Flow A far) (waiting begun : List Spot)
    (printed none : List Text) (last : Stage A far)
    → waiting ≡ begun → printed ≡ none → Reaches bounds (record { flow = flow; waiting = waiting; printed = printed }) last
    → Reaches bounds (record { flow = flow; waiting = begun; printed = none }) last
from_there {A} bounds flow waiting begun printed none last waits prints reaches =
    let first : Reaches bounds (record { flow = flow; waiting = begun; printed = printed }) last
    = subst (λ (w : List Spot). Reaches bounds (record { flow = flow; waiting = w; printed = printed }) last) waits reaches in
    subst (λ (p : List Text). Reaches bounds (record { flow = flow; waiting = begun; printed = p }) last) prints first

-- ---- the nodes below a node

-- another node is made of a name
pub spots_on : {A : Type 0} (spots : List (Place A)) (child : Place A) (spot : Spot) (name : Text) (rest : List Text)
    → spot_view child ≡ child_of spot name
    → map spot_view (spots ++ child ∷ []) ++ map (child_of spot) rest ≡ map spot_view spots ++ map (child_of spot) (name ∷ rest)
spots_on spots child spot name rest is =
    ap (λ l. l ++ map (child_of spot) rest) (map-append spot_view spots (child ∷ []))
    ∙ append_assoc (map spot_view spots) (spot_view child ∷ []) (map (child_of spot) rest)
    ∙ ap (λ s. map spot_view spots ++ s ∷ map (child_of spot) rest) is

-- ---- byte by byte

step_runs : {A : Type 0} {far : FarEnd} (bounds : Bounds) (old new : Stage A far) → Steps bounds old new → Runs old.flow new.flow
step_runs bounds old new (prints_leaf spot rest next leaf becomes) = runs_same old.flow new.flow (sym becomes.0)
step_runs bounds old new (prints_node spot rest coming last each heard done order becomes) =
    runs_join old.flow last new.flow heard.runs (runs_same last new.flow (sym becomes.0))
step_runs bounds old new (leaves_out spot rest coming last heard gone becomes) =
    runs_join old.flow last new.flow heard.runs (runs_same last new.flow (sym becomes.0))

pub walks_run : (A : Type 0) (far : FarEnd) → WalksRun A far
walks_run A far bounds start last begins = runs_same start.flow start.flow refl
walks_run A far bounds start last (steps old new reaches step) =
    runs_join start.flow old.flow new.flow (walks_run A far bounds start old reaches) (step_runs bounds old new step)
