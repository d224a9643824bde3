-- Moves, one after the other: what each of them keeps, lists of them keep; and single moves, each from what the agent's parts say of it.
use Rattle.std.proofs.Common.{◌≡◌, ◌≢◌, ◌++◌, ◌⊎◌, inl, inr, ℕ, ℤ, ◌+◌, Bool, true, false, cond, ◌&&◌, not, List, [], ◌∷◌, Option, Some}
use Rattle.std.proofs.Common.{None, arith, length, map, refl, sym, ap, subst, ◌∙◌}
use Rattle.std.specs.Prelude.{Result, Ok, Err, OnOk, All, is_some, nat_lt, unsigned_abs, ◌/◌, ◌^◌, ◌<◌}
use Rattle.std.proofs.lemmas.Bool.Decides.{nat_tests}
use Rattle.std.specs.List.{filter, list_any, AllByRecursion, FoldsTo}
use Rattle.std.specs.List.Sorted.{IsPermutation}
use Rattle.std.proofs.lemmas.List.{append_assoc, append-nil}
use Rattle.std.proofs.lemmas.Grind.{flat_map-append}
use Rattle.zk_trees.specs.Tending.{shifted, shifted_by, TreeTold}
use Rattle.std.proofs.lemmas.List.Elements.{All-map, filter-append}
use Rattle.zk_session.specs.declared.states.State.{State}
use Rattle.zk_session.specs.declared.states.State.TheVariants.{Idle, Expired, Closed}
use Rattle.zk_turns.specs.Turns.{Start, Item, Turned, Turn, Input, Now}
use Rattle.zk_turns.specs.Turns as turns
use Rattle.zk_turns.specs.View.{View, view_at}
use Rattle.zk_turns.specs.Rule.{Rule, Stands}
use Rattle.zk_turns.proofs.Stepped.{one_turn}
use Rattle.zk_client.specs.Clients.{renewed_start, view_of}
use Rattle.zk_dialler.specs.declared.dialler.Dialler.{Dialler}
use Rattle.zk_dialler.specs.declared.dialler.Phase.{Phase}
use Rattle.zk_dialler.specs.declared.dialler.Phase.TheVariants.{Waiting, Dialling, Open}
use Rattle.zk_dialler.specs.Backoffs.{row_ended}
use Rattle.zk_dialler.specs.Chances.{next_state, state_after}
use Rattle.zk_dialler.specs.Dialling.{is_due, is_open, is_waiting, AttemptEnds, DialsWell, Ends, IsRefused, Opens}
use Rattle.zk_dialler.specs.Moves.{order_of, tries_kept}
use Rattle.zk_dialler.specs.Orders.{numbers, shuffled}
use Rattle.zk_dialler.specs.declared.dialler.DialDue.{DialDue}
use Rattle.zk_dialler.specs.declared.dialler.DialDue.TheVariants.{Dial, GiveUp}
use Rattle.zk_follow.specs.declared.subject.Subject.{Subject}
use Rattle.zk_follow.specs.Following.{doubted, due_again, is_read_by, reads_of, told_of, AreFollowed, IsFollowed}
use Rattle.zk_follow.proofs.Counting.{count_map}
use Rattle.zk_calls.specs.declared.entry.Entry.{Entry}
use Rattle.zk_calls.specs.declared.entry.Ending.TheVariants as ending
use Rattle.zk_agent.specs.declared.agent.Agent.{Agent}
use Rattle.zk_agent.specs.declared.input.AgentInput.{AgentInput}
use Rattle.zk_agent.specs.declared.replies.Heard.{Heard}
use Rattle.zk_agent.specs.Agents.{Trail, Move, Hears, Hands, Renews, Follows, Unfollows, Asks, GivesUp, LeavesLate, Opened, Ended, HungUp}
use Rattle.zk_agent.specs.Agents.{Closes, Addressed, Decides, Tends, Presents, Does, IsAt, IsLed, IsShut, Comes, HearsSo, LeavesWhere}
use Rattle.zk_agent.specs.Agents.{leaves_with, moves_with, rises, AddressesSo, DoubtsWhere, MayHear}
use Rattle.zk_agent.specs.inner.Agents.{tended_in, tends_of, Acts, MayTake}
use Rattle.zk_agent.specs.Agents.{LetsGo, LetsGoWhere, TakesSo, given_of, is_connected, is_given, moves_of, noted, opened_at}
use Rattle.zk_agent.specs.Agents.{over_at, row_after}
use Rattle.zk_agent.specs.Credentials.{judging_of, papers_of, unwritten, with_credential, with_judging, Judging, Papers}
use Rattle.zk_agent.specs.declared.credentials.Credentials.{Credentials}
use Rattle.zk_agent.specs.Calls.{closings, endings, handed}
use Rattle.zk_agent.specs.Replies.{is_over}
use Rattle.zk_agent.specs.Telling.{Told, Begins, Introduces, TellsTree, due_told, judged_told}
use Rattle.zk_agent.specs.Waits.{Waited, heard_input, waited_after}
use Rattle.zk_agent.proofs.Closing.{is_bytes, steps_closed}

-- ---- the client stands where it was led

unmoved : (start : Start) → Stands start [] (view_at start [])
unmoved start = record { standing = refl; saved = refl; lists = refl; cache = refl; going = λ goes_on. refl; said = tt; asked = tt }

led_on : (turns : List Turn) (old new : View) → FoldsTo Rule old turns new → (start : Start) (items : List Item)
    → Stands start items old → IsLed new
led_on [] old new same start items stands = (start, items, subst (Stands start items) same stands)
led_on (turn ∷ turns) old new chain start items stands =
    led_on turns chain.0 new chain.2 start (Turned turn ∷ items) (one_turn start items old chain.0 turn stands chain.1)

led_hears : {A : Type 0} (now : ℕ) (input : Input) (old new : Trail A) → HearsSo now input old new → IsLed old.view → IsLed new.view
led_hears now input old new does led =
    led_on (record { input = Now now; outputs = does.takes.steps.first } ∷ record { input = input; outputs = does.takes.steps.second }
    ∷ does.takes.steps.calls) old.view new.view does.takes.steps.chain led.0 led.1 led.2

led_leaves : {A : Type 0} (is_lost : Bool) (now : ℕ) (old new : Trail A) → LeavesWhere is_lost now old new → IsLed old.view → IsLed new.view
led_leaves true now old new leaves led = led_hears now turns.Cut old new leaves led
led_leaves {A} false now old new same led = subst (λ (t : Trail A). IsLed t.view) (sym same) led

led_doubts : {A : Type 0} (is_risen : Bool) (now : ℕ) (old new : Trail A) → DoubtsWhere is_risen now old new → IsLed old.view
    → IsLed new.view
led_doubts true now old new doubts led =
    led_hears now (turns.Now now) (record old { subjects = map doubted old.subjects }) new doubts led
led_doubts {A} false now old new same led = subst (λ (t : Trail A). IsLed t.view) (sym same) led

led_by : {A : Type 0} (move : Move) (old new : Trail A) → Does old move new → IsLed old.view → IsLed new.view
led_by (Hears now input) old new does led =
    led_doubts (rises old.view.saved.last does.after.view.saved.last) now does.after new does.doubts
    (led_leaves does.hears.heard.is_lost now does.between does.after does.leaves (led_hears now input old does.between does.hears led))
led_by (Hands now ticket asked) old new does led = led_hears now (turns.Call ticket asked) old new does led
led_by Renews old new does led =
    subst IsLed (sym does.view) (renewed_start old.timeout old.view, [], unmoved (renewed_start old.timeout old.view))
led_by {A} (Follows ticket side path) old new does led = subst IsLed (sym (ap (λ (t : Trail A). t.view) does)) led
led_by {A} (Unfollows ticket) old new does led = subst IsLed (sym (ap (λ (t : Trail A). t.view) does)) led
led_by {A} (Asks ticket asked until) old new does led = subst IsLed (sym (ap (λ (t : Trail A). t.view) does.last)) led
led_by {A} (GivesUp now) old new does led = subst IsLed (sym (ap (λ (t : Trail A). t.view) does)) led
led_by {A} (LeavesLate now) old new does led =
    subst IsLed (sym (ap (λ (t : Trail A). t.view) does.last))
    (led_hears now turns.Cut does.between does.after does.hears (subst IsLed (sym (ap (λ (t : Trail A). t.view) does.hangs)) led))
led_by {A} (Opened now) old new does led = subst IsLed (sym (ap (λ (t : Trail A). t.view) does.1)) led
led_by {A} (Ended now) old new does led = subst IsLed (sym (ap (λ (t : Trail A). t.view) does.1)) led
led_by {A} HungUp old new does led = subst IsLed (sym (ap (λ (t : Trail A). t.view) does)) led
led_by {A} (Addressed kept added is_listed) old new does led = subst IsLed (sym (ap (λ (t : Trail A). t.view) does.1)) led
led_by {A} (Decides now due) old new does led = subst IsLed (sym (ap (λ (t : Trail A). t.view) does.last)) led
led_by {A} Closes old new does led = subst IsLed (sym (ap (λ (t : Trail A). t.view) does.last)) led
led_by {A} (Tends told) old new does led = subst IsLed (sym (ap (λ (t : Trail A). t.view) does)) led
led_by {A} (Presents judged frames) old new does led = subst IsLed (sym (ap (λ (t : Trail A). t.view) does)) led

led_through : {A : Type 0} (moves : List Move) (old new : Trail A) → FoldsTo Does old moves new → IsLed old.view → IsLed new.view
led_through {A} [] old new same led = subst (λ (t : Trail A). IsLed t.view) same led
led_through (move ∷ moves) old new does led = led_through moves does.0 new does.2 (led_by move old does.0 does.1 led)

-- ---- after a close there is no connection

-- by where the connection was
abbrev OpensAt : {A : Type 0} → Phase → (timeout now : ℕ) → (old new : Dialler A) → (is_ours : Bool) → Type 0
OpensAt phase timeout now old new is_ours = elim phase [
  | Waiting ↦ is_ours ≡ false × new ≡ old
  | Dialling began until ↦ is_ours ≡ true × AttemptEnds timeout now began Open old new
  | Open ↦ is_ours ≡ false × new ≡ old
]

abbrev EndsAt : {A : Type 0} → Phase → (timeout now : ℕ) → (old new : Dialler A) → Type 0
EndsAt phase timeout now old new = elim phase [
  | Waiting ↦ new ≡ old
  | Dialling began until ↦ IsRefused timeout now began old new
  | Open ↦ new ≡ record old { phase = Waiting }
]

ends_waiting : {A : Type 0} (phase : Phase) (timeout now : ℕ) (old new : Dialler A)
    → old.phase ≡ phase → EndsAt phase timeout now old new → new.phase ≡ Waiting
ends_waiting {A} Waiting timeout now old new is same = ap (λ (d : Dialler A). d.phase) same ∙ is
ends_waiting (Dialling began until) timeout now old new is ends = ends.phase
ends_waiting {A} Open timeout now old new is same = ap (λ (d : Dialler A). d.phase) same

goes_waiting : {A : Type 0} (is_there : Bool) (timeout now : ℕ) (old new : Dialler A) (before after : List Told)
    → LetsGoWhere is_there timeout now old new before after
    → (old.phase ≡ Waiting) ⊎ (is_there ≡ true) → new.phase ≡ Waiting
goes_waiting true timeout now old new before after goes why = ends_waiting old.phase timeout now old new refl goes.0
goes_waiting {A} false timeout now old new before after goes (inl waits) = ap (λ (d : Dialler A). d.phase) goes.0 ∙ waits
goes_waiting false timeout now old new before after goes (inr there) = absurd cc

both : (a b : Bool) → a ≡ true → b ≡ true → (a && b) ≡ true
both true b e f = f
both false b e f = absurd cc

same_by : {A : Type 0} (b : Bool) (x y : Dialler A) (phase : Phase) → x.phase ≡ phase → y.phase ≡ phase → (cond b x y).phase ≡ phase
same_by true x y phase e f = e
same_by false x y phase e f = f

pub noted_phase : {A : Type 0} (timeout now : ℕ) (state : State) (ends_row : Bool) (dialler : Dialler A)
    → (noted timeout now state (row_after ends_row dialler)).phase ≡ dialler.phase
noted_phase timeout now state ends_row dialler =
    let row : (row_after ends_row dialler).phase ≡ dialler.phase = same_by ends_row _ dialler dialler.phase refl refl in
    same_by (is_connected state) _ (row_after ends_row dialler) dialler.phase row row

may_open : {A : Type 0} (now : ℕ) (input : Input) (old : Trail A)
    → MayHear now input old → is_bytes input ≡ true → is_open old.dialler.phase ≡ true
may_open now (turns.Bytes bytes) old may is = may
may_open now _ old may is = absurd cc

shut_hears : {A : Type 0} (now : ℕ) (input : Input) (old new : Trail A) → HearsSo now input old new → IsShut old → IsShut new
shut_hears {A} now input old new does shut closed =
    goes_waiting (does.heard.is_over && is_open dialler.phase) new.view.saved.session.timeout now dialler new.dialler
    does.told new.told does.lets_go
    (by (steps_closed now old.view input old.subjects new.view does.takes.given does.takes.stepped does.takes.steps closed))
  where
    dialler : Dialler A
    dialler = noted new.view.saved.session.timeout now new.view.standing.state (row_after does.heard.ends_row old.dialler)

    same : dialler.phase ≡ old.dialler.phase
    same = noted_phase new.view.saved.session.timeout now new.view.standing.state does.heard.ends_row old.dialler

    by : (old.view.standing.state ≡ Closed) ⊎ ((is_bytes input ≡ true) × (list_any is_over does.takes.given ≡ true))
        → (dialler.phase ≡ Waiting) ⊎ ((does.heard.is_over && is_open dialler.phase) ≡ true)
    by (inl was) = inl (same ∙ shut was)
    by (inr over) =
        inr (both does.heard.is_over (is_open dialler.phase) (ap (λ (h : Heard). h.is_over) does.takes.heard ∙ over.1)
        (ap is_open same ∙ may_open now input old does.may over.0))

shut_leaves : {A : Type 0} (is_lost : Bool) (now : ℕ) (old new : Trail A) → LeavesWhere is_lost now old new → IsShut old → IsShut new
shut_leaves true now old new leaves shut = shut_hears now turns.Cut old new leaves shut
shut_leaves {A} false now old new same shut = subst IsShut (sym same) shut

shut_doubts : {A : Type 0} (is_risen : Bool) (now : ℕ) (old new : Trail A) → DoubtsWhere is_risen now old new → IsShut old → IsShut new
shut_doubts true now old new doubts shut =
    shut_hears now (turns.Now now) (record old { subjects = map doubted old.subjects }) new doubts shut
shut_doubts false now old new same shut = subst IsShut (sym same) shut

opens_never : {A : Type 0} (timeout now : ℕ) (old new : Dialler A) → old.phase ≡ Waiting → Opens timeout now old new true → ⊥
opens_never timeout now old new waits opens =
    let never : true ≡ false × new ≡ old = subst (λ phase. OpensAt phase timeout now old new true) waits opens in
    let f : true ≡ false = never.0 in cc

shut_by : {A : Type 0} (move : Move) (old new : Trail A) → Does old move new → IsShut old → IsShut new
shut_by (Hears now input) old new does shut =
    shut_doubts (rises old.view.saved.last does.after.view.saved.last) now does.after new does.doubts
    (shut_leaves does.hears.heard.is_lost now does.between does.after does.leaves (shut_hears now input old does.between does.hears shut))
shut_by (Hands now ticket asked) old new does shut = shut_hears now (turns.Call ticket asked) old new does shut
shut_by Renews old new does shut =
    λ closed. absurd (let f : Idle ≡ Closed = sym (ap (λ (v : View). v.standing.state) does.view) ∙ closed in cc)
shut_by (Follows ticket side path) old new does shut = subst IsShut (sym does) shut
shut_by (Unfollows ticket) old new does shut = subst IsShut (sym does) shut
shut_by (Asks ticket asked until) old new does shut = subst IsShut (sym does.last) shut
shut_by (GivesUp now) old new does shut = subst IsShut (sym does) shut
shut_by (LeavesLate now) old new does shut =
    subst IsShut (sym does.last)
    (shut_hears now turns.Cut does.between does.after does.hears
    (λ closed. ends_waiting old.dialler.phase old.view.saved.session.timeout now old.dialler does.between.dialler refl does.ends))
shut_by {A} (Opened now) old new does shut =
    λ closed. absurd (opens_never old.view.saved.session.timeout now old.dialler new.dialler
    (shut (sym (ap (λ (t : Trail A). t.view.standing.state) does.1) ∙ closed)) does.0)
shut_by (Ended now) old new does shut =
    λ closed. ends_waiting old.dialler.phase old.view.saved.session.timeout now old.dialler new.dialler refl does.0
shut_by HungUp old new does shut = subst IsShut (sym does) shut
shut_by {A} (Addressed kept added is_listed) old new does shut =
    λ closed. does.0.phase ∙ shut (sym (ap (λ (t : Trail A). t.view.standing.state) does.1) ∙ closed)
shut_by {A} (Decides now due) old new does shut =
    λ closed. absurd (does.goes_on (sym (ap (λ (t : Trail A). t.view.standing.state) does.last) ∙ closed))
shut_by Closes old new does shut = subst IsShut (sym does.last) shut
shut_by (Tends told) old new does shut = subst IsShut (sym does) shut
shut_by (Presents judged frames) old new does shut = subst IsShut (sym does) shut

shut_through : {A : Type 0} (moves : List Move) (old new : Trail A) → FoldsTo Does old moves new → IsShut old → IsShut new
shut_through [] old new same shut = subst IsShut same shut
shut_through (move ∷ moves) old new does shut = shut_through moves does.0 new does.2 (shut_by move old does.0 does.1 shut)

-- ---- the timeout of later sessions stays

stays_where : {A : Type 0} (is_lost : Bool) (now : ℕ) (old new : Trail A) → LeavesWhere is_lost now old new → new.timeout ≡ old.timeout
stays_where true now old new leaves = leaves.timeout
stays_where {A} false now old new same = ap (λ (t : Trail A). t.timeout) same

stays_doubting : {A : Type 0} (is_risen : Bool) (now : ℕ) (old new : Trail A) → DoubtsWhere is_risen now old new
    → new.timeout ≡ old.timeout
stays_doubting true now old new doubts = doubts.timeout
stays_doubting {A} false now old new same = ap (λ (t : Trail A). t.timeout) same

pub stays_by : {A : Type 0} (move : Move) (old new : Trail A) → Does old move new → new.timeout ≡ old.timeout
stays_by (Hears now input) old new does =
    stays_doubting (rises old.view.saved.last does.after.view.saved.last) now does.after new does.doubts
    ∙ stays_where does.hears.heard.is_lost now does.between does.after does.leaves ∙ does.hears.timeout
stays_by (Hands now ticket asked) old new does = does.timeout
stays_by Renews old new does = does.timeout
stays_by {A} (Follows ticket side path) old new does = ap (λ (t : Trail A). t.timeout) does
stays_by {A} (Unfollows ticket) old new does = ap (λ (t : Trail A). t.timeout) does
stays_by {A} (Asks ticket asked until) old new does = ap (λ (t : Trail A). t.timeout) does.last
stays_by {A} (GivesUp now) old new does = ap (λ (t : Trail A). t.timeout) does
stays_by {A} (LeavesLate now) old new does =
    ap (λ (t : Trail A). t.timeout) does.last ∙ does.hears.timeout ∙ ap (λ (t : Trail A). t.timeout) does.hangs
stays_by {A} (Opened now) old new does = ap (λ (t : Trail A). t.timeout) does.1
stays_by {A} (Ended now) old new does = ap (λ (t : Trail A). t.timeout) does.1
stays_by {A} HungUp old new does = ap (λ (t : Trail A). t.timeout) does
stays_by {A} (Addressed kept added is_listed) old new does = ap (λ (t : Trail A). t.timeout) does.1
stays_by {A} (Decides now due) old new does = ap (λ (t : Trail A). t.timeout) does.last
stays_by {A} Closes old new does = ap (λ (t : Trail A). t.timeout) does.last
stays_by {A} (Tends told) old new does = ap (λ (t : Trail A). t.timeout) does
stays_by {A} (Presents judged frames) old new does = ap (λ (t : Trail A). t.timeout) does

stays_through : {A : Type 0} (moves : List Move) (old new : Trail A) → FoldsTo Does old moves new → new.timeout ≡ old.timeout
stays_through {A} [] old new same = sym (ap (λ (t : Trail A). t.timeout) same)
stays_through (move ∷ moves) old new does = stays_through moves does.0 new does.2 ∙ stays_by move old does.0 does.1

-- ---- moves

does_on : {A : Type 0} (moves more : List Move) (old between new : Trail A)
    → FoldsTo Does old moves between → FoldsTo Does between more new → FoldsTo Does old (moves ++ more) new
does_on [] more old between new same rest = rw same rest
does_on (move ∷ moves) more old between new does rest = (does.0, does.1, does_on moves more does.0 between new does.2 rest)

at_on : (now : ℕ) (moves more : List Move)
    → AllByRecursion (IsAt now) moves → AllByRecursion (IsAt now) more → AllByRecursion (IsAt now) (moves ++ more)
at_on now [] more all rest = rest
at_on now (move ∷ moves) more all rest = (all.0, at_on now moves more all.1 rest)

come : {A : Type 0} (now : ℕ) (given moves : List Move) (old new : Trail A)
    → FoldsTo Does old moves new → filter is_given moves ≡ given → AllByRecursion (IsAt now) moves → Comes now given old new
come now given moves old new does comes at =
    record {
      moves = moves;
      does = does;
      comes = comes;
      at = at;
      led = led_through moves old new does;
      shut = shut_through moves old new does;
      timeout = stays_through moves old new does;
    }

-- nothing came
pub nothing : {A : Type 0} (now : ℕ) (here : Trail A) → Acts now [] here here
unfolding come
nothing now here = record { comes = come now [] [] here here refl refl tt; untended = refl }

-- a move of its own, and one that comes from outside, of which neither tends a tree
pub one : {A : Type 0} (now : ℕ) (move : Move) (old new : Trail A)
    → is_given move ≡ false → tends_of move ≡ [] → IsAt now move → Does old move new → Acts now [] old new
unfolding come
one now move old new own none at does = record {
  comes = come now [] (move ∷ []) old new (new, does, refl) (ap (λ b. cond b (move ∷ []) []) own) (at, tt);
  untended = ap (λ t. t ++ []) none;
}

pub gives : {A : Type 0} (now : ℕ) (move : Move) (old new : Trail A)
    → is_given move ≡ true → tends_of move ≡ [] → IsAt now move → Does old move new → Acts now (move ∷ []) old new
unfolding come
gives now move old new given none at does = record {
  comes = come now (move ∷ []) (move ∷ []) old new (new, does, refl) (ap (λ b. cond b (move ∷ []) []) given) (at, tt);
  untended = ap (λ t. t ++ []) none;
}

-- what comes first, and what comes after it
pub comes_after : {A : Type 0} (now : ℕ) (given more : List Move) (old between new : Trail A)
    → Comes now given old between → Comes now more between new → Comes now (given ++ more) old new
comes_after now given more old between new first rest =
    come now (given ++ more) (first.moves ++ rest.moves) old new (does_on first.moves rest.moves old between new first.does rest.does)
    (filter-append is_given first.moves rest.moves ∙ ap (λ ms. ms ++ filter is_given rest.moves) first.comes
    ∙ ap (λ ms. given ++ ms) rest.comes)
    (at_on now first.moves rest.moves first.at rest.at)

pub after : {A : Type 0} (now : ℕ) (given more : List Move) (old between new : Trail A)
    → Acts now given old between → Acts now more between new → Acts now (given ++ more) old new
unfolding comes_after come
after now given more old between new first rest = record {
  comes = comes_after now given more old between new first.comes rest.comes;
  untended = flat_map-append tends_of first.comes.moves rest.comes.moves ∙ ap (λ t. t ++ tended_in rest.comes.moves) first.untended
      ∙ rest.untended;
}

-- news of trees, and the subjects that come and go with them
abbrev told_and : {A : Type 0} → List TreeTold → Trail A → Trail A
told_and told trail = record trail { subjects = shifted_by told trail.subjects; told = trail.told ++ map TellsTree told }

pub tended : {A : Type 0} (now : ℕ) (told : List TreeTold) (old new : Trail A) → new ≡ told_and told old → Comes now [] old new
tended {A} now [] old new is =
    subst (Comes now [] old) (sym (is ∙ ap (λ l. record old { told = l }) (append-nil old.told))) (nothing now old).comes
tended {A} now (first ∷ told) old new is =
    let between : Trail A = record old { subjects = shifted first old.subjects; told = old.told ++ TellsTree first ∷ [] } in
    comes_after now [] [] old between new (come now [] (Tends first ∷ []) old between (between, refl, refl) refl (tt, tt))
    (tended now told between new (is ∙ ap (λ l. record between { subjects = shifted_by told between.subjects; told = l })
    (sym (append_assoc old.told (TellsTree first ∷ []) (map TellsTree told)))))

-- what comes after it is of its own
pub then_none : {A : Type 0} (now : ℕ) (given : List Move) (old between new : Trail A)
    → Acts now given old between → Acts now [] between new → Acts now given old new
then_none now given old between new first rest =
    subst (λ ms. Acts now ms old new) (append-nil given) (after now given [] old between new first rest)

pub ok_after : {A X E : Type 0} (result : Result X E) (now : ℕ) (given more : List Move) (old between new : Trail A)
    → Acts now given old between → OnOk result (Acts now more between new)
    → OnOk result (Acts now (given ++ more) old new)
ok_after (Ok x) now given more old between new first rest = after now given more old between new first rest
ok_after (Err e) now given more old between new first rest = tt

-- six parts, of which the first and the last alone are given
pub in_turn : {A : Type 0} (now : ℕ) (given more : List Move) (first second third fourth fifth sixth last : Trail A)
    → Acts now given first second → Acts now [] second third
    → Acts now [] third fourth → Acts now [] fourth fifth → Acts now [] fifth sixth → Acts now more sixth last
    → Acts now (given ++ more) first last
in_turn now given more first second third fourth fifth sixth last a b c d e f =
    after now given more first sixth last
    (then_none now given first fifth sixth (then_none now given first fourth fifth
    (then_none now given first third fourth (then_none now given first second third a b) c) d) e) f

-- what is told of credentials, and then what the dialler decides
pub presented : {A X E : Type 0} (result : Result X E) (now : ℕ) (judged : List (ℕ × ℤ)) (frames : List (List ℕ))
    (old between new : Trail A)
    → between ≡ record old { told = (old.told ++ map judged_told judged) ++ map Introduces frames }
    → OnOk result (Acts now [] between new) → OnOk result (Acts now (Presents judged frames ∷ []) old new)
presented (Ok x) now judged frames old between new is rest =
    then_none now (Presents judged frames ∷ []) old between new (gives now (Presents judged frames) old between refl refl tt is) rest
presented (Err e) now judged frames old between new is rest = tt

-- What the dialler decides leaves a connection that is there, and makes none.
pub decides_none : {A : Type 0} (timeout now : ℕ) (old new : Dialler A) (due : Option DialDue) → DialsWell timeout now old new due
    → is_open new.phase ≡ is_open old.phase
decides_none {A} timeout now old new None same = ap (λ (d : Dialler A). is_open d.phase) same
decides_none timeout now old new (Some (Dial place within)) dials = ap is_open dials.phase ∙ sym (ap is_open dials.waiting)
decides_none timeout now old new (Some GiveUp) dials = ap is_open dials.ends.phase ∙ sym (ap is_open dials.dialling)

-- what a step makes, by what its parts were given
module _ {A : Type 0} (is_there : Bool) (now : ℕ) (input : AgentInput A) (agent : Agent A) where
  abbrev judging : Papers → Judging
  judging papers =
      judging_of (is_open agent.dialler.phase) (view_of agent.asker.follower.client).standing.state agent.waits.came input papers

  abbrev presents : (judged : List (ℕ × ℤ)) (papers : Papers) → List Move
  presents judged papers = Presents judged (unwritten is_there (with_credential input papers)) ∷ []

  pub made : (was : Credentials A) (told judged : List (ℕ × ℤ)) (papers : Papers) (dialler : Dialler A) (old new : Trail A)
      → was ≡ agent.credentials → told ≡ judged → judged ≡ (judging (papers_of was)).1.judged
      → papers ≡ with_judging (judging (papers_of was)) (papers_of was) → dialler ≡ agent.dialler
      → Acts now (given_of dialler now input ++ presents told papers) old new
      → Acts now (moves_of is_there now input agent) old new
  made was told judged papers dialler old new same is its are at comes =
      subst (λ (c : Credentials A). Acts now (given_of agent.dialler now input
      ++ presents (judging (papers_of c)).1.judged (with_judging (judging (papers_of c)) (papers_of c))) old new) same
      (subst (λ j. Acts now (given_of agent.dialler now input
      ++ presents j (with_judging (judging (papers_of was)) (papers_of was))) old new) (is ∙ its)
      (subst (λ p. Acts now (given_of agent.dialler now input ++ presents told p) old new) are
      (subst (λ h. Acts now (given_of h now input ++ presents told papers) old new) at comes)))

-- ---- single moves

abbrev trail : {A : Type 0} → View → List (Subject A) → List (Entry A) → Dialler A → ℤ → Waited → List Told → Trail A
trail view subjects line dialler timeout waits told =
    record { view = view; subjects = subjects; line = line; dialler = dialler; timeout = timeout; waits = waits; told = told }

pub trail_eq : {A : Type 0} (old new : Trail A)
    → new.view ≡ old.view → new.subjects ≡ old.subjects → new.line ≡ old.line → new.dialler ≡ old.dialler → new.timeout ≡ old.timeout
    → new.waits ≡ old.waits → new.told ≡ old.told → new ≡ old
trail_eq old new v s l d m w t =
    ap (λ x. trail x new.subjects new.line new.dialler new.timeout new.waits new.told) v
    ∙ ap (λ x. trail old.view x new.line new.dialler new.timeout new.waits new.told) s
    ∙ ap (λ x. trail old.view old.subjects x new.dialler new.timeout new.waits new.told) l
    ∙ ap (λ x. trail old.view old.subjects old.line x new.timeout new.waits new.told) d
    ∙ ap (λ x. trail old.view old.subjects old.line old.dialler x new.waits new.told) m
    ∙ ap (λ x. trail old.view old.subjects old.line old.dialler old.timeout x new.told) w
    ∙ ap (λ x. trail old.view old.subjects old.line old.dialler old.timeout old.waits x) t

pub opened : {A : Type 0} (old new : Trail A) (timeout now : ℕ) (ours : Bool)
    → timeout ≡ old.view.saved.session.timeout → ours ≡ true → Opens timeout now old.dialler new.dialler ours
    → new ≡ record old { dialler = new.dialler } → Acts now (Opened now ∷ []) old new
opened old new timeout now ours is asked opens rest =
    gives now (Opened now) old new refl refl refl
    (subst (λ t. Opens t now old.dialler new.dialler true) is (subst (Opens timeout now old.dialler new.dialler) asked opens), rest)

pub ended : {A : Type 0} (old new : Trail A) (timeout now : ℕ)
    → timeout ≡ old.view.saved.session.timeout → Ends timeout now old.dialler new.dialler → new ≡ record old { dialler = new.dialler }
    → Acts now (Ended now ∷ []) old new
ended old new timeout now is ends rest =
    gives now (Ended now) old new refl refl refl (subst (λ t. Ends t now old.dialler new.dialler) is ends, rest)

-- another list, by what the dialler says of it
module _ {A : Type 0} (kept added : ℕ) (is_listed moves : Bool) (old new : Dialler A)
    (so : moves ≡ moves_with old kept added is_listed) (phase : new.phase ≡ old.phase) where
  pub readdressed : new.ring.order.items ≡ order_of moves
      (tries_kept (length old.ring.order.items) kept (kept + added)
      (next_state (state_after (kept + added) (next_state old.backoff.chance.state)))) kept
      (shuffled (next_state old.backoff.chance.state) (kept + added) (numbers (kept + added)))
      → IsPermutation (numbers (kept + added)) new.ring.order.items → new.ring.next ≡ 0
      → new.backoff ≡ record old.backoff {
        chance = record { state = next_state (next_state (state_after (kept + added) (next_state old.backoff.chance.state))) };
      }
      → AddressesSo kept added is_listed old new
  readdressed order each first backoff = record {
    order = subst (λ b. new.ring.order.items ≡ order_of b
        (tries_kept (length old.ring.order.items) kept (kept + added)
        (next_state (state_after (kept + added) (next_state old.backoff.chance.state)))) kept
        (shuffled (next_state old.backoff.chance.state) (kept + added) (numbers (kept + added)))) so order;
    each = each;
    first = first;
    phase = phase;
    backoff = backoff;
  }

  pub leaves_so : (leaves : Bool) → leaves ≡ (moves && not (is_waiting new.phase)) → leaves ≡ leaves_with old kept added is_listed
  leaves_so leaves is =
      is ∙ ap (λ b. b && not (is_waiting new.phase)) so
      ∙ ap (λ at. moves_with old kept added is_listed && not (is_waiting at)) phase

pub decided : {A : Type 0} (old new : Trail A) (timeout now : ℕ) (due : Option DialDue)
    → old.view.standing.state ≢ Closed → timeout ≡ old.view.saved.session.timeout
    → DialsWell timeout now old.dialler new.dialler due → is_some due ≡ is_due now old.dialler
    → new ≡ record old { dialler = new.dialler; told = old.told ++ due_told due } → Acts now [] old new
decided old new timeout now due goes_on is dials all rest =
    one now (Decides now due) old new refl refl refl
    (record { goes_on = goes_on; all = all; dials = subst (λ t. DialsWell t now old.dialler new.dialler due) is dials; last = rest })

pub closed : {A X E : Type 0} (result : Result X E) (now : ℕ) (old new : Trail A)
    → old.view.standing.state ≡ Closed → new.view ≡ old.view → new.subjects ≡ old.subjects
    → OnOk result (new.line ≡ []) → new.dialler ≡ old.dialler → new.timeout ≡ old.timeout → new.waits ≡ old.waits
    → OnOk result (new.told ≡ old.told ++ closings old.line)
    → OnOk result (Acts now [] old new)
closed (Ok x) now old new is v s l d m w t =
    one now Closes old new refl refl tt
    (record { closed = is; last = trail_eq (record old { line = []; told = old.told ++ closings old.line }) new v s l d m w t })
closed (Err e) now old new is v s l d m w t = tt

pub renewed : {A X E : Type 0} (result : Result X E) (now : ℕ) (old new : Trail A)
    → old.view.standing.state ≡ Expired → OnOk result (new.view ≡ view_at (renewed_start old.timeout old.view) [])
    → OnOk result (new.subjects ≡ map due_again old.subjects)
    → OnOk result (new.dialler ≡ record old.dialler { backoff = row_ended old.dialler.backoff }) → new.timeout ≡ old.timeout
    → new.waits ≡ old.waits → OnOk result (new.line ≡ [])
    → OnOk result (new.told ≡ (old.told ++ endings ending.Expired old.line) ++ Begins ∷ []) → OnOk result (Acts now [] old new)
renewed (Ok x) now old new expired v s d m w l t =
    one now Renews old new refl refl tt
    (record { expired = expired; view = v; timeout = m; waits = w; subjects = s; dialler = d; line = l; told = t })
renewed (Err e) now old new expired v s d m w l t = tt

pub begun : {X E : Type 0} (result : Result X E) (timeout : ℤ) (old new : View) → OnOk result (new ≡ view_at (renewed_start timeout old) [])
    → OnOk result (new.standing.state ≢ Expired)
begun (Ok x) timeout old new is = λ expired. let f : Idle ≡ Expired = sym (ap (λ (v : View). v.standing.state) is) ∙ expired in cc
begun (Err e) timeout old new is = tt

-- ---- the client hears

-- what is heard and no call may be heard, and the line is as it was
pub may_hear : {A : Type 0} (now : ℕ) (input : Input) (old : Trail A) → MayTake input (is_open old.dialler.phase) → MayHear now input old
may_hear now (turns.Opened) old may = may
may_hear now (turns.Bytes bytes) old may = may
may_hear now (turns.Call ticket asked) old may = absurd may
may_hear now (turns.Now moment) old may = tt
may_hear now (turns.Cut) old may = tt

pub not_handed : {A : Type 0} (input : Input) (is_open : Bool) (line : List (Entry A)) → MayTake input is_open → line ≡ handed input line
not_handed (turns.Opened) is_open line may = refl
not_handed (turns.Bytes bytes) is_open line may = refl
not_handed (turns.Call ticket asked) is_open line may = absurd may
not_handed (turns.Now moment) is_open line may = refl
not_handed (turns.Cut) is_open line may = refl

-- The client and the line are as it left them, with what was done about the connection after it, and with whether a server says that the
-- session is not its own.
pub taken_and : {A : Type 0} (now : ℕ) (input : Input) (old new between : Trail A) (line : List (Entry A)) (heard : Heard)
    → MayHear now input old → line ≡ handed input old.line
    → TakesSo now input old.view old.subjects line old.told between.view between.subjects between.line between.told heard
    → new.view ≡ between.view → new.subjects ≡ between.subjects → new.line ≡ between.line → new.timeout ≡ old.timeout
    → LetsGo heard.is_over between.view.saved.session.timeout now
    (noted between.view.saved.session.timeout now between.view.standing.state (row_after heard.ends_row old.dialler)) new.dialler
    between.told new.told
    → new.waits ≡ waited_after now heard.sent (heard_input old.waits input)
    → (hears : HearsSo now input old new) × (hears.heard.is_lost ≡ heard.is_lost)
taken_and {A} now input old new between line heard may is takes same_view same_subjects same_line same_timeout goes waits = (
  record {
    may = may;
    timeout = same_timeout;
    heard = heard;
    told = between.told;
    takes = subst (λ es. TakesSo now input old.view old.subjects es old.told new.view new.subjects new.line between.told heard) is
        (subst (λ v. TakesSo now input old.view old.subjects line old.told v new.subjects new.line between.told heard) (sym same_view)
        (subst (λ ss. TakesSo now input old.view old.subjects line old.told between.view ss new.line between.told heard) (sym same_subjects)
        (subst (λ es. TakesSo now input old.view old.subjects line old.told between.view between.subjects es between.told heard)
        (sym same_line) takes)));
    lets_go = subst (λ (v : View). LetsGo heard.is_over v.saved.session.timeout now
        (noted v.saved.session.timeout now v.standing.state (row_after heard.ends_row old.dialler)) new.dialler between.told new.told)
        (sym same_view) goes;
    waits = waits;
  },
  refl,
)

pub taken_by : {A : Type 0} (now : ℕ) (input : Input) (old new between : Trail A) (line : List (Entry A)) (heard : Heard)
    → MayHear now input old → line ≡ handed input old.line
    → TakesSo now input old.view old.subjects line old.told between.view between.subjects between.line between.told heard
    → new.view ≡ between.view → new.subjects ≡ between.subjects → new.line ≡ between.line → new.timeout ≡ old.timeout
    → LetsGo heard.is_over between.view.saved.session.timeout now
    (noted between.view.saved.session.timeout now between.view.standing.state (row_after heard.ends_row old.dialler)) new.dialler
    between.told new.told
    → new.waits ≡ waited_after now heard.sent (heard_input old.waits input)
    → HearsSo now input old new
taken_by now input old new between line heard may is takes same_view same_subjects same_line same_timeout goes waits =
    (taken_and now input old new between line heard may is takes same_view same_subjects same_line same_timeout goes waits).0

never_less : (n : ℕ) → nat_lt n n ≡ false
never_less n = by (nat_lt n n) refl
  where
    by : (b : Bool) → nat_lt n n ≡ b → nat_lt n n ≡ false
    by true e = absurd (let less : n < n = grind (arith, nat_tests) in omega (arith, less))
    by false e = e

and_false : (b : Bool) → (b && false) ≡ false
and_false true = refl
and_false false = refl

-- no epoch is another one than itself
rises_never : (last : ℤ) → rises last last ≡ false
rises_never last =
    ap (λ b. nat_lt 0 (unsigned_abs last) && b) (never_less (unsigned_abs last / 2 ^ 32)) ∙ and_false (nat_lt 0 (unsigned_abs last))

-- it hears what is no end of the session on the connection, and shows no other epoch
pub hears_and : {A : Type 0} (now : ℕ) (input : Input) (old new : Trail A) (hears : HearsSo now input old new)
    → hears.heard.is_lost ≡ false → new.view.saved.last ≡ old.view.saved.last → Acts now (Hears now input ∷ []) old new
hears_and now input old new hears lost same =
    let still : rises old.view.saved.last new.view.saved.last ≡ false =
    ap (rises old.view.saved.last) same ∙ rises_never old.view.saved.last in
    gives now (Hears now input) old new refl refl refl (record {
      between = new;
      hears = hears;
      after = new;
      leaves = subst (λ b. LeavesWhere b now new new) (sym lost) refl;
      doubts = subst (λ b. DoubtsWhere b now new new) (sym still) refl;
    })

-- it hears, is told of the end of the connection where that is to be, and subjects are doubted where another epoch was seen
pub hears_then : {A X E : Type 0} (result : Result X E) (now : ℕ) (input : Input) (old between after new : Trail A) (is_lost : Bool)
    (was : ℤ) (hears : HearsSo now input old between) → hears.heard.is_lost ≡ is_lost → was ≡ old.view.saved.last
    → LeavesWhere is_lost now between after
    → OnOk result (DoubtsWhere (rises was after.view.saved.last) now after new) → OnOk result (Acts now (Hears now input ∷ []) old new)
hears_then (Ok x) now input old between after new is_lost was hears is seen leaves doubts =
    gives now (Hears now input) old new refl refl refl (record {
      between = between;
      hears = hears;
      after = after;
      leaves = subst (λ b. LeavesWhere b now between after) (sym is) leaves;
      doubts = subst (λ last. DoubtsWhere (rises last after.view.saved.last) now after new) seen doubts;
    })
hears_then (Err e) now input old between after new is_lost was hears is seen leaves doubts = tt

-- to be told of leaves a subject followed
reads_told : {A : Type 0} (view : View) (subjects : List (Subject A)) → reads_of view (map (told_of view) subjects) ≡ reads_of view subjects
reads_told {A} view subjects = count_map is_read is_read (told_of view) (λ subject. refl) subjects
  where
    is_read : Subject A → Bool
    is_read subject = list_any (is_read_by subject.ticket subject.side subject.path) view.pending

pub followed_told : {A : Type 0} (now : ℕ) (view after : View) (stepped new : List (Subject A))
    → after ≡ view → new ≡ map (told_of view) stepped → AreFollowed now view stepped
    → AreFollowed now after new
followed_told {A} now view after stepped new is told all =
    subst (AreFollowed now after) (sym told) (subst (λ v. AreFollowed now v (map (told_of view) stepped)) (sym is)
    (subst (λ reads. All (IsFollowed now view reads) (map (told_of view) stepped)) (sym (reads_told view stepped))
    (All-map (IsFollowed now view (reads_of view stepped)) (told_of view) stepped all)))

pub followed_ok : {X E : Type 0} (P : ℕ → Type 0) (result : Result X E) (now : ℕ)
    → OnOk result ((moment : ℕ) → P moment) → OnOk result (P now)
followed_ok P (Ok x) now all = all now
followed_ok P (Err e) now all = tt

-- ---- a connection that is there

-- what it makes
pub ours_makes : {A : Type 0} (timeout now : ℕ) (old new : Dialler A) (is_ours : Bool) → Opens timeout now old new is_ours → is_ours ≡ true
    → Opened now ∷ Hears now turns.Opened ∷ [] ≡ opened_at old.phase now
ours_makes {A} timeout now old new is_ours opens ours = by old.phase opens
  where
    by : (phase : Phase) → OpensAt phase timeout now old new is_ours → Opened now ∷ Hears now turns.Opened ∷ [] ≡ opened_at phase now
    by Waiting h = absurd (let e : true ≡ false = sym ours ∙ h.0 in cc)
    by (Dialling began until) h = refl
    by Open h = absurd (let e : true ≡ false = sym ours ∙ h.0 in cc)

pub late_makes : {A : Type 0} (timeout now : ℕ) (old new : Dialler A) (is_ours : Bool)
    → Opens timeout now old new is_ours → is_ours ≡ false → HungUp ∷ over_at now ≡ opened_at old.phase now
late_makes {A} timeout now old new is_ours opens late = by old.phase opens
  where
    by : (phase : Phase) → OpensAt phase timeout now old new is_ours → HungUp ∷ over_at now ≡ opened_at phase now
    by Waiting h = refl
    by (Dialling began until) h = absurd (let e : true ≡ false = sym h.0 ∙ late in cc)
    by Open h = refl

pub ours_is_open : {A : Type 0} (timeout now : ℕ) (old new : Dialler A) (is_ours : Bool)
    → Opens timeout now old new is_ours → is_ours ≡ true → is_open new.phase ≡ true
ours_is_open {A} timeout now old new is_ours opens ours = by old.phase opens
  where
    by : (phase : Phase) → OpensAt phase timeout now old new is_ours → is_open new.phase ≡ true
    by Waiting h = absurd (let e : true ≡ false = sym ours ∙ h.0 in cc)
    by (Dialling began until) h = ap is_open h.1.phase
    by Open h = absurd (let e : true ≡ false = sym ours ∙ h.0 in cc)

pub late_is_same : {A : Type 0} (timeout now : ℕ) (old new : Dialler A) (is_ours : Bool)
    → Opens timeout now old new is_ours → is_ours ≡ false → new ≡ old
late_is_same {A} timeout now old new is_ours opens late = by old.phase opens
  where
    by : (phase : Phase) → OpensAt phase timeout now old new is_ours → new ≡ old
    by Waiting h = h.1
    by (Dialling began until) h = absurd (let e : true ≡ false = sym h.0 ∙ late in cc)
    by Open h = h.1
