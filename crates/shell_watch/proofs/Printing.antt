-- What is printed, one move after another: lists of moves join, and their texts with them; where a move fails, what was written stays.
use Rattle.std.proofs.Common.{◌≡◌, ◌≤◌, ◌<◌, ◌+◌, ◌++◌, ◌∙◌, ℕ, Bool, true, List, [], ◌∷◌, length, get_or, take, Option, refl, sym}
use Rattle.std.proofs.Common.{ap, subst, append_assoc, append-nil}
use Rattle.std.specs.Prelude.{Result, Ok, Err, OnOk, IfErr}
use Rattle.std.proofs.KnownBytes.{Appends-nil, Appends-trans}
use Rattle.std.specs.Io.KnownBytes.{Appends}
use Rattle.std.specs.List.{flat_map, FoldsTo}
use Rattle.std.specs.Prelude.{◌||◌, None}
use Rattle.zk_client.specs.Clients.{view_of}
use Rattle.zk_agent.specs.Telling.{told_by}
use Rattle.zk_driver.specs.declared.engine.Engine.{Engine}
use Rattle.zk_driver.specs.declared.turn.Turn.{Turn}
use Rattle.zk_agent.specs.declared.input.AgentInput.TheVariants as happens
use Rattle.zk_driver.specs.Driving.{course_of, Hands}
use Rattle.zk_driver.specs.Flowing.{flow_of, Flows}
use Rattle.zk_driver.proofs.Running.{calls_run, next_runs}
use Rattle.zk_driver.specs.Noting.{is_come, notes_of, passed_in, GoesBy}
use Rattle.shell_watch.specs.declared.growth.Growth.{Growth}
use Rattle.shell_watch.specs.declared.shown.Watched.{Watched}
use Rattle.shell_watch.specs.Trees.{fresh, grown_after}
use Rattle.zk_link.specs.FarEnds.{FarEnd}
use Rattle.zk_nodes.specs.Path.{Text}
use Rattle.zk_nodes.specs.declared.side.Side.{Side}
use Rattle.shell_watch.specs.declared.plan.Style.{Style}
use Rattle.zk_trees.specs.declared.subject.NodeSide.{NodeSide}
use Rattle.zk_trees.proofs.Growing.{mapped_next}
use Rattle.shell_watch.specs.Watching.{accepts, aim_of, aims_of, text_of, FollowsAll, FollowsSo, PlantsAll, PlantsSo, Prepares}
use Rattle.shell_watch.specs.Watching.{TellsTurn, Does}
use Rattle.shell_watch.specs.inner.Watching.{stand_of}
use Rattle.shell_watch.specs.Watching.{Move, Prints, Stand, Takes}
use Rattle.shell_watch.specs.inner.Watching.{Heard, Writes, WritesOn}

pub does_on : {A : Type 0} {far : FarEnd} (moves more : List (Move A)) (old between new : Stand A far)
    → FoldsTo Does old moves between → FoldsTo Does between more new → FoldsTo Does old (moves ++ more) new
does_on {A} {far} [] more old between new same rest = subst (λ (s : Stand A far). FoldsTo Does s more new) (sym same) rest
does_on (move ∷ moves) more old between new does rest = (does.0, does.1, does_on moves more does.0 between new does.2 rest)

pub texts_on : {A : Type 0} (moves more : List (Move A))
    → flat_map text_of (moves ++ more) ≡ flat_map text_of moves ++ flat_map text_of more
texts_on [] more = refl
texts_on (move ∷ moves) more =
    ap (λ l. text_of move ++ l) (texts_on moves more) ∙ sym (append_assoc (text_of move) (flat_map text_of moves) (flat_map text_of more))

abbrev pub none : {A : Type 0} {far : FarEnd} (here : Stand A far) → Prints here [] here
none here = record { moves = []; does = refl; are = refl }

abbrev pub one : {A : Type 0} {far : FarEnd} (move : Move A) (old new : Stand A far) → Does old move new → Prints old (text_of move) new
one move old new does = record { moves = move ∷ []; does = (new, does, refl); are = sym (append-nil (text_of move)) }

-- what comes first, and what comes after it
abbrev pub after : {A : Type 0} {far : FarEnd} (old between new : Stand A far) (a b : List ℕ)
    → Prints old a between → Prints between b new → Prints old (a ++ b) new
after old between new a b first rest = record {
  moves = first.moves ++ rest.moves;
  does = does_on first.moves rest.moves old between new first.does rest.does;
  are = ap (λ l. l ++ b) first.are ∙ ap (λ l. flat_map text_of first.moves ++ l) rest.are ∙ sym (texts_on first.moves rest.moves);
}

-- ---- written

pub writes_none : {A : Type 0} {far : FarEnd} (here : Stand A far) (a : Option (List ℕ)) → Writes here here a a
writes_none here a = ([], none here, Appends-nil a)

pub writes_after : {A : Type 0} {far : FarEnd} (old between new : Stand A far) (a b c : Option (List ℕ))
    → Writes old between a b → Writes between new b c → Writes old new a c
writes_after old between new a b c first rest =
    (first.0 ++ rest.0, after old between new first.0 rest.0 first.1 rest.1, Appends-trans a b c first.0 rest.0 first.2 rest.2)

pub ok_writes_after : {A X E : Type 0} {far : FarEnd} (result : Result X E) (old between new : Stand A far) (a b c : Option (List ℕ))
    → Writes old between a b → OnOk result (Writes between new b c)
    → OnOk result (Writes old new a c)
ok_writes_after (Ok x) old between new a b c first rest = writes_after old between new a b c first rest
ok_writes_after (Err e) old between new a b c first rest = tt

-- what was written stays, where nothing more is
pub writes_on : {A : Type 0} {far : FarEnd} (old between : Stand A far) (a b c : Option (List ℕ))
    → c ≡ b → Writes old between a b → WritesOn old a c
writes_on old between a b c same writes = (between, subst (Writes old between a) (sym same) writes)

pub on_after : {A : Type 0} {far : FarEnd} (old between : Stand A far) (a b c : Option (List ℕ))
    → Writes old between a b → WritesOn between b c → WritesOn old a c
on_after old between a b c first rest = (rest.0, writes_after old between rest.0 a b c first rest.1)

-- one turn
pub turned : {A : Type 0} {far : FarEnd} (until : ℕ) (is_over : Bool) (old new : Stand A far) (text : List ℕ) (a b : Option (List ℕ))
    → Heard until is_over old text new → Appends a b text → Writes old new a b
turned until is_over old new text a b heard adds = (text, one (Takes heard.turn text) old new heard.turns, adds)

-- where what comes after may end otherwise
pub err_after : {A X E : Type 0} {far : FarEnd} (P : E → Type 0) (result : Result X E) (old between : Stand A far) (a b c : Option (List ℕ))
    → Writes old between a b
    → IfErr result (λ why. P why → WritesOn between b c) → IfErr result (λ why. P why → WritesOn old a c)
err_after P (Ok x) old between a b c first rest = tt
err_after P (Err e) old between a b c first rest = λ well. on_after old between a b c first (rest well)

-- ---- followed

-- one more
pub follows_more : {A : Type 0} {far : FarEnd} (subjects : List (NodeSide A)) (index : ℕ) (subject : NodeSide A)
    (first here new : Stand A far)
    → index < length subjects → subject ≡ get_or subjects index subject
    → FollowsAll (aims_of (take index subjects)) first here → FollowsSo (aim_of subject) here new
    → FollowsAll (aims_of (take (index + 1) subjects)) first new
follows_more {A} subjects index subject first here new within is follows next =
    mapped_next (λ at aim after. FollowsSo aim at after) aim_of subjects index subject first here new within is follows next

pub ok_follows : {A S X E : Type 0} (remaining contents : S → Option (List ℕ)) (far : FarEnd) (state : S → far.State) (result : Result X E)
    (aim : Side × Text) (first last : Engine A S) (olds news : List (Watched A)) (is_accepted : Bool) (style : Style)
    (growth next : Growth) → news ≡ olds ++ fresh growth.ticket aim ∷ [] → next ≡ record growth { ticket = growth.ticket + 1 }
    → OnOk result (Hands (happens.Follow growth.ticket aim.0 aim.1) (course_of first None) (course_of last None))
    → OnOk result (Flows (flow_of remaining contents far state first None) (flow_of remaining contents far state last None))
    → OnOk result (FollowsSo aim (stand_of remaining contents far state first olds is_accepted style growth)
    (stand_of remaining contents far state last news is_accepted style next))
ok_follows remaining contents far state (Ok x) aim first last olds news is_accepted style growth next more after hands flows = record {
  hands = hands;
  runs = calls_run (flow_of remaining contents far state first None) (flow_of remaining contents far state last None) flows;
  watched = more;
  accepted = refl;
  style = refl;
  growth = after;
}
ok_follows remaining contents far state (Err e) aim first last olds news is_accepted style growth next more after hands flows = tt

pub ok_plants : {A S X E : Type 0} (remaining contents : S → Option (List ℕ)) (far : FarEnd) (state : S → far.State) (result : Result X E)
    (root : Text) (first last : Engine A S) (watched : List (Watched A)) (is_accepted : Bool) (style : Style)
    (growth next : Growth) → next ≡ record growth { ticket = growth.ticket + 1 }
    → OnOk result (Hands (happens.FollowTree growth.ticket root growth.most) (course_of first None) (course_of last None))
    → OnOk result (Flows (flow_of remaining contents far state first None) (flow_of remaining contents far state last None))
    → OnOk result (PlantsSo root (stand_of remaining contents far state first watched is_accepted style growth)
    (stand_of remaining contents far state last watched is_accepted style next))
ok_plants remaining contents far state (Ok x) root first last watched is_accepted style growth next after hands flows = record {
  hands = hands;
  runs = calls_run (flow_of remaining contents far state first None) (flow_of remaining contents far state last None) flows;
  watched = refl;
  accepted = refl;
  style = refl;
  growth = after;
}
ok_plants remaining contents far state (Err e) root first last watched is_accepted style growth next after hands flows = tt

-- subjects, and then trees
pub ok_prepares : {A X E : Type 0} {far : FarEnd} (result : Result X E) (aims : List (Side × Text)) (roots : List Text)
    (old between new : Stand A far) → FollowsAll aims old between → OnOk result (PlantsAll roots between new)
    → OnOk result (Prepares aims roots old new)
ok_prepares (Ok x) aims roots old between new follows plants = record { between = between; follows = follows; plants = plants }
ok_prepares (Err e) aims roots old between new follows plants = tt

-- ---- one turn, heard

-- what a driver has come to, with what it hands on
pub heard_so : {A S : Type 0} (remaining contents : S → Option (List ℕ)) (far : FarEnd) (state : S → far.State) (until : ℕ)
    (is_over : Bool) (turn : Turn A) (first between last : Engine A S) (olds news : List (Watched A)) (was is : Bool) (style : Style)
    (growth grown : Growth) (text : List ℕ) → last ≡ between
    → GoesBy (notes_of turn) (course_of first None) (course_of between (passed_in turn))
    → Flows (flow_of remaining contents far state first None) (flow_of remaining contents far state between (passed_in turn))
    → TellsTurn style turn (view_of between.agent.asker.follower.client) (told_by between.waiting.items) growth olds news text
    → is ≡ (was || accepts turn) → grown ≡ grown_after turn growth → is_over ≡ is_come turn
    → (is_come turn ≡ true → until ≤ between.agent.latest) → (is_come turn ≡ true → between.waiting.items ≡ [])
    → Heard until is_over (stand_of remaining contents far state first olds was style growth) text
    (stand_of remaining contents far state last news is style grown)
heard_so {A} {S} remaining contents far state until is_over turn first between last olds news was is style growth grown text same goes flows
    tells accepted grows over comes waits =
    subst (λ (e : Engine A S). Heard until is_over (stand_of remaining contents far state first olds was style growth) text
    (stand_of remaining contents far state e news is style grown)) (sym same) (record {
      turn = turn;
      turns =
          record {
            goes = goes;
            runs = next_runs remaining contents far state (flow_of remaining contents far state first None) between (passed_in turn) flows;
            tells = tells;
            accepted = accepted;
            style = refl;
            growth = grows;
          };
      over = over;
      comes = λ is_so. (comes (sym over ∙ is_so), ap told_by (waits (sym over ∙ is_so)));
    })

-- the same of a driver that is the same, and of the same subjects
pub same_tells : {A S : Type 0} (style : Style) (turn : Turn A) (growth : Growth) (text : List ℕ) (engine other : Engine A S)
    (olds others news nexts : List (Watched A)) → other ≡ engine → others ≡ olds → nexts ≡ news
    → TellsTurn style turn (view_of other.agent.asker.follower.client) (told_by other.waiting.items) growth others news text
    → TellsTurn style turn (view_of engine.agent.asker.follower.client) (told_by engine.waiting.items) growth olds nexts text
same_tells {A} {S} style turn growth text engine other olds others news nexts is was now tells =
    subst
    (λ (e : Engine A S). TellsTurn style turn (view_of e.agent.asker.follower.client) (told_by e.waiting.items) growth olds nexts text)
    is (subst (λ (ws : List (Watched A)).
    TellsTurn style turn (view_of other.agent.asker.follower.client) (told_by other.waiting.items) growth ws nexts text) was
    (subst (λ (ws : List (Watched A)).
    TellsTurn style turn (view_of other.agent.asker.follower.client) (told_by other.waiting.items) growth others ws text) (sym now) tells))
