-- A moment at which nothing is due, and after which nothing is left to be done: the client hears it and says nothing (`takes`, `idles`),
-- and that is all of a step (`comes_idle`, `trees_idle`, `papers_idle`, `decided_idle`).
use Rattle.std.proofs.Common.{◌≡◌, ◌≢◌, ◌++◌, ◌∷◌, ◌∙◌, ℕ, Bool, true, false, List, [], Some, None, length, map, refl, sym, ap, subst}
use Rattle.std.proofs.Common.{arith}
use Rattle.std.specs.Prelude.{All, if◌then◌else◌}
use Rattle.std.specs.List.{flat_map}
use Rattle.std.proofs.lemmas.List.{append-nil, drop_all}
use Rattle.zk_session.specs.declared.states.State.{State}
use Rattle.zk_turns.specs.Turns as turns
use Rattle.zk_turns.specs.View.{View}
use Rattle.zk_client.specs.Clients.{view_of}
use Rattle.zk_dialler.specs.declared.dialler.Dialler.{Dialler}
use Rattle.zk_dialler.specs.declared.dialler.Phase.{Phase}
use Rattle.zk_dialler.specs.declared.dialler.Phase.TheVariants.{Waiting, Dialling, Open}
use Rattle.zk_dialler.specs.Dialling.{has_come, is_due, is_open}
use Rattle.zk_dialler.specs.Orders.{is_empty_list}
use Rattle.zk_follow.specs.declared.subject.Subject.{Subject}
use Rattle.zk_follow.specs.Following.{news_in, told_of, Steps}
use Rattle.zk_trees.specs.Tending.{are_at_rest, Footing, TendsWhere}
use Rattle.zk_trees.specs.declared.tree.Trees.{Trees}
use Rattle.zk_calls.specs.declared.entry.Entry.{Entry}
use Rattle.zk_calls.specs.declared.entry.Ending.TheVariants.{Late}
use Rattle.zk_calls.specs.Lines.{ended, is_ended}
use Rattle.zk_calls.proofs.Orders.{all_left}
use Rattle.zk_agent.specs.declared.action.Action.{Action}
use Rattle.zk_agent.specs.declared.agent.Agent.{Agent}
use Rattle.zk_agent.specs.declared.frames.Frames.{Frames}
use Rattle.zk_agent.specs.declared.input.AgentInput.{AgentInput}
use Rattle.zk_agent.specs.declared.input.AgentInput.TheVariants as happens
use Rattle.zk_agent.specs.Agents.{moves_of, noted, papers_in, trail_of, Comes, Hears, IsDecided, Presents, TakesSo, Trail}
use Rattle.zk_agent.specs.inner.Agents.{Acts}
use Rattle.zk_agent.specs.Calls.{IsInTime}
use Rattle.zk_agent.specs.Credentials.{all_written, before_bytes, judging_of, papers_of, unwritten, with_judging, Judging, Papers}
use Rattle.zk_agent.specs.Replies.{heard_in}
use Rattle.zk_agent.specs.Telling.{news_told, Told}
use Rattle.zk_agent.specs.Trees.{GoesOn}
use Rattle.zk_agent.specs.Waits.{none_sent, waited_after, Waited}
use Rattle.zk_agent.proofs.Lines.{late_left}
use Rattle.zk_agent.proofs.Moves.{after, gives, hears_and}

-- ---- the client

-- nothing is told, and the line hears nothing
pub takes : {A : Type 0} (now : ℕ) (view after : View) (old new : List (Subject A)) (line new_line : List (Entry A)) (told : List Told)
    → Steps now view (turns.Now now) old after [] old → new ≡ old → map (told_of after) old ≡ old → flat_map (news_in after []) old ≡ []
    → new_line ≡ line → TakesSo now (turns.Now now) view old line told after new new_line told (heard_in [])
takes now view after old new line new_line told steps same stays none line_same = record {
  given = [];
  stepped = old;
  steps = steps;
  subjects = same ∙ sym stays;
  line = line_same;
  told = sym (ap (λ news. (told ++ []) ++ map news_told news) none ∙ append-nil (told ++ []) ∙ append-nil told);
  heard = refl;
}

none_waits : (now : ℕ) (waited : Waited) → waited_after now (none_sent false) waited ≡ waited
none_waits now waited =
    ap (λ calls. record waited { calls = calls; pings = waited.pings ++ [] }) (append-nil waited.calls)
    ∙ ap (λ pings. record waited { pings = pings }) (append-nil waited.pings)

pub idles : {A : Type 0} (now : ℕ) (old new : Trail A)
    → TakesSo now (turns.Now now) old.view old.subjects old.line old.told new.view new.subjects new.line old.told (heard_in [])
    → new.dialler ≡ noted new.view.saved.session.timeout now new.view.standing.state old.dialler → new.timeout ≡ old.timeout
    → new.waits ≡ old.waits → new.told ≡ old.told → new.view.saved.last ≡ old.view.saved.last
    → Acts now (Hears now (turns.Now now) ∷ []) old new
idles now old new takes dialler timeout waits told last =
    hears_and now (turns.Now now) old new (record {
      may = tt;
      timeout = timeout;
      heard = heard_in [];
      told = old.told;
      takes = takes;
      lets_go = (dialler, told);
      waits = waits ∙ sym (none_waits now old.waits);
    }) refl last

-- ---- credentials: none is judged, and none is left to be written

judges_none : {A : Type 0} (agent : Agent A) (there : Bool) (state : State) (came : Frames) (papers : Papers)
    → judging_of {A = A} there state came happens.Moment papers ≡ before_bytes state came papers
judges_none agent true state came papers = refl
judges_none agent false state came papers = refl

module _ {A : Type 0} (agent : Agent A) where
  abbrev papers : Papers
  papers = papers_of agent.credentials

  none_judged : judging_of {A = A} (is_open agent.dialler.phase) (view_of agent.asker.follower.client).standing.state agent.waits.came
      happens.Moment papers ≡ before_bytes (view_of agent.asker.follower.client).standing.state agent.waits.came papers
  none_judged =
      judges_none agent (is_open agent.dialler.phase) (view_of agent.asker.follower.client).standing.state agent.waits.came papers

  papers_same : papers_in happens.Moment agent ≡ papers
  papers_same = ap (λ (j : Judging). with_judging j papers) none_judged

  all_are_written : (there : Bool) → there ≡ true → papers.written ≡ length papers.frames
      → papers ≡ all_written there (papers_in happens.Moment agent)
  all_are_written there is_there written =
      ap (λ n. record papers { written = n }) written ∙ ap (λ b. all_written b papers) (sym is_there)
      ∙ ap (all_written there) (sym papers_same)

  idle_moves : (now : ℕ) (there : Bool) → there ≡ true → papers.written ≡ length papers.frames
      → moves_of there now happens.Moment agent ≡ Hears now (turns.Now now) ∷ Presents [] [] ∷ []
  idle_moves now there is_there written =
      ap (λ (j : Judging). Hears now (turns.Now now) ∷ Presents j.1.judged (unwritten there (with_judging j papers)) ∷ []) none_judged
      ∙ ap (λ b. Hears now (turns.Now now) ∷ Presents [] (unwritten b papers) ∷ []) is_there
      ∙ ap (λ l. Hears now (turns.Now now) ∷ Presents [] l ∷ []) (drop_all papers.written papers.frames (omega (arith, written)))

  -- ---- a step

  idle_comes : (now : ℕ) (new : Agent A) → is_open new.dialler.phase ≡ true → papers.written ≡ length papers.frames
      → Acts now (Hears now (turns.Now now) ∷ []) (trail_of agent []) (trail_of new [])
      → Comes now (moves_of (is_open new.dialler.phase) now happens.Moment agent) (trail_of agent []) (trail_of new [])
  idle_comes now new is_there written acts =
      subst (λ ms. Comes now ms (trail_of agent []) (trail_of new [])) (sym (idle_moves now (is_open new.dialler.phase) is_there written))
      (after now (Hears now (turns.Now now) ∷ []) (Presents [] [] ∷ []) (trail_of agent []) (trail_of new []) (trail_of new []) acts
      (gives now (Presents [] []) (trail_of new []) (trail_of new []) refl refl tt refl)).comes

  abbrev footing : Footing A
  footing = record {
    view = view_of agent.asker.follower.client;
    subjects = agent.asker.follower.subjects.items;
    told = [];
    next = agent.trees.next;
  }

  idle_trees : (now : ℕ) (new : Agent A) → are_at_rest now agent.trees ≡ true → new.trees ≡ agent.trees
      → Comes now (moves_of (is_open new.dialler.phase) now happens.Moment agent) (trail_of agent []) (trail_of new [])
      → GoesOn now happens.Moment agent new []
  idle_trees now new rest same comes = record {
    grown = trail_of agent [];
    trees = agent.trees;
    grows = record {
      between = agent.trees;
      tended = footing;
      tends = subst (λ b. TendsWhere b now agent.trees agent.trees footing footing) (sym rest) (refl, refl, refl);
      altered = footing;
      alters = (refl, refl);
      next = refl;
      last = refl;
    };
    rest = comes;
    told = refl;
    noted = ap (λ (t : Trees A). t.all.items) same;
    next = ap (λ (t : Trees A). t.next) same;
    due = ap (λ (t : Trees A). t.due) same;
  }

-- ---- limits, and the connection

pub in_time : {A : Type 0} (now : ℕ) (entries : List (Entry A)) → ended (Late now) entries ≡ [] → All (IsInTime now) entries
in_time now entries none = subst (All (IsInTime now)) (all_left (is_ended (Late now)) entries none) (late_left now entries)

not_due : {A : Type 0} (now : ℕ) (dialler : Dialler A) → is_open dialler.phase ≡ true → false ≡ is_due now dialler
not_due {A} now dialler is_there = by dialler.phase is_there
  where
    by : (phase : Phase) → is_open phase ≡ true → false ≡ has_come now (elim phase [
      | Waiting ↦ if is_empty_list dialler.ring.order.items then None else Some dialler.backoff.moment
      | Dialling began until ↦ Some until
      | Open ↦ None
    ])
    by Waiting e = absurd cc
    by (Dialling began until) e = absurd cc
    by Open e = refl

idle_decided : {A : Type 0} (now : ℕ) (new : Agent A) → is_open new.dialler.phase ≡ true → IsDecided now (trail_of new [])
idle_decided now new is_there = record {
  before = new.dialler;
  due = None;
  dials = refl;
  all = not_due now new.dialler is_there;
  rest = [];
  told = refl;
}

-- of an input that is the moment, where nothing is said
module _ {A : Type 0} (now : ℕ) (input : AgentInput A) (agent new : Agent A) (said : List (Action A)) (moment : input ≡ happens.Moment)
    (silent : said ≡ []) (is_there : is_open new.dialler.phase ≡ true)
    (written : (papers_of agent.credentials).written ≡ length (papers_of agent.credentials).frames) where
  pub comes_idle : Acts now (Hears now (turns.Now now) ∷ []) (trail_of agent []) (trail_of new [])
      → Comes now (moves_of (is_open new.dialler.phase) now input agent) (trail_of agent []) (trail_of new said)
  comes_idle acts =
      subst (λ l. Comes now (moves_of (is_open new.dialler.phase) now input agent) (trail_of agent []) (trail_of new l)) (sym silent)
      (subst (λ i. Comes now (moves_of (is_open new.dialler.phase) now i agent) (trail_of agent []) (trail_of new [])) (sym moment)
      (idle_comes agent now new is_there written acts))

  pub trees_idle : are_at_rest now agent.trees ≡ true → new.trees ≡ agent.trees
      → Acts now (Hears now (turns.Now now) ∷ []) (trail_of agent []) (trail_of new []) → GoesOn now input agent new said
  trees_idle rest same acts =
      subst (GoesOn now input agent new) (sym silent)
      (subst (λ i. GoesOn now i agent new []) (sym moment)
      (idle_trees agent now new rest same (idle_comes agent now new is_there written acts)))

  pub papers_idle : new.credentials ≡ agent.credentials
      → papers_of new.credentials ≡ all_written (is_open new.dialler.phase) (papers_in input agent)
  papers_idle same =
      ap papers_of same ∙ all_are_written agent (is_open new.dialler.phase) is_there written
      ∙ ap (λ i. all_written (is_open new.dialler.phase) (papers_in i agent)) (sym moment)

  pub decided_idle : IsDecided now (trail_of new said)
  decided_idle = subst (λ l. IsDecided now (trail_of new l)) (sym silent) (idle_decided now new is_there)

-- a state that is not another one
pub other_state : (state here there : State) → state ≡ here → here ≢ there → state ≢ there
other_state state here there is differs other = differs (sym is ∙ other)
