-- What a session follows, use by use: what was asked for and told, the trees that were asked for, and the nodes that were told of each.
use Rattle.std.proofs.Common.{◌≡◌, ◌∷◌, ℕ, zero, suc, ℤ, pos, negsuc, true, false, List, [], Option, Some, None}
use Rattle.std.proofs.Common.{inl, inr, refl, sym, ap, subst, ◌∙◌, true≢false}
use Rattle.std.specs.Prelude.{◌<◌, ◌^◌, Result, Ok, Err, unsigned_abs}
use Rattle.std.specs.declared.alloc.Global.{Global}
use Rattle.zk_nodes.specs.Path.{Text}
use Rattle.zk_nodes.specs.declared.side.Side.{Side}
use Rattle.zk_frames.specs.declared.limits.FrameLimits.{FrameLimits}
use Rattle.zk_trees.specs.declared.tree.Trees.{Trees}
use Rattle.zk_turns.specs.Turns.{Start, new_start}
use Rattle.zk_turns.specs.View.{view_at}
use Rattle.zk_client.specs.SavedSessions.{PutAway, bytes_read}
use Rattle.zk_client.specs.declared.saved_fault.SavedFault.{SavedFault}
use Rattle.zk_agent.specs.declared.agent.Agent.{Agent}
use Rattle.ffi_device.specs.Refused.{RefusesTimeout}
use Rattle.ffi_device.specs.Sessions.{put_start}
use Rattle.ffi_device.specs.declared.flat.Flat.{Flat}
use Rattle.ffi_device.specs.Happenings.{Happening}
use Rattle.ffi_device.specs.Steps.{BeginsWith, Stepped, Stopped, within}
use Rattle.ffi_device.specs.declared.device.Device.{Device}
use Rattle.ffi_c.specs.Held.{ForgetsStale, Makes, Tells, TellsAll}
use Rattle.ffi_c.specs.Lives.{Use, Opens, Resumes, Steps, Reads, ReadsAll, Forgets, Looks, Frees, Does as Uses_so}
use Rattle.ffi_c.specs.Lives.{Used, held_after, IsLife, RefusesHappening}
use Rattle.ffi_c.specs.Followed.{AreApart, Asks, IsOneTree, Node, OneHandIsApart, Plant, PlantsOne, TellsNone, ToldForLife, followed_by}
use Rattle.ffi_c.specs.Followed.{is_planted, known, known_by, nodes, nodes_by, nodes_of, planted, planted_by, plants_in}
use Rattle.ffi_c.proofs.Followed.{step_sides}
use Rattle.ffi_c.proofs.Lives.{empty_holds_none, in_held}
use Rattle.ffi_c.proofs.NodeSteps.{none_planted, once_on, step_nodes, IsOnce, Sound}
use Rattle.ffi_c.proofs.Nodes.{AreSound}
use Rattle.ffi_c.proofs.Planted.{plants_at, step_plants}

abbrev Sides : Type 0
Sides = List (Side × Text)

-- what is so of a session while memory has not run out within a step
record Follows (sides : ℕ → Sides) (nodes : ℕ → List Node) (Apart OneTree : ℕ → Type 0) (plants : List Plant) (session : Device)
    : Type 0 where
  followed : (ticket : ℕ) → Apart ticket → followed_by ticket session.agent.asker.follower.subjects.items ≡ sides ticket
  trees : plants_in session.agent.trees.all.items ≡ plants
  nodes_are : (tree : ℕ) → tree < 2 ^ 63 → OneTree tree
      → (nodes_of tree session.agent.trees.all.items ≡ nodes tree) × Sound tree session.agent.trees

abbrev IsApart : (ticket : ℕ) → Use → (after : Option Device) → Type 0
IsApart ticket used after = Asks ticket used true → TellsNone ticket used after

abbrev FollowsIn : (sides : ℕ → Sides) (nodes : ℕ → List Node) (Apart OneTree : ℕ → Type 0) → List Plant → Option Device → Type 0
FollowsIn sides nodes Apart OneTree plants held =
    (session : Device) → held ≡ Some session → session.is_over ≡ false → Follows sides nodes Apart OneTree plants session

-- nothing is followed yet
abbrev BeginsIn : (Apart OneTree : ℕ → Type 0) → Option Device → Type 0
BeginsIn Apart OneTree held = FollowsIn (λ ticket. []) (λ tree. []) Apart OneTree [] held

begun : (start : Start) (Apart OneTree : ℕ → Type 0) (session : Device) → BeginsWith (view_at start []) session
    → Follows (λ ticket. []) (λ tree. []) Apart OneTree [] session
begun start Apart OneTree session begins = record {
  followed = λ ticket apart. ap (followed_by ticket) begins.subjects;
  trees = ap plants_in begins.trees;
  nodes_are = λ tree low once. (
    ap (nodes_of tree) begins.trees,
    record {
      low = subst (λ n. tree < n) (sym begins.next) low;
      sound = subst (AreSound tree session.agent.trees.next) (sym begins.trees) tt;
    },
  );
}

made : (Refuses : ℤ → Type 0) (start : Start) (Apart OneTree : ℕ → Type 0) (code : ℤ) (after : Option Device)
    → Makes Refuses start code after → BeginsIn Apart OneTree after
made Refuses start Apart OneTree (pos zero) after makes session is on =
    begun start Apart OneTree session (in_held (BeginsWith (view_at start [])) session after makes is)
made Refuses start Apart OneTree (pos (suc n)) after makes session is on = empty_holds_none session after makes.1 is
made Refuses start Apart OneTree (negsuc n) after makes session is on = empty_holds_none session after makes.1 is

resumed : (limits : FrameLimits) (timeout : ℤ) (saved : List ℕ) (code : ℤ) (before after : Option Device) (Apart OneTree : ℕ → Type 0)
    (read : Result PutAway SavedFault) → bytes_read saved ≡ read → Uses_so before (Resumes limits timeout saved code) after
    → BeginsIn Apart OneTree after
resumed limits timeout saved code before after Apart OneTree (Ok put) reads does session is on =
    made (RefusesTimeout timeout) (within limits (put_start timeout put)) Apart OneTree code after (does.0 put reads) session is on
resumed limits timeout saved code before after Apart OneTree (Err fault) reads does session is on =
    empty_holds_none session after (does.1 fault reads) is

-- Of the trees that were asked for one at most has such a ticket.
module _ (sides : ℕ → Sides) (nodes : ℕ → List Node) (Apart OneTree : ℕ → Type 0) (plants : List Plant)
    (is_once : (tree : ℕ) → OneTree tree → IsOnce tree plants) where
  abbrev Was : Device → Type 0
  Was session = Follows sides nodes Apart OneTree plants session

  abbrev WasIn : Option Device → Type 0
  WasIn held = FollowsIn sides nodes Apart OneTree plants held

  -- what is so once this was used
  abbrev IsOne : Use → (after : Option Device) → Device → Type 0
  IsOne used after session = Follows (λ ticket. known_by ticket used after (sides ticket)) (λ tree. nodes_by tree used after (nodes tree))
      (λ ticket. IsApart ticket used after × Apart ticket) (λ tree. PlantsOne tree used plants × OneTree tree)
      (planted_by used plants) session

  abbrev IsThen : Use → (after : Option Device) → Type 0
  IsThen used after = (session : Device) → after ≡ Some session → session.is_over ≡ false → IsOne used after session

  -- the same after a use that changes nothing of it
  unless : (used : Use) (held : Option Device) → WasIn held
      → FollowsIn sides nodes (λ ticket. IsApart ticket used held × Apart ticket) (λ tree. PlantsOne tree used plants × OneTree tree)
      plants held
  unless used held was session is on =
      let here = was session is on in record {
        followed = λ ticket apart. here.followed ticket apart.1;
        trees = here.trees;
        nodes_are = λ tree low once. here.nodes_are tree low once.1;
      }

  -- what is followed by an agent that has the same subjects and trees
  kept : (old session : Device) → session.agent.asker.follower.subjects ≡ old.agent.asker.follower.subjects
      → session.agent.trees ≡ old.agent.trees → Was old → Was session
  kept old session subjects trees was = record {
    followed = λ ticket apart. ap (λ s. followed_by ticket s.items) subjects ∙ was.followed ticket apart;
    trees = ap (λ (t : Trees Global). plants_in t.all.items) trees ∙ was.trees;
    nodes_are = λ tree low once.
        subst (λ (t : Trees Global). (nodes_of tree t.all.items ≡ nodes tree) × Sound tree t) (sym trees) (was.nodes_are tree low once);
  }

  same_agent : (old session : Device) → session.agent ≡ old.agent → Was old → Was session
  same_agent old session same was =
      kept old session (ap (λ (a : Agent Global). a.asker.follower.subjects) same) (ap (λ (a : Agent Global). a.trees) same) was

  stepped : (moment : ℕ) (what : Happening) (old now : Device) → Was old → Stepped moment what old now
      → IsOne (Steps moment what (pos zero)) (Some now) now
  stepped moment what old now was does = record {
    followed = λ ticket apart. step_sides ticket moment what old now does apart.0
        ∙ ap (λ b. known_by ticket (Steps moment what (pos zero)) (Some now) b) (was.followed ticket apart.1);
    trees = step_plants moment what old now does ∙ ap (λ b. planted_by (Steps moment what (pos zero)) b) was.trees;
    nodes_are = λ tree low once.
        let here = was.nodes_are tree low once.1 in
        let leads = step_nodes tree moment what old now does (subst (IsOnce tree) (sym was.trees) (is_once tree once.1)) here.1
        (λ asks. none_planted tree (plants_at old.agent) (ap (is_planted tree) was.trees ∙ once.0 asks)) in
        (sym leads.0 ∙ ap (λ b. nodes_by tree (Steps moment what (pos zero)) (Some now) b) here.0, leads.1);
  }

  steps : (moment : ℕ) (what : Happening) (code : ℤ) (before after : Option Device)
      → WasIn before → Uses_so before (Steps moment what code) after → IsThen (Steps moment what code) after
  steps moment what code None after was does = λ session is on. empty_holds_none session after does.empty is
  steps moment what (pos zero) (Some old) after was does = λ session is on.
      let here = in_held (Stepped moment what old) session after does is in
      subst (λ h. IsOne (Steps moment what (pos zero)) h session) (sym is)
      (stepped moment what old session (was old refl here.took.went_on) here)
  steps moment what (negsuc zero) (Some old) after was does = λ session is on.
      let here = in_held (Stopped old) session after does is in
      absurd (let e : true ≡ false = sym here.over ∙ on in cc)
  steps moment what (pos (suc n)) (Some old) after was does =
      unless (Steps moment what (pos (suc n))) after (λ session is on.
      let same = (in_held (λ session. RefusesHappening what (pos (suc n)) × (session ≡ old)) session after does is).1 in
      subst Was (sym same) (was old refl (ap (λ (d : Device). d.is_over) (sym same) ∙ on)))
  steps moment what (negsuc (suc n)) (Some old) after was does =
      unless (Steps moment what (negsuc (suc n))) after (λ session is on.
      let same = (in_held (λ session. RefusesHappening what (negsuc (suc n)) × (session ≡ old)) session after does is).1 in
      subst Was (sym same) (was old refl (ap (λ (d : Device). d.is_over) (sym same) ∙ on)))

  reads : (room told : Flat) (code : ℤ) (before after : Option Device)
      → WasIn before → Uses_so before (Reads room told code) after → WasIn after
  reads room told code None after was does session is on = empty_holds_none session after does.empty is
  reads room told code (Some old) after was does session is on =
      let tells = in_held (λ s. Tells old room code told s) session after does is in
      same_agent old session tells.agent (was old refl (sym tells.over ∙ on))

  reads_all : (room written : List ℕ) (count : ℕ) (code : ℤ) (before after : Option Device)
      → WasIn before → Uses_so before (ReadsAll room written count code) after → WasIn after
  reads_all room written count code None after was does session is on = empty_holds_none session after does.empty is
  reads_all room written count (pos zero) (Some old) after was does session is on =
      let tells = in_held (TellsAll old room written count (pos zero)) session after does is in
      same_agent old session tells.agent (was old refl (sym tells.over ∙ on))
  reads_all room written count (pos (suc n)) (Some old) after was does session is on =
      was session (ap Some (sym (in_held (TellsAll old room written count (pos (suc n))) session after does is).3)) on
  reads_all room written count (negsuc n) (Some old) after was does session is on =
      was session (ap Some (sym (in_held (TellsAll old room written count (negsuc n)) session after does is).3)) on

  forgets : (code : ℤ) (before after : Option Device) → WasIn before → Uses_so before (Forgets code) after → WasIn after
  forgets code None after was does session is on = empty_holds_none session after does.empty is
  forgets code (Some old) after was does session is on =
      let gone = (in_held (ForgetsStale old code) session after does is).forgot in
      kept old session gone.subjects gone.trees (was old refl (sym gone.over ∙ on))

  one : (used : Use) (before after : Option Device) → WasIn before → Uses_so before used after → IsThen used after
  one (Opens limits timeout code) before after was does =
      made (RefusesTimeout timeout) (within limits (new_start (unsigned_abs timeout)))
      (λ ticket. IsApart ticket (Opens limits timeout code) after × Apart ticket)
      (λ tree. PlantsOne tree (Opens limits timeout code) plants × OneTree tree) code after does
  one (Resumes limits timeout saved code) before after was does =
      resumed limits timeout saved code before after (λ ticket. IsApart ticket (Resumes limits timeout saved code) after × Apart ticket)
      (λ tree. PlantsOne tree (Resumes limits timeout saved code) plants × OneTree tree) (bytes_read saved) refl does
  one (Steps moment what code) before after was does = steps moment what code before after was does
  one (Reads room told code) before after was does =
      unless (Reads room told code) after (reads room told code before after was does)
  one (ReadsAll room written count code) before after was does =
      unless (ReadsAll room written count code) after (reads_all room written count code before after was does)
  one (Forgets code) before after was does = unless (Forgets code) after (forgets code before after was does)
  one Looks before after was does = unless Looks after (λ session is on. was session (sym does ∙ is) on)
  one Frees before after was does = λ session is on. empty_holds_none session after does is

-- A program follows one tree at most by such a ticket.
once_planted : (tree : ℕ) (uses : List Used) → IsOneTree tree uses → IsOnce tree (planted uses)
once_planted tree [] once = tt
once_planted tree (used ∷ earlier) once = by used.use_of once.0 (once_planted tree earlier once.1)
  where
    by : (its : Use) → PlantsOne tree its (planted earlier) → IsOnce tree (planted earlier) → IsOnce tree (planted_by its (planted earlier))
    by (Opens limits timeout code) here once = tt
    by (Resumes limits timeout saved code) here once = tt
    by (Steps moment what (pos zero)) here once =
        once_on tree what (planted earlier) once (λ asks. none_planted tree (planted earlier) (here asks))
    by (Steps moment what (pos (suc n))) here once = once
    by (Steps moment what (negsuc n)) here once = once
    by (Reads room told code) here once = once
    by (ReadsAll room written count code) here once = once
    by (Forgets code) here once = once
    by Looks here once = once
    by Frees here once = once

follows_in : (uses : List Used) → IsLife uses
    → FollowsIn (λ ticket. known ticket uses) (λ tree. nodes tree uses) (λ ticket. AreApart ticket uses) (λ tree. IsOneTree tree uses)
    (planted uses) (held_after uses)
follows_in [] lived session is on = absurd (let e : None ≡ Some session = is in cc)
follows_in (used ∷ earlier) lived session is on =
    one (λ ticket. known ticket earlier) (λ tree. nodes tree earlier) (λ ticket. AreApart ticket earlier) (λ tree. IsOneTree tree earlier)
    (planted earlier) (λ tree is_one. once_planted tree earlier is_one) used.use_of (held_after earlier) used.held
    (follows_in earlier lived.1) lived.0 session is on

pub told_for_life : ToldForLife
told_for_life uses session lived is on =
    let follows = follows_in uses lived session is on in record {
      followed = follows.followed;
      trees = follows.trees;
      nodes_are = λ tree low once. (follows.nodes_are tree low once).0;
    }

pub one_hand_is_apart : OneHandIsApart
one_hand_is_apart ticket [] one = tt
one_hand_is_apart ticket (used ∷ uses) (inl never) =
    ((λ asks. absurd (both used.use_of asks never.0)), one_hand_is_apart ticket uses (inl never.1))
  where
    both : (its : Use) → Asks ticket its true → Asks ticket its false → ⊥
    both (Steps moment what code) asks never = true≢false (sym asks ∙ never)
    both (Opens limits timeout code) asks never = true≢false asks
    both (Resumes limits timeout saved code) asks never = true≢false asks
    both (Reads room told code) asks never = true≢false asks
    both (ReadsAll room written count code) asks never = true≢false asks
    both (Forgets code) asks never = true≢false asks
    both Looks asks never = true≢false asks
    both Frees asks never = true≢false asks
one_hand_is_apart ticket (used ∷ uses) (inr none) = ((λ asks. none.0), one_hand_is_apart ticket uses (inr none.1))
