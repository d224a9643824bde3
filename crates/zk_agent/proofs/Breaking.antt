-- Where memory runs out within a step, the client has gone on by turns and renewals until then: what moves have made of it is known, and
-- what follows them is one chain with them.
use Rattle.std.proofs.Common.{◌≡◌, ◌++◌, ℕ, ℤ, Bool, true, false, List, [], ◌∷◌, map, refl, inl, sym, ap, subst}
use Rattle.std.specs.Prelude.{Result, Ok, Err, OnErr}
use Rattle.std.specs.List.{FoldsTo}
use Rattle.zk_turns.specs.Turns.{Input, Now, Turn}
use Rattle.zk_turns.specs.Turns as turns
use Rattle.zk_turns.specs.View.{View, view_at}
use Rattle.zk_session.specs.declared.states.State.TheVariants.{Expired}
use Rattle.zk_client.specs.Clients.{renewed_start}
use Rattle.zk_turns.specs.Rule.{Rule}
use Rattle.zk_follow.specs.declared.subject.Subject.{Subject}
use Rattle.zk_follow.specs.Following.{doubted, Steps}
use Rattle.zk_follow.specs.Following as follow
use Rattle.zk_agent.specs.Agents.{Advance, ByTurn, ByRenewal, Advances, BreaksOff, Trail, Move, Hears, Hands, Renews, Follows, Unfollows}
use Rattle.zk_agent.specs.Agents.{Asks, GivesUp, LeavesLate, Opened, Ended, HungUp, Addressed}
use Rattle.zk_agent.specs.Agents.{Decides, Closes, Tends, Presents, Does, Comes}
use Rattle.zk_agent.specs.Agents.{HearsSo}
use Rattle.zk_agent.specs.Agents.{rises, DoubtsWhere, LeavesWhere}
use Rattle.zk_agent.specs.inner.Agents.{Acts}
use Rattle.zk_agent.proofs.Moves.{stays_by}

-- how a client went on
abbrev Went : (timeout : ℤ) → View → View → Type 0
Went timeout view after = (advances : List Advance) × FoldsTo (Advances timeout) view advances after

chain_on : (timeout : ℤ) (first second : List Advance) (view between after : View) → FoldsTo (Advances timeout) view first between
    → FoldsTo (Advances timeout) between second after → FoldsTo (Advances timeout) view (first ++ second) after
chain_on timeout [] second view between after same rest = rw same rest
chain_on timeout (one ∷ first) second view between after chain rest =
    (chain.0, chain.1, chain_on timeout first second chain.0 between after chain.2 rest)

went_on : (timeout : ℤ) (view between after : View) → Went timeout view between → Went timeout between after → Went timeout view after
went_on timeout view between after first second =
    (first.0 ++ second.0, chain_on timeout first.0 second.0 view between after first.1 second.1)

stayed : (timeout : ℤ) (view after : View) → after ≡ view → Went timeout view after
stayed timeout view after same = ([], sym same)

by_turns : (timeout : ℤ) (steps : List Turn) (view after : View) → FoldsTo Rule view steps after
    → FoldsTo (Advances timeout) view (map ByTurn steps) after
by_turns timeout [] view after same = same
by_turns timeout (turn ∷ steps) view after chain = (chain.0, chain.1, by_turns timeout steps chain.0 after chain.2)

-- ---- what a step of the client and its subjects has led to

went_steps : {A : Type 0} (timeout : ℤ) (now : ℕ) (view : View) (input : Input) (old : List (Subject A)) (after : View)
    (given : List turns.Output) (new : List (Subject A)) → Steps now view input old after given new → Went timeout view after
went_steps timeout now view input old after given new steps =
    let all : List Turn = record { input = Now now; outputs = steps.first }
    ∷ record { input = input; outputs = steps.second } ∷ steps.calls in
    (map ByTurn all, by_turns timeout all view after steps.chain)

went_hears : {A : Type 0} (timeout : ℤ) (now : ℕ) (input : Input) (old new : Trail A) → HearsSo now input old new
    → Went timeout old.view new.view
went_hears timeout now input old new does =
    went_steps timeout now old.view input old.subjects new.view does.takes.given does.takes.stepped does.takes.steps

went_leaves : {A : Type 0} (timeout : ℤ) (is_lost : Bool) (now : ℕ) (old new : Trail A) → LeavesWhere is_lost now old new
    → Went timeout old.view new.view
went_leaves timeout true now old new leaves = went_hears timeout now turns.Cut old new leaves
went_leaves {A} timeout false now old new same = stayed timeout old.view new.view (ap (λ (t : Trail A). t.view) same)

went_doubts : {A : Type 0} (timeout : ℤ) (is_risen : Bool) (now : ℕ) (old new : Trail A) → DoubtsWhere is_risen now old new
    → Went timeout old.view new.view
went_doubts timeout true now old new doubts =
    went_hears timeout now (turns.Now now) (record old { subjects = map doubted old.subjects }) new doubts
went_doubts {A} timeout false now old new same = stayed timeout old.view new.view (ap (λ (t : Trail A). t.view) same)

-- ---- what moves have led to

went_by : {A : Type 0} (move : Move) (old new : Trail A) → Does old move new → Went old.timeout old.view new.view
went_by (Hears now input) old new does =
    went_on old.timeout old.view does.between.view new.view (went_hears old.timeout now input old does.between does.hears)
    (went_on old.timeout does.between.view does.after.view new.view
    (went_leaves old.timeout does.hears.heard.is_lost now does.between does.after does.leaves)
    (went_doubts old.timeout (rises old.view.saved.last does.after.view.saved.last) now does.after new does.doubts))
went_by (Hands now ticket asked) old new does = went_hears old.timeout now (turns.Call ticket asked) old new does
went_by Renews old new does = (ByRenewal ∷ [], (new.view, (does.expired, does.view), refl))
went_by {A} (Follows ticket side path) old new does = stayed old.timeout old.view new.view (ap (λ (t : Trail A). t.view) does)
went_by {A} (Unfollows ticket) old new does = stayed old.timeout old.view new.view (ap (λ (t : Trail A). t.view) does)
went_by {A} (Asks ticket asked until) old new does = stayed old.timeout old.view new.view (ap (λ (t : Trail A). t.view) does.last)
went_by {A} (GivesUp now) old new does = stayed old.timeout old.view new.view (ap (λ (t : Trail A). t.view) does)
went_by {A} (LeavesLate now) old new does =
    subst (λ view. Went old.timeout old.view view) (sym (ap (λ (t : Trail A). t.view) does.last))
    (subst (λ view. Went old.timeout view does.after.view) (ap (λ (t : Trail A). t.view) does.hangs)
    (went_hears old.timeout now turns.Cut does.between does.after does.hears))
went_by {A} (Opened now) old new does = stayed old.timeout old.view new.view (ap (λ (t : Trail A). t.view) does.1)
went_by {A} (Ended now) old new does = stayed old.timeout old.view new.view (ap (λ (t : Trail A). t.view) does.1)
went_by {A} HungUp old new does = stayed old.timeout old.view new.view (ap (λ (t : Trail A). t.view) does)
went_by {A} (Addressed kept added is_listed) old new does = stayed old.timeout old.view new.view (ap (λ (t : Trail A). t.view) does.1)
went_by {A} (Decides now due) old new does = stayed old.timeout old.view new.view (ap (λ (t : Trail A). t.view) does.last)
went_by {A} Closes old new does = stayed old.timeout old.view new.view (ap (λ (t : Trail A). t.view) does.last)
went_by {A} (Tends told) old new does = stayed old.timeout old.view new.view (ap (λ (t : Trail A). t.view) does)
went_by {A} (Presents judged frames) old new does = stayed old.timeout old.view new.view (ap (λ (t : Trail A). t.view) does)

went_through : {A : Type 0} (moves : List Move) (old new : Trail A) → FoldsTo Does old moves new → Went old.timeout old.view new.view
went_through {A} [] old new same = stayed old.timeout old.view new.view (sym (ap (λ (t : Trail A). t.view) same))
went_through (move ∷ moves) old new does =
    went_on old.timeout old.view does.0.view new.view (went_by move old does.0 does.1)
    (subst (λ timeout. Went timeout does.0.view new.view) (stays_by move old does.0 does.1) (went_through moves does.0 new does.2))

-- ---- where memory ran out

after_went : (timeout : ℤ) (view here new : View) → Went timeout view here → BreaksOff timeout here new → BreaksOff timeout view new
after_went timeout view here new went broke = record {
  advances = went.0 ++ broke.advances;
  here = broke.here;
  chain = chain_on timeout went.0 broke.advances view here broke.here went.1 broke.chain;
  ends = broke.ends;
}

-- the client stands where it stood
pub beside : (timeout : ℤ) (view new : View) → new ≡ view → BreaksOff timeout view new
beside timeout view new same = record { advances = []; here = view; chain = refl; ends = inl same }

-- as of a step of the client and its subjects
pub of_client : (timeout : ℤ) (view new : View) → follow.BreaksOff view new → BreaksOff timeout view new
of_client timeout view new broke = record {
  advances = map ByTurn broke.turns;
  here = broke.here;
  chain = by_turns timeout broke.turns view broke.here broke.chain;
  ends = broke.ends;
}

-- after moves, and after one that was heard
pub after_comes : {A : Type 0} (now : ℕ) (given : List Move) (old between : Trail A) (new : View) → Comes now given old between
    → BreaksOff between.timeout between.view new → BreaksOff old.timeout old.view new
after_comes now given old between new comes broke =
    after_went old.timeout old.view between.view new (went_through comes.moves old between comes.does)
    (subst (λ timeout. BreaksOff timeout between.view new) comes.timeout broke)

pub after_acts : {A : Type 0} (now : ℕ) (given : List Move) (old between : Trail A) (new : View) → Acts now given old between
    → BreaksOff between.timeout between.view new → BreaksOff old.timeout old.view new
after_acts now given old between new acts broke = after_comes now given old between new acts.comes broke

pub after_hears : {A : Type 0} (now : ℕ) (input : Input) (old between : Trail A) (new : View) → HearsSo now input old between
    → BreaksOff between.timeout between.view new → BreaksOff old.timeout old.view new
after_hears now input old between new hears broke =
    after_went old.timeout old.view between.view new (went_hears old.timeout now input old between hears)
    (subst (λ timeout. BreaksOff timeout between.view new) hears.timeout broke)

pub after_leaves : {A : Type 0} (is_lost : Bool) (now : ℕ) (old between : Trail A) (new : View) → LeavesWhere is_lost now old between
    → BreaksOff between.timeout between.view new → BreaksOff old.timeout old.view new
after_leaves true now old between new leaves broke = after_hears now turns.Cut old between new leaves broke
after_leaves {A} false now old between new same broke = subst (λ (t : Trail A). BreaksOff t.timeout t.view new) same broke

-- after a step of the client and its subjects
pub after_steps : {A : Type 0} (timeout : ℤ) (now : ℕ) (view : View) (input : Input) (old : List (Subject A)) (after : View)
    (given : List turns.Output) (new_subjects : List (Subject A)) (new : View) → Steps now view input old after given new_subjects
    → new ≡ after → BreaksOff timeout view new
after_steps timeout now view input old after given new_subjects new steps same =
    after_went timeout view after new (went_steps timeout now view input old after given new_subjects steps) (beside timeout after new same)

-- after a renewal
pub after_renewal : (timeout : ℤ) (view new : View) → view.standing.state ≡ Expired
    → new ≡ view_at (renewed_start timeout view) [] → BreaksOff timeout view new
after_renewal timeout view new expired is = record {
  advances = ByRenewal ∷ [];
  here = new;
  chain = (new, (expired, is), refl);
  ends = inl refl;
}

-- ---- results

pub err_always : {X E P : Type 0} (result : Result X E) → P → OnErr result P
err_always (Ok x) p = tt
err_always (Err e) p = p

pub err_so : {X E P Q : Type 0} (result : Result X E) → (P → Q) → OnErr result P → OnErr result Q
err_so (Ok x) so p = tt
err_so (Err e) so p = so p
