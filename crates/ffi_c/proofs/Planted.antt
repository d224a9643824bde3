-- Which trees a session has, step by step: those that were asked for, in their order, whatever becomes of their nodes.
use Rattle.std.proofs.Common.{◌≡◌, ◌++◌, ◌∷◌, ℕ, Bool, true, false, cond, List, [], map, max, refl, sym, ap, ◌∙◌}
use Rattle.std.proofs.lemmas.List.{map-append}
use Rattle.std.specs.Prelude.{◌==◌, nat_eq, string_bytes}
use Rattle.std.specs.List.{starts_with, AllByRecursion, FoldsTo}
use Rattle.std.specs.declared.alloc.Global.{Global}
use Rattle.zk_nodes.specs.Path.{Text}
use Rattle.zk_nodes.specs.declared.side.Side.{Side}
use Rattle.zk_trees.specs.Tending.{Bed, Footing, Grows as GrowsBed, LeavesIt, NotesBoundWhere, PlantsBed, TakesItOn}
use Rattle.zk_trees.specs.Tending.{TakesOnWhere, TellsWhole, TendsEach, TendsOneWhere, TendsTree, TendsWhere}
use Rattle.zk_trees.specs.Tending.{are_at_rest, bed_of, has_ticket, is_same, lacks_nothing, left, noted_report, noted_shown}
use Rattle.zk_trees.specs.Trees.{is_settled, tickets_gone}
use Rattle.zk_trees.specs.declared.tree.Tree.{Tree}
use Rattle.zk_trees.specs.declared.tree.Trees.{Trees}
use Rattle.zk_agent.specs.Trees.{Alters, GoesOn, noted_by, noted_in}
use Rattle.zk_agent.specs.declared.action.Action.{Action}
use Rattle.zk_agent.specs.declared.action.Action.TheVariants as action
use Rattle.zk_agent.specs.declared.agent.Agent.{Agent}
use Rattle.zk_agent.specs.declared.input.AgentInput.{AgentInput}
use Rattle.zk_agent.specs.declared.input.AgentInput.TheVariants as input
use Rattle.ffi_device.specs.Chains.{IsOwn, Part, TookAll}
use Rattle.ffi_device.specs.Happenings.{Happening, happening}
use Rattle.ffi_device.specs.Happenings as happens
use Rattle.ffi_device.specs.Steps.{Stepped}
use Rattle.ffi_device.specs.declared.device.Device.{Device}
use Rattle.ffi_c.specs.Followed.{Plant, planted_of, plants_in, uprooted}

module _ {A : Type 0} where
  abbrev plant_of : Tree A → Plant
  plant_of tree = record { ticket = tree.ticket; root = tree.root; most = tree.most }

  abbrev plant_in : Bed A → Plant
  plant_in bed = record { ticket = bed.ticket; root = bed.root; most = bed.most }

  -- ---- a tree within a step

  lets_go : (tickets : List ℕ) (old new : Bed A) → FoldsTo (λ at ticket after. LeavesIt ticket at after) old tickets new
      → plant_in new ≡ plant_in old
  lets_go [] old new same = sym (ap plant_in same)
  lets_go (ticket ∷ tickets) old new goes = lets_go tickets goes.0 new goes.2 ∙ ap plant_in goes.1

  takes_on : (is_settled : Bool) (aim : Side × Text) (old new : Bed A) → TakesOnWhere is_settled aim old new → plant_in new ≡ plant_in old
  takes_on true aim old new same = ap plant_in same
  takes_on false aim old new joins = ap plant_in joins.same

  takes_all : (aims : List (Side × Text)) (old new : Bed A) → FoldsTo (λ at aim after. TakesItOn aim at after) old aims new
      → plant_in new ≡ plant_in old
  takes_all [] old new same = sym (ap plant_in same)
  takes_all (aim ∷ aims) old new takes =
      takes_all aims takes.0 new takes.2 ∙ takes_on (is_settled old.footing.view aim old.members) aim old takes.0 takes.1

  notes : (is_same is_bounded : Bool) (old new : Bed A) → NotesBoundWhere is_same is_bounded old new → plant_in new ≡ plant_in old
  notes true is_bounded old new same = ap plant_in same
  notes false is_bounded old new other = ap plant_in other

  tells : (is_whole : Bool) (old new : Bed A) → TellsWhole is_whole old new → plant_in new ≡ plant_in old
  tells true old new told = ap plant_in told
  tells false old new same = ap plant_in same

  grows : (old new : Bed A) → GrowsBed old new → plant_in new ≡ plant_in old
  grows old new g =
      tells (lacks_nothing g.wants) g.noted new g.whole
      ∙ notes (is_same g.last.is_bounded g.wants.is_bounded) g.wants.is_bounded g.last g.noted g.bound
      ∙ takes_all g.wants.aims old g.last g.takes

  tends_tree : (old new : Bed A) → TendsTree old new → plant_in new ≡ plant_in old
  tends_tree old new t =
      grows t.between new t.grows ∙ lets_go (tickets_gone old.footing.view old.members) _ t.between t.lets

  tends_one : (is_behind : Bool) (was is : Tree A) (old new : Footing A) → TendsOneWhere is_behind was is old new
      → plant_of is ≡ plant_of was
  tends_one true was is old new tended = tends_tree (bed_of old was) (bed_of new is) tended.0
  tends_one false was is old new same = ap plant_of same.0

  tends_each : (olds news : List (Tree A)) (old new : Footing A) → TendsEach olds news old new → plants_in news ≡ plants_in olds
  tends_each [] [] old new same = refl
  tends_each (tree ∷ trees) (after ∷ afters) old new tended =
      ap (λ p. p ∷ plants_in afters) (tends_one tree.is_behind tree after old tended.0 tended.1)
      ∙ ap (λ t. plant_of tree ∷ t) (tends_each trees afters tended.0 new tended.2)
  tends_each [] (after ∷ afters) old new none = absurd none
  tends_each (tree ∷ trees) [] old new none = absurd none

  pub tends : (is_rest : Bool) (now : ℕ) (was is : Trees A) (old new : Footing A) → TendsWhere is_rest now was is old new
      → plants_in is.all.items ≡ plants_in was.all.items
  tends true now was is old new same = ap plants_in same.0
  tends false now was is old new tended = tends_each was.all.items is.all.items old new tended.1

  -- ---- a tree that comes or goes

  plants : (ticket : ℕ) (root : Text) (most : ℕ) (old : Footing A) (new : Bed A) → PlantsBed ticket root most old new
      → plant_in new ≡ record { ticket = ticket; root = root; most = most }
  plants ticket root most old new p = ap plant_in p.names_join.same ∙ ap plant_in p.data_joins.same

  uproots : (ticket : ℕ) (trees : List (Tree A)) → plants_in (left ticket trees) ≡ uprooted ticket (plants_in trees)
  uproots ticket [] = refl
  uproots ticket (tree ∷ trees) = by (tree.ticket == ticket) (uproots ticket trees)
    where
      by : (b : Bool) → plants_in (left ticket trees) ≡ uprooted ticket (plants_in trees)
          → plants_in (cond b trees (tree ∷ left ticket trees))
          ≡ cond b (plants_in trees) (plant_of tree ∷ uprooted ticket (plants_in trees))
      by true rest = refl
      by false rest = ap (λ t. plant_of tree ∷ t) rest

  alters : (given : AgentInput A) (was is : Trees A) (old new : Footing A) → Alters given was is old new
      → plants_in is.all.items ≡ planted_of (happening given) (plants_in was.all.items)
  alters (input.FollowTree ticket root most) was is old new p =
      ap plants_in p.last ∙ map-append plant_of was.all.items (p.tree ∷ [])
      ∙ ap (λ one. plants_in was.all.items ++ one ∷ []) (plants ticket root most old (bed_of new p.tree) p.bed)
  alters (input.UnfollowTree ticket) was is old new u = ap plants_in u.others ∙ uproots ticket was.all.items
  alters input.Opened was is old new same = ap (λ (t : Trees A). plants_in t.all.items) same.0
  alters input.Failed was is old new same = ap (λ (t : Trees A). plants_in t.all.items) same.0
  alters input.Cut was is old new same = ap (λ (t : Trees A). plants_in t.all.items) same.0
  alters input.Moment was is old new same = ap (λ (t : Trees A). plants_in t.all.items) same.0
  alters (input.Bytes bytes) was is old new same = ap (λ (t : Trees A). plants_in t.all.items) same.0
  alters (input.Addresses kept added is_listed) was is old new same = ap (λ (t : Trees A). plants_in t.all.items) same.0
  alters (input.Call ticket call until) was is old new same = ap (λ (t : Trees A). plants_in t.all.items) same.0
  alters (input.Credential credential) was is old new same = ap (λ (t : Trees A). plants_in t.all.items) same.0
  alters (input.Follow ticket side path) was is old new same = ap (λ (t : Trees A). plants_in t.all.items) same.0
  alters (input.Unfollow ticket) was is old new same = ap (λ (t : Trees A). plants_in t.all.items) same.0

  -- ---- what is noted

  noted_like : (f : Tree A → Tree A) → ((tree : Tree A) → plant_of (f tree) ≡ plant_of tree) → (trees : List (Tree A))
      → plants_in (map f trees) ≡ plants_in trees
  noted_like f same [] = refl
  noted_like f same (tree ∷ trees) =
      ap (λ p. p ∷ plants_in (map f trees)) (same tree) ∙ ap (λ t. plant_of tree ∷ t) (noted_like f same trees)

  behind_or_not : (b : Bool) (tree : Tree A) → plant_of (cond b (record tree { is_behind = true }) tree) ≡ plant_of tree
  behind_or_not true tree = refl
  behind_or_not false tree = refl

  notes_one : (one : Action A) (trees : List (Tree A)) → plants_in (noted_in trees one) ≡ plants_in trees
  notes_one (action.Shown ticket) trees =
      noted_like (noted_shown ticket) (λ tree. behind_or_not (has_ticket ticket tree.members.items) tree) trees
  notes_one (action.Report path side event) trees =
      noted_like (noted_report (string_bytes path)) (λ tree. behind_or_not (starts_with nat_eq (string_bytes path) tree.root) tree) trees
  notes_one _ trees = refl

  notes_all : (said : List (Action A)) (trees : List (Tree A)) → plants_in (noted_by said trees) ≡ plants_in trees
  notes_all [] trees = refl
  notes_all (one ∷ said) trees = notes_all said (noted_in trees one) ∙ notes_one one trees

  -- ---- an agent's step

  abbrev pub plants_at : Agent A → List Plant
  plants_at agent = plants_in agent.trees.all.items

  pub goes_on : (now : ℕ) (given : AgentInput A) (old new : Agent A) (said : List (Action A)) → GoesOn now given old new said
      → plants_at new ≡ planted_of (happening given) (plants_at old)
  goes_on now given old new said g =
      ap plants_in g.noted ∙ notes_all said g.trees.all.items
      ∙ alters given g.grows.between g.trees _ g.grows.altered g.grows.alters
      ∙ ap (planted_of (happening given))
      (tends (are_at_rest now old.trees) now old.trees g.grows.between _ g.grows.tended g.grows.tends)

pub own_plants : (what : Happening) → IsOwn what → (before : List Plant) → planted_of what before ≡ before
own_plants (happens.FollowsTree ticket root most) own before = absurd own
own_plants (happens.UnfollowsTree ticket) own before = absurd own
own_plants _ own before = refl

took_all : (now : ℕ) (own : List Part) (from to : Agent Global) → TookAll now from own to
    → AllByRecursion (λ part. IsOwn (happening part.given)) own → plants_at to ≡ plants_at from
took_all now [] from to is are = sym (ap plants_at is)
took_all now (part ∷ own) from to took are =
    took_all now own took.0 to took.2 are.1 ∙ goes_on (max from.latest now) part.given from took.0 part.said took.1.trees
    ∙ own_plants (happening part.given) are.0 (plants_at from)

-- of a contender the agent is asked for nothing
asked_as : (what : Happening) (before : List Plant) → planted_of (happens.given_of what) before ≡ planted_of what before
asked_as (happens.Contends its directory naming guid bytes acl may_be_there) before = refl
asked_as (happens.GivesUp its) before = refl
asked_as _ before = refl

pub step_plants : (now : ℕ) (what : Happening) (old session : Device) → Stepped now what old session
    → plants_at session.agent ≡ planted_of what (plants_at old.agent)
step_plants now what old session does =
    let agent = does.took.took.0 in
    took_all now does.took.own agent session.agent does.took.took.2 does.took.are_own
    ∙ goes_on (max old.agent.latest now) does.given old.agent agent does.took.said does.took.took.1.trees
    ∙ ap (λ w. planted_of w (plants_at old.agent)) does.is ∙ asked_as what (plants_at old.agent)
