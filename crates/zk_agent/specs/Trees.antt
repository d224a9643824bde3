-- What becomes of an agent's trees within a step.
use Rattle.std.specs.Prelude.{◌≡◌, ◌++◌, ℕ, List, [], fold, map, string_bytes}
use Rattle.zk_dialler.specs.Dialling.{is_open}
use Rattle.zk_trees.specs.Tending.{noted_report, noted_shown, Footing, Plants, Tends, Uproots}
use Rattle.zk_trees.specs.declared.tree.Tree.{Tree}
use Rattle.zk_trees.specs.declared.tree.Trees.{Trees}
use Rattle.zk_agent.specs.declared.action.Action.{Action}
use Rattle.zk_agent.specs.declared.action.Action.TheVariants as action
use Rattle.zk_agent.specs.declared.agent.Agent.{Agent}
use Rattle.zk_agent.specs.declared.input.AgentInput.{AgentInput}
use Rattle.zk_agent.specs.declared.input.AgentInput.TheVariants as happens
use Rattle.zk_agent.specs.Agents.{moves_of, trail_of, Comes, Trail}
use Rattle.zk_agent.specs.Telling.{told_by, trees_in, TellsTree}

-- A tree is followed, or followed no more, if an input asks for that, and for no other.
abbrev pub Alters : {A : Type 0} → AgentInput A → (was is : Trees A) → (old new : Footing A) → Type 0
Alters (happens.FollowTree ticket root most) was is old new = Plants ticket root most was is old new
Alters (happens.UnfollowTree ticket) was is old new = Uproots ticket was is old new
Alters input was is old new = (is ≡ was) × (new ≡ old)

-- Trees are tended that are due at this moment, by what the client keeps when a step begins; then a tree comes or goes, if the input
-- asks for that. What there is to tell of them is told, in order, and the subjects come and go with it.
pub record Grows {A : Type 0} (now : ℕ) (input : AgentInput A) (was is : Trees A) (old new : Trail A) : Type 0 where
  pub between : Trees A
  pub tended : Footing A
  pub tends : Tends now was between (record { view = old.view; subjects = old.subjects; told = []; next = was.next }) tended
  pub altered : Footing A
  pub alters : Alters input between is (record tended { told = [] }) altered
  pub next : is.next ≡ altered.next
  pub last : new ≡ record old {
    subjects = altered.subjects;
    told = (old.told ++ map TellsTree tended.told) ++ map TellsTree altered.told;
  }

-- What is said of a subject or of a path is noted of each tree.
abbrev pub noted_in : {A : Type 0} → List (Tree A) → Action A → List (Tree A)
noted_in trees (action.Shown ticket) = map (noted_shown ticket) trees
noted_in trees (action.Report path side event) = map (noted_report (string_bytes path)) trees
noted_in trees _ = trees

abbrev pub noted_by : {A : Type 0} → List (Action A) → List (Tree A) → List (Tree A)
noted_by said trees = fold noted_in trees said

-- So they come along within a step: first they grow, then the agent takes its input, and what was said is noted of each at last. What the
-- program is told of trees in this step is what was told as they grew, in that order, and no more.
pub record GoesOn {A : Type 0} (now : ℕ) (input : AgentInput A) (old new : Agent A) (said : List (Action A)) : Type 0 where
  pub grown : Trail A
  pub trees : Trees A
  pub grows : Grows now input old.trees trees (trail_of old []) grown
  pub rest : Comes now (moves_of (is_open new.dialler.phase) now input old) grown (trail_of new said)
  pub told : trees_in (told_by said) ≡ grows.tended.told ++ grows.altered.told
  pub noted : new.trees.all.items ≡ noted_by said trees.all.items
  pub next : new.trees.next ≡ trees.next
  pub due : new.trees.due ≡ trees.due
