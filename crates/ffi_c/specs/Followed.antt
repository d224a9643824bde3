-- What a session follows, by its tickets and in its trees: what was asked for and told, use by use.
use Rattle.std.specs.Prelude.{◌≡◌, ◌⊎◌, ◌==◌, ◌<◌, ◌^◌, ◌++◌, ◌∷◌, ⊤, ℕ, zero, pos, Bool, true, false, not, List, []}
use Rattle.std.specs.Prelude.{map, fold, Option, Some, if◌then◌else◌}
use Rattle.std.specs.List.{filter, flat_map, list_any, AllByRecursion}
use Rattle.zk_nodes.specs.Path.{Text}
use Rattle.zk_nodes.specs.declared.side.Side.{Side}
use Rattle.zk_follow.specs.declared.subject.Subject.{Subject}
use Rattle.zk_trees.specs.Tending.{TreeTold, TakesOn, LetsGo}
use Rattle.zk_trees.specs.Trees.{aim_of}
use Rattle.zk_trees.specs.declared.member.Member.{Member}
use Rattle.zk_trees.specs.declared.tree.Tree.{Tree}
use Rattle.zk_agent.specs.Telling.{told_by, trees_in}
use Rattle.ffi_device.specs.Happenings as happens
use Rattle.ffi_device.specs.Happenings.{Happening}
use Rattle.ffi_device.specs.declared.device.Device.{Device}
use Rattle.ffi_c.specs.Lives.{IsLife, Opens, Resumes, Steps, Use, Used, held_after}

-- ---- by a ticket

-- the sides of paths that are followed by this ticket, in the order in which that began
abbrev pub followed_by : {A : Type 0} → (ticket : ℕ) → List (Subject A) → List (Side × Text)
followed_by ticket subjects = map (λ subject. (subject.side, subject.path)) (filter (λ subject. subject.ticket == ticket) subjects)

-- What is followed by a ticket, by what was told of trees: a side of a node is taken on by it, or let go.
abbrev pub told_of : (ticket : ℕ) → List (Side × Text) → TreeTold → List (Side × Text)
told_of ticket before (TakesOn tree its side path) = if its == ticket then before ++ (side, path) ∷ [] else before
told_of ticket before (LetsGo tree its) = if its == ticket then [] else before
told_of ticket before _ = before

-- by what the program asks for: it follows a side of a path by it, or no more
abbrev pub asked_of : (ticket : ℕ) → Happening → List (Side × Text) → List (Side × Text)
asked_of ticket (happens.Follows its side path) before = if its == ticket then before ++ (side, path) ∷ [] else before
asked_of ticket (happens.Unfollows its) before = if its == ticket then [] else before
asked_of ticket _ before = before

abbrev pub known_by : (ticket : ℕ) → Use → (after : Option Device) → List (Side × Text) → List (Side × Text)
known_by ticket (Opens limits timeout code) after before = []
known_by ticket (Resumes limits timeout saved code) after before = []
known_by ticket (Steps moment what (pos zero)) (Some session) before =
    asked_of ticket what (fold (told_of ticket) before (trees_in (told_by session.said.items)))
known_by ticket used after before = before

-- By what was asked for and told since the handle was opened, this is followed by a ticket.
abbrev pub known : (ticket : ℕ) → List Used → List (Side × Text)
known ticket [] = []
known ticket (used ∷ earlier) = known_by ticket used.use_of used.held (known ticket earlier)

-- ---- one hand

abbrev pub is_asked : (ticket : ℕ) → Happening → Bool
is_asked ticket (happens.Follows its side path) = its == ticket
is_asked ticket (happens.Unfollows its) = its == ticket
is_asked ticket _ = false

abbrev pub is_told : (ticket : ℕ) → TreeTold → Bool
is_told ticket (TakesOn tree its side path) = its == ticket
is_told ticket (LetsGo tree its) = its == ticket
is_told ticket _ = false

-- A program follows by this ticket, or unfollows.
abbrev pub Asks : (ticket : ℕ) → Use → (asks : Bool) → Type 0
Asks ticket (Steps moment what code) asks = is_asked ticket what ≡ asks
Asks ticket used asks = asks ≡ false

-- By this ticket nothing is told of a tree.
abbrev pub TellsNone : (ticket : ℕ) → Use → (after : Option Device) → Type 0
TellsNone ticket (Steps moment what (pos zero)) (Some session) =
    AllByRecursion (λ one. is_told ticket one ≡ false) (trees_in (told_by session.said.items))
TellsNone ticket used after = ⊤

-- In no step does a program follow a subject by a ticket, or unfollow it, by which something is told of a tree.
abbrev pub AreApart : (ticket : ℕ) → List Used → Type 0
AreApart ticket uses = AllByRecursion (λ used. Asks ticket used.use_of true → TellsNone ticket used.use_of used.held) uses

-- So it is with a ticket by which a program follows nothing but trees, and with one by which nothing is told of a tree.
abbrev pub OneHandIsApart : Type 0
OneHandIsApart = (ticket : ℕ) (uses : List Used)
    → AllByRecursion (λ used. Asks ticket used.use_of false) uses ⊎ AllByRecursion (λ used. TellsNone ticket used.use_of used.held) uses
    → AreApart ticket uses

-- ---- trees

-- a tree by what was asked for
pub record Plant : Type 0 where
  pub ticket : ℕ
  pub root : Text
  pub most : ℕ

abbrev pub plants_in : {A : Type 0} → List (Tree A) → List Plant
plants_in trees = map (λ tree. record { ticket = tree.ticket; root = tree.root; most = tree.most }) trees

-- without the first one of a ticket
abbrev pub uprooted : (ticket : ℕ) → List Plant → List Plant
uprooted ticket [] = []
uprooted ticket (plant ∷ plants) = if plant.ticket == ticket then plants else plant ∷ uprooted ticket plants

abbrev pub planted_of : Happening → List Plant → List Plant
planted_of (happens.FollowsTree ticket root most) before = before ++ record { ticket = ticket; root = root; most = most } ∷ []
planted_of (happens.UnfollowsTree ticket) before = uprooted ticket before
planted_of _ before = before

abbrev pub planted_by : Use → List Plant → List Plant
planted_by (Opens limits timeout code) before = []
planted_by (Resumes limits timeout saved code) before = []
planted_by (Steps moment what (pos zero)) before = planted_of what before
planted_by used before = before

-- the trees that a program has asked for since the handle was opened, and not ended
abbrev pub planted : List Used → List Plant
planted [] = []
planted (used ∷ earlier) = planted_by used.use_of (planted earlier)

-- ---- the nodes of a tree

-- a side of a node that is followed for a tree, with its ticket
pub record Node : Type 0 where
  pub ticket : ℕ
  pub aim : Side × Text

abbrev pub nodes_in : {A : Type 0} → List (Member A ⊤) → List Node
nodes_in members = map (λ one. record { ticket = one.ticket; aim = aim_of one.subject }) members

-- those that are followed for the trees of this ticket, in the order in which that began
abbrev pub nodes_of : {A : Type 0} → (tree : ℕ) → List (Tree A) → List Node
nodes_of tree trees = flat_map (λ one. if one.ticket == tree then nodes_in one.members.items else []) trees

-- the nodes without those of a ticket
abbrev pub without : (ticket : ℕ) → List Node → List Node
without ticket nodes = filter (λ node. not (node.ticket == ticket)) nodes

-- What is told of a tree: a side of a node is followed for it by a ticket, or what a ticket follows for it is followed no more.
abbrev pub nodes_told : (tree : ℕ) → List Node → TreeTold → List Node
nodes_told tree before (TakesOn its ticket side path) =
    if its == tree then before ++ record { ticket = ticket; aim = (side, path) } ∷ [] else before
nodes_told tree before (LetsGo its ticket) = if its == tree then without ticket before else before
nodes_told tree before _ = before

abbrev pub nodes_by : (tree : ℕ) → Use → (after : Option Device) → List Node → List Node
nodes_by tree (Opens limits timeout code) after before = []
nodes_by tree (Resumes limits timeout saved code) after before = []
nodes_by tree (Steps moment what (pos zero)) (Some session) before =
    fold (nodes_told tree) before (trees_in (told_by session.said.items))
nodes_by tree used after before = before

-- By what was told since the handle was opened, this is followed for the tree of a ticket.
abbrev pub nodes : (tree : ℕ) → List Used → List Node
nodes tree [] = []
nodes tree (used ∷ earlier) = nodes_by tree used.use_of used.held (nodes tree earlier)

-- ---- one tree of a ticket

-- whether a tree of this ticket was asked for
abbrev pub is_planted : (ticket : ℕ) → List Plant → Bool
is_planted ticket plants = list_any (λ plant. plant.ticket == ticket) plants

-- whether a tree is asked for by this ticket
abbrev pub asks_tree : (ticket : ℕ) → Happening → Bool
asks_tree ticket (happens.FollowsTree its root most) = its == ticket
asks_tree ticket _ = false

-- A program asks for no tree by this ticket while it follows one by it.
abbrev pub PlantsOne : (ticket : ℕ) → Use → List Plant → Type 0
PlantsOne ticket (Steps moment what (pos zero)) before = asks_tree ticket what ≡ true → is_planted ticket before ≡ false
PlantsOne ticket used before = ⊤

-- So it is in each step.
abbrev pub IsOneTree : (ticket : ℕ) → List Used → Type 0
IsOneTree ticket [] = ⊤
IsOneTree ticket (used ∷ earlier) = PlantsOne ticket used.use_of (planted earlier) × IsOneTree ticket earlier

-- ---- the law

-- By each ticket a session follows what was asked for and told, and nothing else, unless it is used for a tree and by the program in one
-- step; and it has the trees that were asked for. For the tree of a ticket it follows those sides of nodes that were told, by the tickets
-- that were told, and no other, if that ticket is below 2^63, if those of nodes begin, and no two trees have it at once.
pub record IsAsTold (uses : List Used) (session : Device) : Type 0 where
  pub followed : (ticket : ℕ) → AreApart ticket uses
      → followed_by ticket session.agent.asker.follower.subjects.items ≡ known ticket uses
  pub trees : plants_in session.agent.trees.all.items ≡ planted uses
  pub nodes_are : (tree : ℕ) → tree < 2 ^ 63 → IsOneTree tree uses → nodes_of tree session.agent.trees.all.items ≡ nodes tree uses

-- THE law of what a session follows: whoever made it by these functions alone, whatever they answered, and has one within whose steps
-- memory never ran out, has one that follows what was told.
abbrev pub ToldForLife : Type 0
ToldForLife = (uses : List Used) (session : Device) → IsLife uses → held_after uses ≡ Some session → session.is_over ≡ false
    → IsAsTold uses session
