-- What becomes of trees that are followed: what is gone is let go, and what good names lead to is taken on.
use Rattle.std.specs.Prelude.{◌≡◌, ◌+◌, ◌++◌, ◌∷◌, ◌&&◌, ◌||◌, not, ⊤, ℕ, Bool, true, false, ◌==◌, List, [], map, Option, Some, None}
use Rattle.std.specs.Prelude.{◌/◌, ◌^◌, ◌-◌, min, fold, length, nat_eq, nat_lt, if◌then◌else◌}
use Rattle.std.specs.List.{filter, list_any, starts_with, FoldsTo}
use Rattle.zk_nodes.specs.Path.{Text}
use Rattle.zk_nodes.specs.declared.side.Side.{Side}
use Rattle.zk_nodes.specs.declared.side.Side.TheVariants.{Data, Child}
use Rattle.zk_turns.specs.View.{View}
use Rattle.zk_client.specs.Clients.{view_of}
use Rattle.zk_follow.specs.declared.follower.Follower.{Follower}
use Rattle.zk_follow.specs.declared.subject.Subject.{Subject}
use Rattle.zk_follow.specs.Following.{fresh, unfollowed}
use Rattle.zk_trees.specs.Trees.{aim_of, is_settled, stays, tickets_gone, AreWanted, Wants}
use Rattle.zk_trees.specs.declared.member.Member.{Member}
use Rattle.zk_trees.specs.declared.tree.Tree.{Tree}
use Rattle.zk_trees.specs.declared.tree.Trees.{Trees}
use Rattle.zk_trees.specs.declared.tree.TreeNews.{TreeNews}
use Rattle.zk_trees.specs.declared.tree.TreeNews.TheVariants as news

-- ---- what is told

-- what is told of a tree, by its ticket, without where it lies in memory
pub data TreeTold : Type 0 where
  TakesOn : (tree ticket : ℕ) → Side → Text → TreeTold
  LetsGo : (tree ticket : ℕ) → TreeTold
  IsBounded : (tree : ℕ) → (is_bounded : Bool) → TreeTold
  IsWhole : (tree : ℕ) → TreeTold

abbrev pub tree_told : {A : Type 0} → TreeNews A → TreeTold
tree_told (news.MemberAdded tree ticket side path) = TakesOn tree ticket side path
tree_told (news.MemberRemoved tree ticket) = LetsGo tree ticket
tree_told (news.Bounded tree is_bounded) = IsBounded tree is_bounded
tree_told (news.Complete tree) = IsWhole tree

abbrev pub trees_told : {A : Type 0} → List (TreeNews A) → List TreeTold
trees_told all = map tree_told all

-- what becomes of the subjects that are followed, where this is told
abbrev pub shifted : {A : Type 0} → TreeTold → List (Subject A) → List (Subject A)
shifted (TakesOn tree ticket side path) subjects = subjects ++ fresh ticket side path ∷ []
shifted (LetsGo tree ticket) subjects = unfollowed ticket subjects
shifted _ subjects = subjects

-- what becomes of them by all that is told, in order
abbrev pub shifted_by : {A : Type 0} → List TreeTold → List (Subject A) → List (Subject A)
shifted_by told subjects = fold (λ all one. shifted one all) subjects told

-- ---- a tree within a step

-- What the client keeps, the subjects that are followed, what was told of trees, and the ticket by which the next node is followed.
pub record Footing (A : Type 0) : Type 0 where
  pub view : View
  pub subjects : List (Subject A)
  pub told : List TreeTold
  pub next : ℕ

-- One more is told, and subjects come or go with it.
abbrev pub tells : {A : Type 0} → TreeTold → Footing A → Footing A
tells one footing = record footing { subjects = shifted one footing.subjects; told = footing.told ++ one ∷ [] }

-- that, and one tree
pub record Bed (A : Type 0) : Type 0 where
  pub footing : Footing A
  pub ticket : ℕ
  pub root : Text
  pub most : ℕ
  pub is_bounded : Bool
  pub members : List (Member A ⊤)

abbrev pub bed_of : {A : Type 0} → Footing A → Tree A → Bed A
bed_of footing tree = record {
  footing = footing;
  ticket = tree.ticket;
  root = tree.root;
  most = tree.most;
  is_bounded = tree.is_bounded;
  members = tree.members.items;
}

-- ---- what is taken on

-- A side of a node is followed by a ticket, and is a member from then on.
pub record Joins {A : Type 0} (ticket : ℕ) (is_found : Bool) (aim : Side × Text) (old new : Bed A) : Type 0 where
  pub one : Member A ⊤
  pub its_aim : aim_of one.subject ≡ aim
  pub its_ticket : one.ticket ≡ ticket
  pub its_part : one.is_found ≡ is_found
  pub same : new ≡ record old { footing = tells (TakesOn old.ticket ticket aim.0 aim.1) old.footing; members = old.members ++ one ∷ [] }

-- That of a member is not followed twice, and that of a node of which it is kept and good that there is none is left; else it is followed,
-- by the next ticket, which no other has from then on.
abbrev pub TakesOnWhere : {A : Type 0} → (is_settled : Bool) → Side × Text → (old new : Bed A) → Type 0
TakesOnWhere true aim old new = new ≡ old
TakesOnWhere false aim old new =
    Joins old.footing.next true aim (record old { footing = record old.footing { next = old.footing.next + 1 } }) new

abbrev pub TakesItOn : {A : Type 0} → Side × Text → (old new : Bed A) → Type 0
TakesItOn aim old new = TakesOnWhere (is_settled old.footing.view aim old.members) aim old new

-- Each of these is taken on, in order.
abbrev pub TakesAllOn : {A : Type 0} → List (Side × Text) → (old new : Bed A) → Type 0
TakesAllOn aims old new = FoldsTo (λ at aim after. TakesItOn aim at after) old aims new

-- ---- what is told of a whole tree

abbrev pub is_same : Bool → Bool → Bool
is_same true other = other
is_same false other = not other

-- Whether it has more nodes than its bound is noted, and told where it is not what it was.
abbrev pub NotesBoundWhere : {A : Type 0} → (is_same is_bounded : Bool) → (old new : Bed A) → Type 0
NotesBoundWhere true is_bounded old new = new ≡ old
NotesBoundWhere false is_bounded old new =
    new ≡ record old { is_bounded = is_bounded; footing = tells (IsBounded old.ticket is_bounded) old.footing }

abbrev pub NotesBound : {A : Type 0} → (is_bounded : Bool) → (old new : Bed A) → Type 0
NotesBound is_bounded old new = NotesBoundWhere (is_same old.is_bounded is_bounded) is_bounded old new

-- It is told where nothing is lacking.
abbrev pub TellsWhole : {A : Type 0} → (is_whole : Bool) → (old new : Bed A) → Type 0
TellsWhole true old new = new ≡ record old { footing = tells (IsWhole old.ticket) old.footing }
TellsWhole false old new = new ≡ old

abbrev pub is_none : {X : Type 0} → List X → Bool
is_none [] = true
is_none (x ∷ xs) = false

-- nothing is wanted, and not since there are more nodes than the bound
abbrev pub lacks_nothing : Wants → Bool
lacks_nothing wants = is_none wants.aims && not wants.is_bounded

-- A tree is taken on, as far as good names lead by what the client keeps.
pub record Grows {A : Type 0} (old new : Bed A) : Type 0 where
  pub wants : Wants
  pub wanted : AreWanted old.footing.view old.most (old.root ∷ []) wants
  pub last : Bed A
  pub takes : TakesAllOn wants.aims old last
  pub noted : Bed A
  pub bound : NotesBound wants.is_bounded last noted
  pub whole : TellsWhole (lacks_nothing wants) noted new

-- ---- what is let go

abbrev pub LeavesIt : {A : Type 0} → (ticket : ℕ) → (old new : Bed A) → Type 0
LeavesIt ticket old new = new ≡ record old { footing = tells (LetsGo old.ticket ticket) old.footing }

-- Each node that was found and of which it is kept and good that there is none is a member no more. The others stay, in their order.
abbrev pub LetsAllGo : {A : Type 0} → (old new : Bed A) → Type 0
LetsAllGo old new =
    FoldsTo (λ at ticket after. LeavesIt ticket at after) (record old { members = filter (stays old.footing.view) old.members })
    (tickets_gone old.footing.view old.members) new

-- ---- each tree

-- What is gone of a tree is let go, and then it is taken on.
pub record TendsTree {A : Type 0} (old new : Bed A) : Type 0 where
  pub between : Bed A
  pub lets : LetsAllGo old between
  pub grows : Grows between new

-- A tree that may be another one since it was tended last is tended; any other is left as it is.
abbrev pub TendsOneWhere : {A : Type 0} → (is_behind : Bool) → (was is : Tree A) → (old new : Footing A) → Type 0
TendsOneWhere true was is old new = TendsTree (bed_of old was) (bed_of new is) × (is.is_behind ≡ false)
TendsOneWhere false was is old new = (is ≡ was) × (new ≡ old)

abbrev pub TendsOne : {A : Type 0} → (was is : Tree A) → (old new : Footing A) → Type 0
TendsOne was is old new = TendsOneWhere was.is_behind was is old new

-- Each is, in order, by what the one before has led to.
abbrev pub TendsEach : {A : Type 0} → (olds news : List (Tree A)) → (old new : Footing A) → Type 0
TendsEach [] [] old new = new ≡ old
TendsEach {A} (tree ∷ trees) (after ∷ afters) old new =
    (between : Footing A) × TendsOne tree after old between × TendsEach trees afters between new
TendsEach trees afters old new = ⊥

-- ---- when

-- how many sides of nodes trees have, of what 64 bits tell apart
abbrev pub sides_in : {A : Type 0} → List (Tree A) → ℕ
sides_in trees = fold (λ count tree. min (count + length tree.members.items) (2 ^ 64 - 1)) 0 trees

-- Trees that are tended at this moment are due again a millisecond later for each thousand sides, since tending takes the longer the more
-- there are.
abbrev pub due_after : {A : Type 0} → (now : ℕ) → List (Tree A) → ℕ
due_after now trees = min (now + sides_in trees / 1000) (2 ^ 64 - 1)

abbrev pub is_any_behind : {A : Type 0} → List (Tree A) → Bool
is_any_behind trees = list_any (λ tree. tree.is_behind) trees

-- Trees rest where none may be another one since it was tended last, and until they are due again.
abbrev pub are_at_rest : {A : Type 0} → (now : ℕ) → Trees A → Bool
are_at_rest now trees = not (is_any_behind trees.all.items) || nat_lt now trees.due

-- Trees that rest are left as they are; else each is tended.
abbrev pub TendsWhere : {A : Type 0} → (is_rest : Bool) → (now : ℕ) → (was is : Trees A) → (old new : Footing A) → Type 0
TendsWhere true now was is old new = (is.all.items ≡ was.all.items) × (is.due ≡ was.due) × (new ≡ old)
TendsWhere false now was is old new = (is.due ≡ due_after now is.all.items) × TendsEach was.all.items is.all.items old new

abbrev pub Tends : {A : Type 0} → (now : ℕ) → (was is : Trees A) → (old new : Footing A) → Type 0
Tends now was is old new = TendsWhere (are_at_rest now was) now was is old new

-- Where what trees are followed by begins, and where it has come: nothing was told of them before.
abbrev pub footing_in : {A : Type 0} → Trees A → Follower A → List (TreeNews A) → Footing A
footing_in trees follower all = record {
  view = view_of follower.client;
  subjects = follower.subjects.items;
  told = trees_told all;
  next = trees.next;
}

-- ---- a new tree

-- of its root alone, of which nothing is known yet
abbrev pub seed_of : {A : Type 0} → Footing A → (ticket : ℕ) → (root : Text) → (most : ℕ) → Bed A
seed_of footing ticket root most =
    record { footing = footing; ticket = ticket; root = root; most = most; is_bounded = false; members = [] }

-- The data of the root have the tree's ticket, and the names below it the next one of nodes.
pub record PlantsBed {A : Type 0} (ticket : ℕ) (root : Text) (most : ℕ) (old : Footing A) (new : Bed A) : Type 0 where
  pub with_data : Bed A
  pub data_joins : Joins ticket false (Data, root) (seed_of (record old { next = old.next + 1 }) ticket root most) with_data
  pub names_join : Joins old.next false (Child, root) with_data new

-- It comes after the others, and rests until something is said of it.
pub record Plants {A : Type 0} (ticket : ℕ) (root : Text) (most : ℕ) (was is : Trees A) (old new : Footing A) : Type 0 where
  pub tree : Tree A
  pub rests : tree.is_behind ≡ false
  pub bed : PlantsBed ticket root most old (bed_of new tree)
  pub last : is.all.items ≡ was.all.items ++ tree ∷ []
  pub due : is.due ≡ was.due

-- ---- a tree that ends

-- the first tree of a ticket, and the others
abbrev pub found : {A : Type 0} → (ticket : ℕ) → List (Tree A) → Option (Tree A)
found ticket [] = None
found ticket (tree ∷ trees) = if tree.ticket == ticket then Some tree else found ticket trees

abbrev pub left : {A : Type 0} → (ticket : ℕ) → List (Tree A) → List (Tree A)
left ticket [] = []
left ticket (tree ∷ trees) = if tree.ticket == ticket then trees else tree ∷ left ticket trees

-- What these tickets follow is followed no more, one after the other.
abbrev pub LeavesAll : {A : Type 0} → (tree : ℕ) → (tickets : List ℕ) → (old new : Footing A) → Type 0
LeavesAll tree tickets old new = FoldsTo (λ at ticket after. after ≡ tells (LetsGo tree ticket) at) old tickets new

-- Each of its members is followed no more.
abbrev pub UprootsTree : {A : Type 0} → Tree A → (old new : Footing A) → Type 0
UprootsTree tree old new = LeavesAll tree.ticket (map (λ one. one.ticket) tree.members.items) old new

abbrev pub UprootsSo : {A : Type 0} → Option (Tree A) → (old new : Footing A) → Type 0
UprootsSo None old new = new ≡ old
UprootsSo (Some tree) old new = UprootsTree tree old new

pub record Uproots {A : Type 0} (ticket : ℕ) (was is : Trees A) (old new : Footing A) : Type 0 where
  pub goes : UprootsSo (found ticket was.all.items) old new
  pub others : is.all.items ≡ left ticket was.all.items
  pub due : is.due ≡ was.due

-- ---- what is said of subjects and paths

-- whether one of these members has this ticket
abbrev pub has_ticket : {A : Type 0} → (ticket : ℕ) → List (Member A ⊤) → Bool
has_ticket ticket members = list_any (λ one. one.ticket == ticket) members

-- A tree may be another one where it is said that what is kept of a member is good.
abbrev pub noted_shown : {A : Type 0} → (ticket : ℕ) → Tree A → Tree A
noted_shown ticket tree = if has_ticket ticket tree.members.items then record tree { is_behind = true } else tree

-- So it may where a path is reported that begins with the root's text.
abbrev pub noted_report : {A : Type 0} → (path : List ℕ) → Tree A → Tree A
noted_report path tree = if starts_with nat_eq path tree.root then record tree { is_behind = true } else tree
