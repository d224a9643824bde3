-- The invariant of a run: what the client will hold as it takes the messages in flight one by one.
use Rattle.zk_watches.specs.Lists.{Lists}
use Rattle.std.specs.Prelude.{ℕ, ◌≡◌, ◌≢◌, ◌≤◌, Bool, true, false, List, [], ◌∷◌, Option, Some, None, ◌⊎◌, ⊤}
use Rattle.zk_nodes.specs.Path.{Text, NodePath, text_of, path_of}
use Rattle.zk_nodes.specs.History.{History, tree_at, View, Absence, Contents, Children, view}
use Rattle.zk_nodes.specs.declared.side.Side.{Side}
use Rattle.zk_nodes.specs.declared.side.Side.TheVariants.{Data, Child}
use Rattle.zk_laws.specs.Server.{Watches, tree_held, zxid_held}
use Rattle.zk_turns.specs.Turns.{IsAskable}
use Rattle.zk_laws.specs.Messages.{Message, Accepted, Expired, Request, Connect, Restore, Ask, Ping}
use Rattle.zk_laws.proofs.Log.{Item, Took, last, good, Answer, Absent, Known, Full, Names, Suits, is_listed}
use Rattle.zk_laws.proofs.Steps.{is_behind, Connection, Link, Down, Up, World}
use Rattle.zk_laws.specs.ServerSteps.{Stage, Waiting, Serving, Ended}

-- a child watch stands only at a node that is there
abbrev pub is_seen : View → Bool
is_seen Absence = false
is_seen (Contents content fields) = true
is_seen (Children names pzxid) = true

-- nothing is asked of the data side
abbrev pub IsThere : Side → View → Type 0
IsThere Data seen = ⊤
IsThere Child seen = is_seen seen ≡ true

-- what is good of one side of one path is right at the last seen zxid
abbrev pub IsRight : History → Side → Text → List Item → Type 0
IsRight h side path log = (answer : Answer) → good side path log ≡ Some answer
    → Suits answer (view side (tree_at h (last log)) (path_of path)) × (text_of (path_of path) ≡ path)

-- As the messages are taken in turn, what is good is right after each, no reply is behind, and at the end End holds.
abbrev pub Ahead : History → Side → Text → List Message → List Item → (List Item → Type 0) → Type 0
Ahead h side path [] log End = IsRight h side path log × End log
Ahead h side path (message ∷ messages) log End =
    IsRight h side path log × (is_behind log message ≡ false) × Ahead h side path messages (Took message ∷ log) End

-- the list of a part where this answer puts its path
abbrev pub list_in : Side → Answer → Lists → List Text
list_in Data Absent part = part.exist_watches
list_in Data (Known fields) part = part.data_watches
list_in Data (Full bytes fields) part = part.data_watches
list_in Data (Names names pzxid) part = part.data_watches
list_in Child answer part = part.child_watches

-- the part lists the path there
abbrev pub is_in : Side → Answer → Text → Lists → Bool
is_in side answer path part = is_listed path (list_in side answer part)

-- the path is in a part that is still to be processed, and no reply before that one's moves the last seen zxid
abbrev pub IsAwaited : Side → Text → Answer → ℕ → List Request → Type 0
IsAwaited side path answer seen [] = ⊥
IsAwaited side path answer seen (Restore is_last relative part ∷ requests) =
    (relative ≡ seen) × ((is_in side answer path part ≡ true) ⊎ ((is_last ≡ false) × IsAwaited side path answer seen requests))
IsAwaited side path answer seen (Connect zxid ∷ requests) = ⊥
IsAwaited side path answer seen (Ask question ∷ requests) = ⊥
IsAwaited side path answer seen (Ping ∷ requests) = ⊥

-- the server watches the path, and the answer is right where it stands
pub record IsCovered (h : History) (side : Side) (path : NodePath) (place : ℕ) (watches : Watches) (answer : Answer) : Type 0 where
  pub watched : watches side path ≡ true
  pub fits : Suits answer (view side (tree_held h place) path)
  pub there : IsThere side (view side (tree_held h place) path)

-- what is good is covered or awaited
abbrev pub IsSure : History → Side → Text → List Request → ℕ → Watches → ℕ → Option Answer → Type 0
IsSure h side path requests place watches seen None = ⊤
IsSure h side path requests place watches seen (Some answer) =
    IsCovered h side (path_of path) place watches answer ⊎ IsAwaited side path answer seen requests

-- once all messages in flight are taken
abbrev pub IsSettled : History → Side → Text → List Request → ℕ → Watches → List Item → Type 0
IsSettled h side path requests place watches log =
    (last log ≤ zxid_held h place) × IsSure h side path requests place watches (last log) (good side path log)

-- no watch is set
abbrev pub IsUnwatched : Watches → Type 0
IsUnwatched watches = (side : Side) (path : NodePath) → watches side path ≡ false

-- the questions in flight are about paths
abbrev pub AreAskable : List Request → Type 0
AreAskable [] = ⊤
AreAskable (Ask call ∷ requests) = IsAskable call × AreAskable requests
AreAskable (Connect zxid ∷ requests) = AreAskable requests
AreAskable (Restore is_last relative part ∷ requests) = AreAskable requests
AreAskable (Ping ∷ requests) = AreAskable requests

-- a connection on which the acceptance was not taken yet
abbrev pub IsOpening : History → List Item → Stage → List Request → List Message → ℕ → Type 0
IsOpening h log Waiting requests messages place = (requests ≡ Connect (last log) ∷ []) × (messages ≡ [])
IsOpening h log Serving requests messages place = (requests ≡ []) × (messages ≡ Accepted ∷ []) × (last log ≤ zxid_held h place)
IsOpening h log Ended requests messages place = (requests ≡ []) × (messages ≡ Expired ∷ [])

-- before the client has taken the acceptance: what is good is right, and nothing is watched yet
pub record IsStarting (h : History) (log : List Item) (c : Connection) : Type 0 where
  pub right : (side : Side) (path : Text) → IsRight h side path log
  pub unwatched : IsUnwatched c.watches
  pub opening : IsOpening h log c.stage c.requests c.messages c.place

-- after it
pub record IsTalking (h : History) (log : List Item) (c : Connection) : Type 0 where
  pub stage : c.stage ≢ Waiting
  pub askable : AreAskable c.requests
  pub ahead : (side : Side) (path : Text) → Ahead h side path c.messages log (IsSettled h side path c.requests c.place c.watches)

-- by whether the client talks
abbrev pub IsKeptUp : History → List Item → Connection → Bool → Type 0
IsKeptUp h log c false = IsStarting h log c
IsKeptUp h log c true = IsTalking h log c

-- with no connection, what is good is right
abbrev pub IsKeptBy : History → List Item → Link → Type 0
IsKeptBy h log Down = (side : Side) (path : Text) → IsRight h side path log
IsKeptBy h log (Up c) = IsKeptUp h log c c.talking

-- The invariant.
abbrev pub IsKept : History → World → Type 0
IsKept h w = IsKeptBy h w.log w.link
