-- The paths that are watched and those that are to be stay within the most: a read that is to leave a watch counts from its asking, and its
-- reply turns that place into the watch.
use Rattle.std.proofs.Common.{◌≡◌, ℕ, suc, ◌+◌, ◌≤◌, Bool, true, false, List, [], ◌∷◌, ◌++◌, length, Option, Some, None, refl, ap, sym, ◌∙◌}
use Rattle.std.proofs.Common.{cond, not, arith, length-append}
use Rattle.std.specs.Prelude.{bytes_eq, ◌≢◌}
use Rattle.zk_nodes.specs.declared.side.Side.TheVariants.{Data, Child}
use Rattle.zk_records.specs.declared.event.Event.{Event}
use Rattle.zk_records.specs.Events.{concerns}
use Rattle.zk_session.specs.declared.states.State.TheVariants.{Connected}
use Rattle.zk_session.specs.SessionView.{SessionView}
use Rattle.zk_conversation.specs.declared.phase.Phase.TheVariants.{Talking}
use Rattle.zk_conversation.specs.Pending.{Talk, Pending, Call_waits, watches_pending}
use Rattle.zk_conversation.specs.Questions.{Question, Exists, GetData, GetChildren, SetData, Create, Delete, Close, Raw, watched_side}
use Rattle.zk_conversation.specs.Results.{Result}
use Rattle.zk_watches.specs.Lists.{Lists, has, with_path, without, count_of, registered, fired}
use Rattle.zk_cache.specs.Kept.{Names, Answer}
use Rattle.zk_turns.specs.Past.{Left, leaves_data, leaves_child}
use Rattle.zk_turns.specs.Taken.{phase_of}
use Rattle.zk_turns.specs.Rule.{with_node, with_children, after_reply, says_there}
use Rattle.zk_client.specs.Sound.{HasRoom, IsSound}
use Rattle.zk_client.specs.inner.Sound.{HasRoomFor}
use Rattle.zk_limits.specs.declared.limits.TheConstants.{LONGEST_PASSWORD}

-- ---- lists

passed : (b : Bool) (x : List ℕ) (ys xs : List (List ℕ)) → length ys ≤ length xs → length (cond b (x ∷ ys) ys) ≤ suc (length xs)
passed true x ys xs le = omega arith
passed false x ys xs le = omega arith

without-le : (path : List ℕ) (paths : List (List ℕ)) → length (without paths path) ≤ length paths
without-le path [] = omega arith
without-le path (x ∷ xs) = passed (not (bytes_eq path x)) x (without xs path) xs (without-le path xs)

with-le : (paths : List (List ℕ)) (path : List ℕ) → length (with_path paths path) ≤ length paths + 1
with-le paths path = by (has paths path)
  where
    by : (b : Bool) → length (cond b paths (paths ++ path ∷ [])) ≤ length paths + 1
    by true = omega arith
    by false = omega (arith, length-append paths (path ∷ []))

on-data : (lists : Lists) (present : Bool) (path : List ℕ) → count_of (registered lists Data present path) Data ≤ count_of lists Data + 1
on-data lists true path = let a = with-le lists.data_watches path in let b = without-le path lists.exist_watches in omega arith
on-data lists false path = let a = with-le lists.exist_watches path in let b = without-le path lists.data_watches in omega arith

on-child : (lists : Lists) (path : List ℕ) → count_of (registered lists Child true path) Child ≤ count_of lists Child + 1
on-child lists path = with-le lists.child_watches path

data-apart : (lists : Lists) (present : Bool) (path : List ℕ) → count_of (registered lists Data present path) Child ≡ count_of lists Child
data-apart lists true path = refl
data-apart lists false path = refl

node-on-data : (left : Option (Left Answer)) (lists : Lists) → count_of (with_node left lists) Data ≤ count_of lists Data + 1
node-on-data None lists = omega arith
node-on-data (Some left) lists = on-data lists (says_there left.says) left.path

node-on-child : (left : Option (Left Answer)) (lists : Lists) → count_of (with_node left lists) Child ≡ count_of lists Child
node-on-child None lists = refl
node-on-child (Some left) lists = data-apart lists (says_there left.says) left.path

children-on-child : (left : Option (Left Names)) (lists : Lists) → count_of (with_children left lists) Child ≤ count_of lists Child + 1
children-on-child None lists = omega arith
children-on-child (Some left) lists = on-child lists left.path

children-on-data : (left : Option (Left Names)) (lists : Lists) → count_of (with_children left lists) Data ≡ count_of lists Data
children-on-data None lists = refl
children-on-data (Some left) lists = refl

-- ---- events

fired-data : (b : Bool) (path : List ℕ) (paths : List (List ℕ)) → length (cond b (without paths path) paths) ≤ length paths
fired-data true path paths = without-le path paths
fired-data false path paths = omega arith

pub fired-room : (lists : Lists) (event : Event) (path : List ℕ) (pending : List Pending)
    → HasRoom lists pending → HasRoom (fired lists event path) pending
fired-room lists event path pending room =
    let a = fired-data (concerns event Data) path lists.data_watches in
    let b = fired-data (concerns event Data) path lists.exist_watches in
    let c = fired-data (concerns event Child) path lists.child_watches in
    let d = room.on_data in
    let e = room.on_child in
    record { on_data = omega arith; on_child = omega arith }

-- ---- replies

pub reply-room : (xid : _) (ticket : ℕ) (question : Question) (result : Result) (lists : Lists) (rest : List Pending)
    → HasRoom lists (record { xid = xid; waiting = Call_waits ticket question } ∷ rest) → HasRoom (after_reply question result lists) rest
reply-room xid ticket (Exists path true) result lists rest room =
    let a = node-on-data (leaves_data (Exists path true) result) lists in
    let b = node-on-child (leaves_data (Exists path true) result) lists in
    let d = room.on_data in let e = room.on_child in record { on_data = omega arith; on_child = omega arith }
reply-room xid ticket (Exists path false) result lists rest room = record { on_data = room.on_data; on_child = room.on_child }
reply-room xid ticket (GetData path true) result lists rest room =
    let a = node-on-data (leaves_data (GetData path true) result) lists in
    let b = node-on-child (leaves_data (GetData path true) result) lists in
    let d = room.on_data in let e = room.on_child in record { on_data = omega arith; on_child = omega arith }
reply-room xid ticket (GetData path false) result lists rest room = record { on_data = room.on_data; on_child = room.on_child }
reply-room xid ticket (GetChildren path true) result lists rest room =
    let a = children-on-child (leaves_child (GetChildren path true) result) lists in
    let b = children-on-data (leaves_child (GetChildren path true) result) lists in
    let d = room.on_data in let e = room.on_child in record { on_data = omega arith; on_child = omega arith }
reply-room xid ticket (GetChildren path false) result lists rest room = record { on_data = room.on_data; on_child = room.on_child }
reply-room xid ticket (SetData path) result lists rest room = record { on_data = room.on_data; on_child = room.on_child }
reply-room xid ticket (Create path) result lists rest room = record { on_data = room.on_data; on_child = room.on_child }
reply-room xid ticket (Delete path) result lists rest room = record { on_data = room.on_data; on_child = room.on_child }
reply-room xid ticket Close result lists rest room = record { on_data = room.on_data; on_child = room.on_child }
reply-room xid ticket Raw result lists rest room = record { on_data = room.on_data; on_child = room.on_child }

counted : (b : Bool) (x : Pending) (xs : List Pending) → length xs ≤ length (cond b (x ∷ xs) xs)
counted true x xs = omega arith
counted false x xs = omega arith

-- one fewer is pending
pub rest-room : (oldest : Pending) (lists : Lists) (rest : List Pending) → HasRoom lists (oldest ∷ rest) → HasRoom lists rest
rest-room oldest lists rest room =
    let a : watches_pending Data rest ≤ watches_pending Data (oldest ∷ rest) = counted _ oldest _ in
    let b : watches_pending Child rest ≤ watches_pending Child (oldest ∷ rest) = counted _ oldest _ in
    let d = room.on_data in let e = room.on_child in record { on_data = omega arith; on_child = omega arith }

-- a read that is to leave a watch has a place for it
pub room-for : (xid : _) (ticket : ℕ) (question : Question) (lists : Lists) (rest : List Pending)
    → HasRoom lists (record { xid = xid; waiting = Call_waits ticket question } ∷ rest) → HasRoomFor (watched_side question) lists
room-for xid ticket (Exists path true) lists rest room Data e = let d = room.on_data in omega arith
room-for xid ticket (Exists path true) lists rest room Child e = absurd cc
room-for xid ticket (GetData path true) lists rest room Data e = let d = room.on_data in omega arith
room-for xid ticket (GetData path true) lists rest room Child e = absurd cc
room-for xid ticket (GetChildren path true) lists rest room Child e = let d = room.on_child in omega arith
room-for xid ticket (GetChildren path true) lists rest room Data e = absurd cc
room-for xid ticket (Exists path false) lists rest room side e = absurd cc
room-for xid ticket (GetData path false) lists rest room side e = absurd cc
room-for xid ticket (GetChildren path false) lists rest room side e = absurd cc
room-for xid ticket (SetData path) lists rest room side e = absurd cc
room-for xid ticket (Create path) lists rest room side e = absurd cc
room-for xid ticket (Delete path) lists rest room side e = absurd cc
room-for xid ticket Close lists rest room side e = absurd cc
room-for xid ticket Raw lists rest room side e = absurd cc

-- ---- where a client talks

-- what is true of the connection
pub record IsTied (kept : SessionView) (talk : Talk) : Type 0 where
  pub phase : talk.phase ≡ phase_of kept.state
  pub quiet : talk.phase ≢ Talking → length talk.pending ≡ 0
  pub short : length kept.saved.session.password ≤ LONGEST_PASSWORD

pub sound-with : {kept : SessionView} {talk : Talk} {lists : Lists}
    → IsTied kept talk → HasRoom lists talk.pending → IsSound kept talk lists
sound-with tied room = record { phase = tied.phase; quiet = tied.quiet; short = tied.short; room = room }

pub tied-talking : (kept : SessionView) (talk : Talk)
    → talk.phase ≡ Talking → kept.state ≡ Connected → length kept.saved.session.password ≤ LONGEST_PASSWORD → IsTied kept talk
tied-talking kept talk phase state short = record { phase = phase ∙ ap phase_of (sym state); quiet = λ n. absurd (n phase); short = short }
