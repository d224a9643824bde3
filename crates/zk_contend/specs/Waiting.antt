-- What a contender asks while it waits.
use Rattle.std.specs.Prelude.{ℕ, ℤ, ◌≡◌, ◌≢◌, ◌⊎◌, ⊤, Bool, true, false, bytes_eq, List, [], Some, None}
use Rattle.std.specs.List.{FoldsTo}
use Rattle.zk_nodes.specs.Path.{Text}
use Rattle.zk_records.specs.declared.event.Event.TheVariants.{Deleted}
use Rattle.zk_turns.specs.Meaning.{Among}
use Rattle.zk_turns.specs.Turns.{Outcome, Replied}
use Rattle.zk_turns.specs.View.{View}
use Rattle.zk_contend.specs.declared.listed.Listed.{Listed}
use Rattle.zk_contend.specs.declared.place.Ask.{Ask}
use Rattle.zk_contend.specs.declared.place.Ask.TheVariants.{ReadOwn, ReadBehind}
use Rattle.zk_contend.specs.declared.place.Place.TheVariants.{At}
use Rattle.zk_contend.specs.Contenders.{is_named}
use Rattle.zk_contend.specs.Dues.{IsDue}
use Rattle.zk_contend.specs.Nodes.{Closes, Expires, Fails, GivesUp, HearsOne, Leads, Moment, Notes, Stage}
use Rattle.zk_contend.specs.Settling.{is_others, is_unread_by}

-- It reads its place, or one that it waits for.
abbrev pub is_reading : Ask → Bool
is_reading ReadOwn = true
is_reading (ReadBehind place) = true
is_reading _ = false

-- By a read its place is not there, or is another session's.
abbrev pub is_others_by : (session : ℤ) → Outcome → Bool
is_others_by session (Replied zxid result) = is_others session result
is_others_by session _ = false

-- What ends a wait: the deletion of its place, or of one that it waits for, is reported; a read says that one of these is not there, or
-- not for this session; memory runs out; it is given up; its session is over.
abbrev pub EndsWait : (own : Text) → (behind : List Text) → Moment → Type 0
EndsWait own behind (Notes path Deleted) = (bytes_eq path own ≡ true) ⊎ (is_named path behind ≡ true)
EndsWait own behind (HearsOne view now outcome) =
    (is_unread_by outcome ≡ true) ⊎ (is_others_by view.saved.session.session outcome ≡ true)
EndsWait own behind (Fails view outcome) = ⊤
EndsWait own behind GivesUp = ⊤
EndsWait own behind Expires = ⊤
EndsWait own behind Closes = ⊤
EndsWait own behind _ = ⊥

-- A contender that has heard for whom it waits asks for nothing but reads of those and of its place, until something ends its wait:
-- whatever else changes in the directory, and however long it waits, it lists no more. By `WatchesOne` it reads a node only if the client
-- does not show it.
abbrev pub WaitsQuietly : (A : Type 0) → Type 0
WaitsQuietly A = (first last : Stage A) (moments : List Moment) (own : Text) (listed : Listed A) (view : View) (now : ℕ) (ask : Ask)
    → first.contender.place ≡ At own (Some listed) → first.contender.asked ≡ None → listed.behind.items ≢ []
    → FoldsTo Leads first moments last → is_reading ask ≡ false → IsDue view now last.contender ask
    → (moment : Moment) × Among moment moments × EndsWait own listed.behind.items moment
