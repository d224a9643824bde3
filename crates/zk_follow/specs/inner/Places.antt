-- What contracts of private functions say of places: nobody has to believe it.
use Rattle.std.specs.Prelude.{◌≡◌, ◌<◌, ◌==◌, ℕ, Bool, true, false, List, length, bytes_eq, slice_index_or}
use Rattle.zk_nodes.specs.Path.{Text}
use Rattle.zk_turns.specs.Turns.{Output}
use Rattle.zk_turns.specs.Turns as turns
use Rattle.zk_follow.specs.declared.subject.Subject.{Subject}
use Rattle.zk_follow.specs.Following.{is_among}

-- each is below the next
abbrev pub IsAscending : List ℕ → Type 0
IsAscending places = (i j : ℕ) → i < j → j < length places → slice_index_or places i 0 < slice_index_or places j 0

-- Of the first subjects, as many as `count` says, each that passes a test has its place among these.
abbrev pub HasEach : {A : Type 0} → (test : Subject A → Bool) → (count : ℕ) → List (Subject A) → (places : List ℕ) → Type 0
HasEach {A} test count subjects places =
    (k : ℕ) (d : Subject A) → k < count → test (slice_index_or subjects k d) ≡ true → is_among k places ≡ true

-- whether an output names a subject of this ticket and this path
abbrev pub is_named : ℕ → Text → Output → Bool
is_named ticket path (turns.Answer its outcome) = ticket == its
is_named ticket path (turns.Report at side event) = bytes_eq at path
is_named ticket path _ = false

-- whether an output may change a subject of this ticket and this path
abbrev pub is_heard_by : ℕ → Text → Output → Bool
is_heard_by ticket path (turns.Answer its outcome) = ticket == its
is_heard_by ticket path (turns.Report at side event) = bytes_eq at path
is_heard_by ticket path (turns.Enters state) = true
is_heard_by ticket path _ = false

-- Those are as they were whose places are not among these.
abbrev pub AreSameBut : {X : Type 0} → (places : List ℕ) → (old new : List X) → Type 0
AreSameBut {X} places old new = (k : ℕ) (d : X) → is_among k places ≡ false → slice_index_or new k d ≡ slice_index_or old k d
