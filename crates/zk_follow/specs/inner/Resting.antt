-- What contracts of private functions say of subjects that rest: nobody has to believe it.
use Rattle.std.specs.Prelude.{◌≡◌, ◌<◌, ◌==◌, ◌&&◌, ◌||◌, ℕ, Bool, true, false, List, length}
use Rattle.std.specs.Prelude.{slice_index_or, bytes_eq}
use Rattle.std.specs.List.{list_any}
use Rattle.zk_nodes.specs.Path.{Text}
use Rattle.zk_conversation.specs.Results.{Found}
use Rattle.zk_turns.specs.Turns.{Outcome, Replied, Enters, Output}
use Rattle.zk_turns.specs.Turns as turns
use Rattle.zk_turns.specs.View.{View}
use Rattle.zk_follow.specs.declared.subject.Subject.{Subject}
use Rattle.zk_follow.specs.Following.{heard_all, is_among, is_awaited, is_due, is_reported, is_resting, is_still, woken}
use Rattle.zk_follow.specs.inner.Owning.{is_of}
use Rattle.zk_follow.specs.inner.Places.{is_heard_by}

-- ---- what outputs are about

abbrev pub tells_fields : Outcome → Bool
tells_fields (Replied zxid (Found stat)) = true
tells_fields _ = false

abbrev pub is_reply : Outcome → Bool
is_reply (Replied zxid result) = true
is_reply _ = false

-- Whether an output may be about a subject of this ticket and this path, beside these others. An answer with the fields of a node is about
-- those at the paths of its ticket, and where a watch may be that of no subject, about all.
abbrev pub is_about : {A : Type 0} → (is_foreign : Bool) → List (Subject A) → ℕ → Text → Output → Bool
is_about is_foreign all ticket path (turns.Answer its outcome) =
    ticket == its || (tells_fields outcome && (is_foreign || is_of all its path))
is_about is_foreign all ticket path (turns.Report at side event) = bytes_eq at path
is_about is_foreign all ticket path (Enters state) = true
is_about is_foreign all ticket path _ = false

-- whether an output may be about some subject
abbrev pub is_about_some : Output → Bool
is_about_some (turns.Answer its outcome) = true
is_about_some (turns.Report at side event) = true
is_about_some (Enters state) = true
is_about_some _ = false

-- whether an output may be about each subject
abbrev pub is_about_all : (is_foreign : Bool) → Output → Bool
is_about_all is_foreign (turns.Answer its outcome) = is_foreign && tells_fields outcome
is_about_all is_foreign (Enters state) = true
is_about_all is_foreign _ = false

-- whether an answer is a reply, and a subject of its ticket has this path
abbrev pub is_beside : {A : Type 0} → List (Subject A) → Text → Output → Bool
is_beside all path (turns.Answer its outcome) = is_reply outcome && is_of all its path
is_beside all path _ = false

-- whether by an output what is kept of this path may have become good, beside these subjects
abbrev pub may_show : {A : Type 0} → (is_foreign : Bool) → List (Subject A) → Text → Output → Bool
may_show is_foreign all path (turns.Answer its outcome) = is_reply outcome && (is_foreign || is_of all its path)
may_show is_foreign all path (Enters state) = true
may_show is_foreign all path _ = false

-- whether by an output what is kept of any path may have
abbrev pub may_show_any : (is_foreign : Bool) → Output → Bool
may_show_any is_foreign (turns.Answer its outcome) = is_foreign && is_reply outcome
may_show_any is_foreign (Enters state) = true
may_show_any is_foreign _ = false

-- A visit may leave it as it is: it rests, or it is awaited.
abbrev pub may_wait : {A : Type 0} → View → Subject A → Bool
may_wait view subject = is_resting view subject || is_awaited view subject

-- Whose place is not among these may wait, and hears nothing by the outputs.
abbrev pub AreLeft : {A : Type 0} → View → List Output → List (Subject A) → (places : List ℕ) → Type 0
AreLeft {A} view outputs subjects places =
    (k : ℕ) (d : Subject A) → k < length subjects → is_among k places ≡ false
    → (may_wait view (slice_index_or subjects k d) ≡ true)
    × (list_any (is_heard_by (slice_index_or subjects k d).ticket (slice_index_or subjects k d).path) outputs ≡ false)

-- Whose place is not among these rests.
abbrev pub AreAtRest : {A : Type 0} → View → List (Subject A) → (places : List ℕ) → Type 0
AreAtRest {A} view subjects places =
    (k : ℕ) (d : Subject A) → k < length subjects → is_among k places ≡ false → is_resting view (slice_index_or subjects k d) ≡ true

-- Whose place is not among these is as it was once it has heard what was said, and has no refusal whose moment has come.
abbrev pub AreUnmoved : {A : Type 0} → (now : ℕ) → List Output → List (Subject A) → (places : List ℕ) → Type 0
AreUnmoved {A} now outputs subjects places =
    (k : ℕ) (d : Subject A) → k < length subjects → is_among k places ≡ false
    → (heard_all now (slice_index_or subjects k d) outputs ≡ slice_index_or subjects k d)
    × (woken now (slice_index_or subjects k d) ≡ slice_index_or subjects k d)

-- Whose place is not among these is due.
abbrev pub AreDueBut : {A : Type 0} → List (Subject A) → (places : List ℕ) → Type 0
AreDueBut {A} subjects places =
    (k : ℕ) (d : Subject A) → k < length subjects → is_among k places ≡ false
    → is_due (slice_index_or subjects k d).progress ≡ true

-- Whose place is not among these is still, and its path is not reported.
abbrev pub AreTold : {A : Type 0} → View → List Output → List (Subject A) → (places : List ℕ) → Type 0
AreTold {A} view outputs subjects places =
    (k : ℕ) (d : Subject A) → k < length subjects → is_among k places ≡ false
    → (is_still view (slice_index_or subjects k d) ≡ true) × (is_reported (slice_index_or subjects k d).path outputs ≡ false)

abbrev pub is_report : Output → Bool
is_report (turns.Report at side event) = true
is_report _ = false
