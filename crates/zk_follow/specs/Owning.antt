-- Which calls that wait leave a watch for a subject that has their ticket, or none.
use Rattle.std.specs.Prelude.{◌≡◌, ◌==◌, ◌&&◌, ◌||◌, not, Bool, true, ℕ, List, is_some}
use Rattle.std.specs.List.{list_any, AllByRecursion}
use Rattle.zk_conversation.specs.Pending.{Pending, Waiting, Part_waits, Call_waits}
use Rattle.zk_conversation.specs.Questions.{Question, watched_side}
use Rattle.zk_follow.specs.declared.subject.Subject.{Subject}
use Rattle.zk_follow.specs.Following.{reads}

-- whether a question reads one of these subjects, by its ticket
abbrev pub is_read_in : {A : Type 0} → List (Subject A) → (ticket : ℕ) → Question → Bool
is_read_in subjects ticket question =
    list_any (λ subject. ticket == subject.ticket && reads subject.side subject.path question) subjects

-- whether it does if it is to leave a watch
abbrev pub is_own_at : {A : Type 0} → List (Subject A) → (ticket : ℕ) → Question → Bool
is_own_at subjects ticket question = not (is_some (watched_side question)) || is_read_in subjects ticket question

abbrev pub is_own : {A : Type 0} → List (Subject A) → Waiting → Bool
is_own subjects (Part_waits last) = true
is_own subjects (Call_waits ticket question) = is_own_at subjects ticket question

-- all that waits is so
abbrev pub AreOwn : {A : Type 0} → List (Subject A) → List Pending → Type 0
AreOwn subjects pending = AllByRecursion (λ one. is_own subjects one.waiting ≡ true) pending
