-- What becomes of the calls that wait in a line.
use Rattle.std.specs.Prelude.{◌&&◌, ◌==◌, not, min, nat_le, ℕ, Bool, true, false, List, [], ◌∷◌, ◌++◌, fold, Option, Some, None}
use Rattle.std.specs.Prelude.{if◌then◌else◌}
use Rattle.std.specs.List.{filter}
use Rattle.std.specs.Option.{option_map}
use Rattle.zk_conversation.specs.Calls.{Call, Exists, GetData, GetChildren, Raw}
use Rattle.zk_conversation.specs.declared.raw.RawOperation.{RawOperation}
use Rattle.zk_conversation.specs.declared.raw.RawOperation.TheVariants as raw
use Rattle.zk_conversation.specs.Views.{call_view}
use Rattle.zk_turns.specs.Turns.{Outcome, ConnectionLoss, NotConnected, TooManyPending}
use Rattle.zk_calls.specs.declared.entry.Entry.{Entry}
use Rattle.zk_calls.specs.declared.entry.Ended.{Ended}
use Rattle.zk_calls.specs.declared.entry.Ending.{Ending}
use Rattle.zk_calls.specs.declared.entry.Ending.TheVariants.{Lost, LostOf, Late, Expired}

-- ---- calls

-- whether a request whose bytes a caller spells changes nothing
abbrev pub is_raw_read : RawOperation → Bool
is_raw_read raw.GetAcl = true
is_raw_read raw.Sync = true
is_raw_read raw.MultiRead = true
is_raw_read raw.GetEphemerals = true
is_raw_read raw.GetAllChildrenNumber = true
is_raw_read raw.WhoAmI = true
is_raw_read _ = false

-- a read changes nothing, so that it may be asked twice
abbrev pub is_read : Call → Bool
is_read (Exists path watch) = true
is_read (GetData path watch) = true
is_read (GetChildren path watch) = true
is_read (Raw operation bytes) = is_raw_read operation
is_read _ = false

-- Whether an answer leaves a call waiting for its turn again: it was not sent, or it is a read whose reply was lost. A write that was sent
-- may have happened: it is never asked twice.
abbrev pub goes_back : Call → Outcome → Bool
goes_back asked NotConnected = true
goes_back asked TooManyPending = true
goes_back asked ConnectionLoss = is_read asked
goes_back asked _ = false

-- whether a moment has come, if there is one
abbrev pub has_come : (now : ℕ) → Option ℕ → Bool
has_come now None = false
has_come now (Some moment) = nat_le moment now

-- ---- calls that wait no more

-- whether a call waits no more: it was handed over and the connection is another one; another call of its ticket was answered; its limit
-- has come; or the session has expired
abbrev pub is_ended : {A : Type 0} → Ending → Entry A → Bool
is_ended Lost entry = entry.is_sent
is_ended (LostOf ticket) entry = entry.is_sent && (entry.ticket == ticket)
is_ended (Late now) entry = has_come now entry.until
is_ended Expired entry = true

-- those of a line, and those that go on waiting, in the same order
abbrev pub ended : {A : Type 0} → Ending → List (Entry A) → List (Entry A)
ended ending entries = filter (is_ended ending) entries

abbrev pub left : {A : Type 0} → Ending → List (Entry A) → List (Entry A)
left ending entries = filter (λ entry. not (is_ended ending entry)) entries

-- what is told of one
abbrev pub ended_of : {A : Type 0} → Entry A → Ended
ended_of entry = record { ticket = entry.ticket; was_sent = entry.is_sent }

-- ---- one call

-- the first that passes a test
abbrev pub first_where : {X : Type 0} → (X → Bool) → List X → Option X
first_where test [] = None
first_where test (x ∷ xs) = if test x then Some x else first_where test xs

-- what is made of the first that passes a test is there instead of it; the others are as they were, in their order
abbrev pub with_first : {X : Type 0} → (X → Bool) → (X → List X) → List X → List X
with_first test change [] = []
with_first test change (x ∷ xs) = if test x then change x ++ xs else x ∷ with_first test change xs

-- whether a call waits for its turn
abbrev pub waits_turn : {A : Type 0} → Entry A → Bool
waits_turn entry = not entry.is_sent

-- The call whose turn it is: the first of those that wait for theirs, in the order of asking. It is handed over.
abbrev pub next_call : {A : Type 0} → List (Entry A) → Option (ℕ × Call)
next_call entries = option_map (λ entry. (entry.ticket, call_view entry.call)) (first_where waits_turn entries)

abbrev pub first_handed : {A : Type 0} → List (Entry A) → List (Entry A)
first_handed entries = with_first waits_turn (λ entry. record entry { is_sent = true } ∷ []) entries

-- An answer is to the first call of its ticket that was handed over. The call waits for its turn again, in its place, or it is settled and
-- is in the line no more.
abbrev pub after_answer : {A : Type 0} → Outcome → Entry A → List (Entry A)
after_answer outcome entry = if goes_back (call_view entry.call) outcome then record entry { is_sent = false } ∷ [] else []

abbrev pub answered : {A : Type 0} → (ticket : ℕ) → Outcome → List (Entry A) → List (Entry A)
answered ticket outcome entries = with_first (is_ended (LostOf ticket)) (after_answer outcome) entries

-- whether the call of this ticket that was handed over is asked again where its reply is lost
abbrev pub is_asked_again : {A : Type 0} → (ticket : ℕ) → List (Entry A) → Bool
is_asked_again ticket entries =
    elim (first_where (is_ended (LostOf ticket)) entries) [ None ↦ false | Some entry ↦ is_read (call_view entry.call) ]

-- whether it is settled, so that its asker is told
abbrev pub settles_one : {A : Type 0} → Outcome → Option (Entry A) → Bool
settles_one outcome None = false
settles_one outcome (Some entry) = not (goes_back (call_view entry.call) outcome)

abbrev pub settles : {A : Type 0} → (ticket : ℕ) → Outcome → List (Entry A) → Bool
settles ticket outcome entries = settles_one outcome (first_where (is_ended (LostOf ticket)) entries)

-- ---- limits

-- the first of two moments
abbrev pub first_of : (moment other : Option ℕ) → Option ℕ
first_of None other = other
first_of (Some moment) None = Some moment
first_of (Some moment) (Some other) = Some (min moment other)

-- the first limit of them
abbrev pub first_limit : {A : Type 0} → List (Entry A) → Option ℕ
first_limit entries = fold (λ first entry. first_of first entry.until) None entries
