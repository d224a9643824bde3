-- An answer that is too long: which call it is for, and what becomes of that call and of a subject.
use Rattle.std.specs.Prelude.{◌&&◌, ◌||◌, ◌++◌, ◌∷◌, not, ℕ, Bool, true, false, List, [], fold, map, Option, Some, None, is_some}
use Rattle.std.specs.Prelude.{if◌then◌else◌}
use Rattle.zk_frames.specs.declared.fault.FrameFault.TheVariants.{TooLong}
use Rattle.zk_turns.specs.Turns.{Fault, Framed, Output, Answer, Drop, TooLarge}
use Rattle.zk_follow.specs.declared.subject.Subject.{Subject}
use Rattle.zk_follow.specs.Refusing.{too_long_for}
use Rattle.zk_calls.specs.declared.entry.Entry.{Entry}
use Rattle.zk_calls.specs.Lines.{is_asked_again}
use Rattle.zk_agent.specs.declared.overlong.Seeking.{Seeking}

-- whether a connection is given up since a frame is too long
abbrev pub is_too_long : Fault → Bool
is_too_long (Framed TooLong) = true
is_too_long _ = false

-- What is found in outputs: whether the connection was given up for that, and the ticket of the first answer after it.
abbrev pub nothing_found : Seeking
nothing_found = record { is_over = false; ticket = None }

abbrev pub found_by : Seeking → Output → Seeking
found_by seeking (Drop fault) = record seeking { is_over = seeking.is_over || is_too_long fault }
found_by seeking (Answer ticket outcome) =
    if seeking.is_over && not (is_some seeking.ticket) then record seeking { ticket = Some ticket } else seeking
found_by seeking _ = seeking

-- The call whose answer is too long. Replies come in the order in which calls were sent, and once a connection is over the client answers
-- the calls that wait in that order: so it is the first that waits (`the_first_waits`).
abbrev pub too_long_in : List Output → Option ℕ
too_long_in given = (fold found_by nothing_found given).ticket

-- What the line hears of that call, ahead of all that the client says: a read is answered so, and is not asked again. A write that was sent
-- may have happened: it is answered as ever that its connection was lost.
abbrev pub answer_of : {A : Type 0} → List (Entry A) → Option ℕ → List Output
answer_of entries None = []
answer_of entries (Some ticket) = if is_asked_again ticket entries then Answer ticket TooLarge ∷ [] else []

abbrev pub with_too_long : {A : Type 0} → List (Entry A) → List Output → List Output
with_too_long entries given = answer_of entries (too_long_in given) ++ given

-- what becomes of subjects: that of the call is refused
abbrev pub refused_by : {A : Type 0} → (now : ℕ) → Option ℕ → List (Subject A) → List (Subject A)
refused_by now None subjects = subjects
refused_by now (Some ticket) subjects = map (too_long_for now ticket) subjects
