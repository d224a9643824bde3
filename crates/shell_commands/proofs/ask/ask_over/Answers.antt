-- What `ask` ensures of each end is what is promised of its status. It is never `More`: one call is never cut off, by the case of what came
-- of it (`never_more`).
use Rattle.std.proofs.Common.{◌≡◌, ◌≢◌, ℕ, List, true, false, ap, sym, refl}
use Rattle.zk_link.specs.FarEnds.{FarEnd}
use Rattle.clap.specs.Words.{Text}
use Rattle.shell_ask.specs.Asking.{Coming, ComesOf, Answered, Late}
use Rattle.shell_ask.specs.Printing.{end_of, is_read, told}
use Rattle.shell_ask.specs.declared.end.CallEnd.{CallEnd}
use Rattle.shell_ask.specs.declared.end.CallEnd.TheVariants as ends
use Rattle.zk_conversation.specs.Calls.{Call}
use Rattle.zk_conversation.specs.Results.{NoNode, Refused, Found, Read, Listing, Made, Done, Brought}
use Rattle.zk_turns.specs.Turns.{Replied, ConnectionLoss, SessionExpired, SessionClosed, NotConnected, TooManyWatches, TooLarge}
use Rattle.zk_turns.specs.Turns.{TooManyPending}
use Rattle.shell_commands.specs.Asks.{TellsWhy, status_of}
use Rattle.shell_commands.proofs.ask.ask_over.Goals as goal

-- one call is never cut off
never_more : (coming : Coming) → end_of coming ≢ ends.More
never_more (Answered (Replied zxid NoNode)) = λ e. cc
never_more (Answered (Replied zxid (Refused number))) = λ e. cc
never_more (Answered (Replied zxid (Found stat))) = λ e. cc
never_more (Answered (Replied zxid (Read bytes stat))) = λ e. cc
never_more (Answered (Replied zxid (Listing names stat))) = λ e. cc
never_more (Answered (Replied zxid (Made path))) = λ e. cc
never_more (Answered (Replied zxid (Brought bytes))) = λ e. cc
never_more (Answered (Replied zxid Done)) = λ e. cc
never_more (Answered ConnectionLoss) = λ e. cc
never_more (Answered SessionExpired) = λ e. cc
never_more (Answered SessionClosed) = λ e. cc
never_more (Answered NotConnected) = λ e. cc
never_more (Answered TooManyWatches) = λ e. cc
never_more (Answered TooLarge) = λ e. cc
never_more (Answered TooManyPending) = λ e. cc
never_more (Late was_sent false) = λ e. cc
never_more (Late was_sent true) = λ e. cc

pub returns-in-More-clause-more : goal.returns-in-More-clause-more
returns-in-More-clause-more g c = λ _.
    let told = c.in-More.ensures.told tt in
    never_more told.0 (sym told.2)

pub returns-in-Done-clause-done : goal.returns-in-Done-clause-done
returns-in-Done-clause-done g c = λ _.
    let done = c.in-Done.ensures.done refl in
    (done.1, record { coming = done.0; comes = done.2; done = done.3; prints = done.4 }, done.5, done.6)

-- What is told of an end by which the call is not done is promised of its status.
undone : {A : Type 0} {far : FarEnd} {call : Call} {name : Text} (end : CallEnd) (P : List ℕ → Type 0) (Q : Type 0)
    → ((coming : Coming) × ComesOf A far call coming × (end ≡ end_of coming) × P (told (is_read call) name coming) × Q)
    → (text : List ℕ) × TellsWhy A far call name (status_of end) text × P text × Q
undone {call = call} {name = name} end P Q why = (
  told (is_read call) name why.0,
  record { coming = why.0; comes = why.1; ends = ap status_of why.2; tells = refl },
  why.3,
  why.4,
)

pub returns-in-NoNode-clause-undone : goal.returns-in-NoNode-clause-undone
returns-in-NoNode-clause-undone g c = λ _. undone ends.NoNode _ _ (c.in-NoNode.ensures.told tt)

pub returns-in-Refused-clause-undone : goal.returns-in-Refused-clause-undone
returns-in-Refused-clause-undone g c = λ _. undone ends.Refused _ _ (c.in-Refused.ensures.told tt)

pub returns-in-Unconnected-clause-undone : goal.returns-in-Unconnected-clause-undone
returns-in-Unconnected-clause-undone g c = λ _. undone ends.Unconnected _ _ (c.in-Unconnected.ensures.told tt)

pub returns-in-Unanswered-clause-undone : goal.returns-in-Unanswered-clause-undone
returns-in-Unanswered-clause-undone g c = λ _. undone ends.Unanswered _ _ (c.in-Unanswered.ensures.told tt)
