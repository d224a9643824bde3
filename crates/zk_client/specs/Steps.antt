-- Parts of one step.
use Rattle.std.specs.Prelude.{◌≡◌, ℕ, [], ◌∷◌, true}
use Rattle.std.specs.Prelude.{false}
use Rattle.zk_turns.specs.Turns.{Input, Opened, Bytes, Cut, Now, Call as Asks, Ticks}
use Rattle.zk_turns.specs.Past.{is_final}
use Rattle.zk_turns.specs.Taken.{NothingIsDue}
use Rattle.zk_turns.specs.Rule.{IsOpen, after_signals}
use Rattle.zk_turns.specs.View.{View}

-- The inputs without effect: where there is no connection, and none may begin, and a moment at which nothing is due.
abbrev pub ComesToNothing : View → Input → Type 0
ComesToNothing view Opened = is_final view.standing.state ≡ true
ComesToNothing view (Bytes bytes) = ¬ (IsOpen view.standing.state)
ComesToNothing view Cut = ¬ (IsOpen view.standing.state)
ComesToNothing view (Now moment) = NothingIsDue view moment
ComesToNothing view (Asks ticket asked) = ⊥

abbrev pub IsQuiet : View → Input → Type 0
IsQuiet view input = (view.standing.halted ≡ false) × ComesToNothing view input

-- The same of a moment and an input after it: nothing is due at the moment, and nothing comes of the input then.
abbrev pub IsQuietAt : View → (moment : ℕ) → Input → Type 0
IsQuietAt view moment input =
    (view.standing.halted ≡ false) × NothingIsDue view moment × ComesToNothing (after_signals view (Ticks moment ∷ [])) input
