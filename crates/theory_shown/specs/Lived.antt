-- A client that a script drives, over connections to servers of the model, prints what the history has.
use Rattle.std.specs.Prelude.{◌≡◌, ◌<◌, ◌≤◌, ⊤, ℕ, Bool, true, false, List, [], ◌∷◌, ◌++◌, length, Some}
use Rattle.std.specs.List.{FoldsTo}
use Rattle.zk_nodes.specs.History.{History, IsHistory}
use Rattle.zk_turns.specs.Turns.{Start}
use Rattle.zk_turns.specs.Ranges.{IsResumable}
use Rattle.zk_turns.specs.Rule.{Stands}
use Rattle.zk_laws.specs.Headline.{IsCoherentWith}
use Rattle.theory_serving.specs.GoingOn.{GoesOn}
use Rattle.theory_serving.specs.Shown.{connected, Shown}
use Rattle.script_live.specs.Exchanged.{Known}
use Rattle.theory_drivers.specs.Acts.{given_in, taken_in, Act, Happens}
use Rattle.script_live.specs.Flowing.{Begins, Carries, Deed, Ends, Flow, Hears, Reads}
use Rattle.script_live.specs.Frames.{frames}
use Rattle.script_live.specs.Printed.{Prints}

-- ---- which bytes these are

-- A stream that knows its bytes took these, and gave these. What was unsent, what is unsent still, and the piece that was read say no more.
pub record ByKnown (took gave unsent still piece : List ℕ) (old new : Known) : Type 0 where
  pub before : List ℕ
  pub taken : old.took ≡ Some before
  pub then_taken : new.took ≡ Some (before ++ took)
  pub rest : List ℕ
  pub left : old.left ≡ Some (gave ++ rest)
  pub then_left : new.left ≡ Some rest

-- These were written of what was unsent, whatever the stream knows, and the piece that was read is these.
pub record ByClient (took gave unsent still piece : List ℕ) (old new : Known) : Type 0 where
  pub wrote : unsent ≡ took ++ still
  pub read : piece ≡ gave

-- ---- what goes on beside a client and its connection

-- Where it is known what befalls by a deed: deed after deed.
module _ {World : Type 0}
    (Falls : (old : Flow) → (deed : Deed) → (new : Flow) → Carries old deed new → (before after : World) → Type 0) where
  abbrev pub DeedsMeet : (deeds : List Deed) → (old new : Flow) → FoldsTo Carries old deeds new → (before after : World) → Type 0
  DeedsMeet [] old new carries before after = after ≡ before
  DeedsMeet (deed ∷ deeds) old new carries before after =
      (between : World) × Falls old deed carries.0 carries.1 before between × DeedsMeet deeds carries.0 new carries.2 between after

-- ---- servers beside them

module _ (By : (took gave unsent still piece : List ℕ) → (old new : Known) → Type 0) where
  -- While a connection is there, what befalls it are acts with these bytes; without one the history may go on.
  abbrev pub Meanwhile : Bool → (unsent still piece : List ℕ) → (old new : Known) → (before after : Shown) → Type 0
  Meanwhile true unsent still piece old new before after =
      (acts : List Act) × FoldsTo Happens before acts after × By (taken_in acts) (given_in acts) unsent still piece old new
  Meanwhile false unsent still piece old new before after = GoesOn before.history after.history

  -- A connection that begins is one to a server, which holds a beginning of the history.
  abbrev pub Befalls : (old : Flow) → (deed : Deed) → (new : Flow) → Carries old deed new → (before after : Shown) → Type 0
  Befalls old Reads new carries before after = Meanwhile old.is_open old.unsent new.unsent new.held old.known new.known before after
  Befalls old (Hears turn) new carries before after =
      Meanwhile new.is_open (old.unsent ++ frames turn.outputs) new.unsent [] old.known new.known before after
  Befalls old (Begins turn) new carries before after =
      (place : ℕ) × (place ≤ length before.history.transactions)
      × Meanwhile new.is_open (frames turn.outputs) new.unsent [] carries.0.0.known new.known (connected place before) after
  Befalls old (Ends turn) new carries before after = GoesOn before.history after.history
  Befalls old deed new carries before after = after ≡ before

-- A client that has gone through nothing, without a connection, with a session in range; and servers beside all that it does from there on.
pub record LifeMeets (By : (took gave unsent still piece : List ℕ) → (old new : Known) → Type 0) (first last : Flow) (text : List ℕ)
    (prints : Prints first last [] text) (after : Shown) : Type 0 where
  pub apart : first.is_open ≡ false
  pub start : Start
  pub stands : Stands start [] first.view
  pub resumable : IsResumable start
  pub timed : 0 < start.timeout
  pub before : Shown
  pub meets : DeedsMeet (Befalls By) prints.deeds first last prints.carries before after
  pub history : IsHistory after.history

-- ---- what is printed

-- Each good answer that the client has after each deed is the history's at its last seen zxid. So is what is looked up and printed as good.
abbrev pub AllCohere : History → (deeds : List Deed) → (old new : Flow) → FoldsTo Carries old deeds new → Type 0
AllCohere history [] old new carries = ⊤
AllCohere history (deed ∷ deeds) old new carries = IsCoherentWith history carries.0.view × AllCohere history deeds carries.0 new carries.2

-- Whatever such a client has printed, wherever the cuts fell: by the history as it is in the end.
abbrev pub LifeCoheres : ((took gave unsent still piece : List ℕ) → (old new : Known) → Type 0) → Type 0
LifeCoheres By =
    (first last : Flow) (text : List ℕ) (prints : Prints first last [] text) (after : Shown) → LifeMeets By first last text prints after
    → AllCohere after.history prints.deeds first last prints.carries
