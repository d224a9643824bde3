-- What a client hears from a connection, and what is printed of it.
use Rattle.std.specs.Prelude.{◌≡◌, ◌⊎◌, ⊤, ℕ, Bool, true, false, List, [], ◌∷◌, ◌++◌, codes}
use Rattle.std.specs.List.{FoldsTo}
use Rattle.zk_turns.specs.Turns.{Input, Opened, Bytes, Cut, Output, Send}
use Rattle.zk_turns.specs.View.{View}
use Rattle.zk_session.specs.declared.states.State.{State}
use Rattle.zk_session.specs.declared.states.State.TheVariants.{Connecting}
use Rattle.zk_turns.specs.Rule.{Rule}
use Rattle.script_words.specs.Lines.{TellsInOrder}
use Rattle.script_replay.specs.Shown.{TellsOutput}
use Rattle.script_replay.specs.Played.{HaltsAt}

-- What is printed of an output: one line, and nothing of what goes to the server.
abbrev pub TellsHeard : Output → List ℕ → Type 0
TellsHeard (Send bytes) text = text ≡ []
TellsHeard output text = TellsOutput output text

-- What is printed of outputs, in order.
abbrev pub TellsEach : List Output → List ℕ → Type 0
TellsEach outputs text = TellsInOrder TellsHeard outputs text

-- a client, and what was printed
pub record Tape : Type 0 where
  pub view : View
  pub printed : List ℕ

abbrev pub tape : View → List ℕ → Tape
tape view printed = record { view = view; printed = printed }

-- A client takes an input by the rule, and what is printed of its outputs stands after what was printed.
pub record Hears (old : Tape) (input : Input) (new : Tape) : Type 0 where
  pub outputs : List Output
  pub told : List ℕ
  pub rule : Rule old.view (record { input = input; outputs = outputs }) new.view
  pub tells : TellsEach outputs told
  pub printed : new.printed ≡ old.printed ++ told

-- The connection may have ended.
abbrev pub MayEnd : Tape → Tape → Type 0
MayEnd old new = (new ≡ old) ⊎ Hears old Cut new

-- An input comes from the connection: bytes, whichever they are, or its end.
abbrev pub IsBrought : Input → Type 0
IsBrought (Bytes bytes) = ⊤
IsBrought Cut = ⊤
IsBrought _ = ⊥

abbrev pub AllBrought : List Input → Type 0
AllBrought [] = ⊤
AllBrought (input ∷ inputs) = IsBrought input × AllBrought inputs

-- Inputs that come from the connection are taken one by one.
pub record Brings (old new : Tape) : Type 0 where
  pub inputs : List Input
  pub brought : AllBrought inputs
  pub heard : FoldsTo Hears old inputs new

-- An input is taken; then the connection may have ended.
pub record Takes (old : Tape) (input : Input) (new : Tape) : Type 0 where
  pub between : Tape
  pub hears : Hears old input between
  pub ends : MayEnd between new

-- An input is taken; then the connection brings what it brings.
pub record Awaits (old : Tape) (input : Input) (new : Tape) : Type 0 where
  pub between : Tape
  pub hears : Hears old input between
  pub brings : Brings between new

-- what is printed if no address connects
abbrev pub down : Tape → Tape
down old = tape old.view (old.printed ++ codes "down\n")

-- whether the server has not answered yet that a connection begins
abbrev pub is_waiting : State → Bool
is_waiting Connecting = true
is_waiting _ = false

-- A connection begins, and brings what it brings, until the server has answered that it begins, or it has ended.
pub record Begins (old new : Tape) : Type 0 where
  pub awaits : Awaits old Opened new
  pub settled : is_waiting new.view.standing.state ≡ false

-- The connection that is there ends. Then either one begins, or none does.
pub record Connects (old new : Tape) : Type 0 where
  pub between : Tape
  pub ends : MayEnd old between
  pub begins : Begins between new ⊎ (new ≡ down between)

-- Halts

-- A client halts at an input that has an effect, and nothing is printed of it.
pub record Halts (old : Tape) (input : Input) (new : Tape) : Type 0 where
  pub halts : HaltsAt input old.view new.view
  pub printed : new.printed ≡ old.printed

-- It halts at one of these inputs, and takes those before it.
abbrev pub HaltsAmong : Tape → List Input → Tape → Type 0
HaltsAmong old [] new = ⊥
HaltsAmong old (input ∷ inputs) new = Halts old input new ⊎ ((between : Tape) × Hears old input between × HaltsAmong between inputs new)

-- It halts at an input, or at one that comes from the connection after it.
pub record HaltsAwaiting (old : Tape) (input : Input) (new : Tape) : Type 0 where
  pub inputs : List Input
  pub brought : AllBrought inputs
  pub halts : HaltsAmong old (input ∷ inputs) new

-- It halts where the connection that is there ends, or where one begins.
abbrev pub HaltsConnecting : Tape → Tape → Type 0
HaltsConnecting old new = Halts old Cut new ⊎ ((between : Tape) × MayEnd old between × HaltsAwaiting between Opened new)
