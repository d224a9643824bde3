-- How far a client and its connection have come.
use Rattle.std.specs.Prelude.{◌≡◌, ◌⊎◌, ⊤, Bool, true, false, if◌then◌else◌, List, [], ◌++◌, is_some}
use Rattle.std.specs.List.{filter, list_any}
use Rattle.zk_turns.specs.Turns.{Input, Turn, Output, Send, ends_connection}
use Rattle.zk_turns.specs.View.{View}
use Rattle.zk_turns.specs.Rule.{Rule, HaltsAs}
use Rattle.zk_client.specs.declared.output.Output.{Output as Made}
use Rattle.zk_client.specs.Clients.{view_of}
use Rattle.zk_client.specs.Steps.{IsQuiet}
use Rattle.zk_client.specs.Views.{said}
use Rattle.script_words.specs.declared.stop.LineStop.{LineStop}
use Rattle.script_words.specs.declared.stop.LineStop.TheVariants.{Refused, Halted, Memory}
use Rattle.script_live.specs.declared.joint.Joint.{Joint}

-- Whether an output is for the caller: all but what goes to the server.
abbrev pub is_given : Output → Bool
is_given (Send bytes) = false
is_given _ = true

-- A client, whether a connection is there, and what was given to the caller.
pub record Trail : Type 0 where
  pub view : View
  pub is_open : Bool
  pub given : List Output

-- one to which nothing was given
abbrev pub bare_of : {A S : Type 0} → Joint A S → Trail
bare_of joint = record { view = view_of joint.client; is_open = is_some joint.stream; given = [] }

abbrev pub trail_of : {A S : Type 0} → Joint A S → List (Made A) → Trail
trail_of joint outputs = record { view = view_of joint.client; is_open = is_some joint.stream; given = said outputs }

-- whether a connection is there after what is said
abbrev pub kept : List Output → Bool → Bool
kept outputs is_open = if list_any ends_connection outputs then false else is_open

-- One input is handed in. Whether a connection is there was settled before. What is said is given, in order, except what goes to the
-- server. A connection is let go if it is over.
pub record Hears (old : Trail) (input : Input) (new : Trail) : Type 0 where
  pub outputs : List Output
  pub rule : Rule old.view (record { input = input; outputs = outputs }) new.view
  pub is_open : new.is_open ≡ kept outputs old.is_open
  pub given : new.given ≡ old.given ++ filter is_given outputs

-- Memory ran out. The client has halted, at no turn; or what came is lost: it is no turn, or nothing of what its turn said is given.
-- Nothing is refused.
abbrev pub Fails : LineStop → Trail → Trail → Type 0
Fails (Refused fault) old new = ⊥
Fails Halted old new = HaltsAs old.view new.view × (new.given ≡ old.given)
Fails Memory old new = ((new.view ≡ old.view) ⊎ ((turn : Turn) × Rule old.view turn new.view)) × (new.given ≡ old.given)

-- A client halts at no input that has no effect.
abbrev pub IsLoud : LineStop → View → Input → Type 0
IsLoud (Refused fault) view input = ⊤
IsLoud Halted view input = ¬ (IsQuiet view input)
IsLoud Memory view input = ⊤
