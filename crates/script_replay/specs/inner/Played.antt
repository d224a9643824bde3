-- What contracts of private functions say: nobody has to believe it.
use Rattle.std.specs.Prelude.{◌≡◌, ℕ, List, Option, Some, Result, Ok}
use Rattle.std.specs.Option.{option_map}
use Rattle.zk_turns.specs.View.{View}
use Rattle.zk_client.specs.Clients.{view_of}
use Rattle.script_words.specs.declared.script_fault.ScriptFault.{ScriptFault}
use Rattle.script_replay.specs.declared.player.Player.{Player}
use Rattle.script_replay.specs.ReplayLines.{DriveValue}
use Rattle.script_replay.specs.ReplayLines.{ReplayValue, Drives}
use Rattle.script_replay.specs.Played.{Does, HaltsDrive}

-- the client that a player has, by its view
abbrev pub view_of_player : {A : Type 0} → Player A → Option View
view_of_player player = option_map view_of player.client

-- What was said is done.
pub record DoesSaid (said : Result ReplayValue ScriptFault) (old new : Option View) (text : List ℕ) : Type 0 where
  pub value : ReplayValue
  pub says : said ≡ Ok value
  pub does : Does value old new text

-- What was said is an input, and the client that was there halts at it.
pub record HaltsSaid (said : Result ReplayValue ScriptFault) (old new : Option View) : Type 0 where
  pub value : DriveValue
  pub says : said ≡ Ok (Drives value)
  pub before : View
  pub after : View
  pub was : old ≡ Some before
  pub is : new ≡ Some after
  pub halts : HaltsDrive value before after
