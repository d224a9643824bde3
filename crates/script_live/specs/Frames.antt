-- What goes to the server.
use Rattle.std.specs.Prelude.{ℕ, List, []}
use Rattle.std.specs.List.{flat_map}
use Rattle.zk_turns.specs.Turns.{Output, Send}

-- the frame, if an output is one that is sent
abbrev pub frame_in : Output → List ℕ
frame_in (Send bytes) = bytes
frame_in _ = []

-- The bytes of the frames that a client sends, in order.
abbrev pub frames : List Output → List ℕ
frames outputs = flat_map frame_in outputs
