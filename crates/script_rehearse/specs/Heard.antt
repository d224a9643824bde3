-- What the servers hear of what a client says.
use Rattle.std.specs.Prelude.{if◌then◌else◌, List, [], ◌∷◌}
use Rattle.zk_turns.specs.Turns.{Output, Send, ends_connection}
use Rattle.zk_bench.specs.Served.{Served, is_open, disconnected, with_requests}

-- The connected server gets what is sent. If the client gives the connection up, or its session is over, none is connected
-- any more.
abbrev pub heard : Output → Served → Served
heard (Send bytes) served = if is_open served.connection.phase then with_requests served bytes else served
heard output served = if ends_connection output then disconnected served else served

abbrev pub heard_all : List Output → Served → Served
heard_all [] served = served
heard_all (output ∷ outputs) served = heard_all outputs (heard output served)
