-- What a reply answers.
use Rattle.std.specs.Prelude.{ℕ, ℤ, pos, negsuc, Bool, ◌==◌, if◌then◌else◌, List, [], ◌∷◌, ◌++◌, length, Option, Some, None, Result, Ok}
use Rattle.std.specs.Prelude.{Err}
use Rattle.std.specs.Ordering.{int_eq}
use Rattle.zk_jute.specs.declared.fault.TakeError.{TakeError}
use Rattle.zk_jute.specs.Layout.{Value}
use Rattle.zk_jute.specs.Reading.{reading}
use Rattle.zk_records.specs.Layouts.{request_header}
use Rattle.zk_records.specs.declared.request_header.RequestHeader.{RequestHeader}
use Rattle.script_stream.specs.declared.asked.Topic.{Topic}
use Rattle.script_stream.specs.declared.asked.Topic.TheVariants.{Notice, Reply, Unasked}

-- the type of the last request with this xid, or what was found before them
abbrev pub last_type : Option ℤ → List RequestHeader → ℤ → Option ℤ
last_type found [] xid = found
last_type found (header ∷ headers) xid = last_type (if int_eq header.xid xid then Some header.operation else found) headers xid

-- numbers that need no request before them: of a ping, of auth, and of setWatches
abbrev pub topic_by : Option ℤ → ℤ → Topic
topic_by (Some operation) xid = Reply operation
topic_by None (pos n) = Unasked
topic_by None (negsuc n) =
    if n == 1 then Reply (pos 11)
    else if n == 3 then Reply (pos 100)
    else if n == 7 then Reply (pos 101)
    else Unasked

-- What a frame of the server with this xid is about: -1 is that of a notice, and another that of the last request with it.
unfoldable pub topic_of : List RequestHeader → ℤ → Topic
topic_of asked xid = if int_eq xid (negsuc 0) then Notice else topic_by (last_type None asked xid) xid

abbrev pub noted_by : List RequestHeader → Result (Value request_header × List ℕ) TakeError → List RequestHeader
noted_by asked (Ok found) = asked ++ record { xid = found.0.0; operation = found.0.1 } ∷ []
noted_by asked (Err fault) = asked

-- the requests so far, and that of this payload
abbrev pub noted : List RequestHeader → List ℕ → List RequestHeader
noted asked payload = noted_by asked (reading request_header (length payload) payload)
