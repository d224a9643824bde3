-- What contracts of private functions say: nobody has to believe it.
use Rattle.std.specs.Prelude.{◌≡◌, ◌≢◌, ℕ, ℤ, List, Ok, Err}
use Rattle.std.specs.Prelude.{Result as Reading}
use Rattle.zk_jute.specs.declared.fault.TakeError.{TakeError}
use Rattle.zk_jute.specs.declared.fault.TakeError.TheVariants.{Memory}
use Rattle.zk_jute.specs.Lenient.{or_empty}
use Rattle.zk_jute.specs.Reading.{◌>>=◌, reading}
use Rattle.zk_nodes.specs.StatLayout.{stat}
use Rattle.zk_records.specs.Layouts.{get_data_response, get_children2_response, create_response}
use Rattle.zk_conversation.specs.Results.{Result, Found, Read, Listing, Made, Done, stat_of, texts_of, result_of}
use Rattle.zk_conversation.specs.Pending.{Waiting, Part_waits, Call_waits}

-- What a call returned, seen by view, is what the reading gives, unless memory ran out.
abbrev pub Reads : {X Y : Type 0} → (X → Y) → Reading X TakeError → Reading Y TakeError → Type 0
Reads view (Ok x) read = read ≡ Ok (view x)
Reads view (Err e) read = e ≢ Memory → read ≡ Err e

-- the records of replies, read one by one
abbrev pub stat_of_reply : (end : ℕ) → List ℕ → Reading Result TakeError
stat_of_reply end bytes = reading stat end bytes >>= λ found. Ok (Found (stat_of found.0))

abbrev pub data_of_reply : (end : ℕ) → List ℕ → Reading Result TakeError
data_of_reply end bytes = reading get_data_response end bytes >>= λ found. Ok (Read found.0.0 (stat_of found.0.1))

abbrev pub names_of_reply : (end : ℕ) → List ℕ → Reading Result TakeError
names_of_reply end bytes = reading get_children2_response end bytes >>= λ found. Ok (Listing (texts_of found.0.0) (stat_of found.0.1))

abbrev pub created_of_reply : (end : ℕ) → List ℕ → Reading Result TakeError
created_of_reply end bytes = reading create_response end bytes >>= λ found. Ok (Made (or_empty found.0))

-- what the reply to a request brings
abbrev pub awaited_result : Waiting → (err : ℤ) → (end : ℕ) → List ℕ → Reading Result TakeError
awaited_result (Part_waits last) err end bytes = Ok Done
awaited_result (Call_waits ticket question) err end bytes = result_of question err end bytes
