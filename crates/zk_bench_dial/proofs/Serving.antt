-- What a bench does where it processes what stands first, and the last zxid stays: by what is at the front of the bytes. Less than a frame
-- changes nothing, a length below 0 ends the connection, and a whole frame is the next request, whatever that is read as.
use Rattle.std.proofs.Common.{◌≡◌, ◌<◌, ◌+◌, ◌^◌, ℕ, ℤ, Bool, true, false, List, arith, length, take, drop, refl}
use Rattle.std.proofs.Common.{[], length-take-le, length-drop, subst, sym}
use Rattle.zk_frames.specs.Frame.{IsNegative}
use Rattle.zk_nodes.specs.History.{newest, IsHistory}
use Rattle.zk_history.specs.HistoryView.{history_of}
use Rattle.zk_laws.specs.Messages.{Request}
use Rattle.theory_serving.specs.Wires.{IsFor, StandsFirst}
use Rattle.zk_bench.specs.declared.frames.Front.{Front}
use Rattle.zk_bench.specs.declared.frames.Front.TheVariants.{Unfinished, Negative, Whole}
use Rattle.zk_bench.specs.Front.{IsFramed, IsFront, IsShort, IsWhole}
use Rattle.zk_bench.specs.Served.{ended, is_open, Continues, Served}
use Rattle.zk_bench.specs.Stepping.{shown_of, IsReady, ProcessesFirst}
use Rattle.zk_bench.proofs.Stepped.{continues_so}
use Rattle.zk_bench_dial.specs.BenchActs.{Answers, GoesBy, ProcessesNext}
use Rattle.zk_bench_dial.proofs.Acting.{goes_next, goes_nowhere, goes_over}
use Rattle.zk_bench_dial.proofs.Staying.{stays}

-- What the clauses of `Bench::process` say of a call that memory sufficed for.
pub record Processed (old new : Served) : Type 0 where
  pub idle : is_open old.connection.phase ≡ false → new ≡ old
  pub waits : IsShort old.connection.requests → new ≡ old
  pub ends : is_open old.connection.phase ≡ true → IsNegative old.connection.requests → new ≡ ended old
  pub serves : (request : Request) (xid : ℤ) (payload rest : List ℕ) → IsReady old → is_open old.connection.phase ≡ true
      → StandsFirst request xid payload rest old.connection.requests → IsFor request (shown_of old).server.stage
      → ProcessesFirst request xid payload (shown_of old) (shown_of new)
  pub history : Continues old.history new.history

small_part : (bytes : List ℕ) (count : ℕ) → IsWhole bytes count → length (take count (drop 4 bytes)) < 2 ^ 31
small_part bytes count whole =
    let long : length (take count (drop 4 bytes)) ≡ count =
    length-take-le count (drop 4 bytes) (omega (arith, length-drop 4 bytes, whole.there)) in omega (arith, long, whole.small)

next : (old new : Served) (count : ℕ) → is_open old.connection.phase ≡ true → IsWhole old.connection.requests count
    → IsFramed old.connection.requests (Whole count) → IsReady old → IsHistory (history_of old.history) → Processed old new
    → ProcessesNext old new
next old new count up whole framed ready is done = record {
  up = up;
  payload = take count (drop 4 old.connection.requests);
  rest = drop (4 + count) old.connection.requests;
  whole = framed;
  small = small_part old.connection.requests count whole;
  history = is;
  goes_on = continues_so old.history new.history done.history;
  does = λ request xid payload rest stands is_for. done.serves request xid payload rest ready up stands is_for;
}

served_open : (front : Front) (old new : Served) → is_open old.connection.phase ≡ true → IsFront old.connection.requests front
    → IsFramed old.connection.requests front → IsReady old → IsHistory (history_of old.history) → Processed old new
    → new.history ≡ old.history → GoesBy Answers old [] [] new
served_open Unfinished old new up stands framed ready is done same = goes_nowhere old new (done.waits stands)
served_open Negative old new up stands framed ready is done same =
    subst (λ (s : Served). GoesBy Answers old [] [] s) (sym (done.ends up stands)) (goes_over old)
served_open (Whole count) old new up stands framed ready is done same =
    goes_next old new (next old new count up stands framed ready is done) same

served_so : (up : Bool) (front : Front) (old new : Served) → is_open old.connection.phase ≡ up → IsFront old.connection.requests front
    → IsFramed old.connection.requests front → IsReady old → IsHistory (history_of old.history) → Processed old new
    → new.history ≡ old.history → GoesBy Answers old [] [] new
served_so true front old new up stands framed ready is done same = served_open front old new up stands framed ready is done same
served_so false front old new up stands framed ready is done same = goes_nowhere old new (done.idle up)

pub served : (front : Front) (old new : Served) → IsFront old.connection.requests front → IsFramed old.connection.requests front
    → IsReady old → IsHistory (history_of old.history) → IsHistory (history_of new.history) → Processed old new
    → newest 0 new.history.transactions ≡ newest 0 old.history.transactions → GoesBy Answers old [] [] new
served front old new stands framed ready is later done last =
    served_so (is_open old.connection.phase) front old new refl stands framed ready is done
    (stays old.history new.history done.history later.rising last)
