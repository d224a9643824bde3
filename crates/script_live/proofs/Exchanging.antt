-- What goes through a stream, one exchange after the other: what leaves the front of what is unsent is joined, and what was read.
use Rattle.std.proofs.Common.{ℕ, List, [], Option, Some, None}
use Rattle.std.specs.Prelude.{Result, Ok, Err, IfOk}
use Rattle.std.specs.Io.KnownBytes.{Consumes, Keeps}
use Rattle.zk_link.specs.Streams.{Sends}
use Rattle.zk_link.proofs.Streaming.{appends_kept, consumes_none, consumes_on, kept_consumes, sends_on}
use Rattle.script_live.specs.Exchanged.{Exchanges, Known}

-- nothing was read after it
pub exchanges_none : (unsent rest : List ℕ) (old new : Known)
    → Sends unsent rest old.took new.took → Keeps old.left new.left → Exchanges unsent rest old new []
exchanges_none unsent rest old new sends keeps = record { sends = sends; gives = consumes_none old.left new.left keeps }

-- some was written, and then a read was made
pub exchanged : {X E : Type 0} (result : Result X E) (piece : X → List ℕ) (unsent rest : List ℕ) (old wrote new : Known)
    → Sends unsent rest old.took wrote.took
    → Keeps old.left wrote.left → Keeps wrote.took new.took
    → IfOk result (λ brought. Consumes wrote.left new.left (piece brought))
    → IfOk result (λ brought. Exchanges unsent rest old new (piece brought))
exchanged (Ok brought) piece unsent rest old wrote new sends left took gives = record {
  sends = (sends.0, sends.1, appends_kept old.took wrote.took new.took sends.0 sends.2 took);
  gives = kept_consumes old.left wrote.left new.left (piece brought) left gives;
}
exchanged (Err e) piece unsent rest old wrote new sends left took gives = tt

-- an exchange that brought nothing, and one after it
pub exchanges_on : (unsent mid rest : List ℕ) (old between new : Known) (piece : List ℕ)
    → Exchanges unsent mid old between [] → Exchanges mid rest between new piece
    → Exchanges unsent rest old new piece
exchanges_on unsent mid rest old between new piece first more = record {
  sends = sends_on unsent mid rest old.took between.took new.took first.sends more.sends;
  gives = consumes_on old.left between.left new.left piece first.gives more.gives;
}

pub ok_exchanges_on : {X E : Type 0} (result : Result X E) (piece : X → List ℕ) (unsent mid rest : List ℕ) (old between new : Known)
    → Exchanges unsent mid old between []
    → IfOk result (λ brought. Exchanges mid rest between new (piece brought))
    → IfOk result (λ brought. Exchanges unsent rest old new (piece brought))
ok_exchanges_on (Ok brought) piece unsent mid rest old between new first more =
    exchanges_on unsent mid rest old between new (piece brought) first more
ok_exchanges_on (Err e) piece unsent mid rest old between new first more = tt
