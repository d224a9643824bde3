-- What the servers hear of a client, in the words of the laws, and that they stay ready: output by output.
use Rattle.std.proofs.Common.{◌≡◌, ℕ, Bool, true, false, List, [], ◌∷◌, refl, subst, if◌then◌else◌}
use Rattle.zk_session.specs.declared.states.State.TheVariants.{Idle, Connecting, Connected, Expired, Closed}
use Rattle.zk_turns.specs.Turns.{Output, Send, Answer, Report, Enters, Drop}
use Rattle.theory_serving.specs.Shown.{Shown, Hears, more_requests}
use Rattle.theory_serving.proofs.Heard.{hears_nothing, hears_bytes, hears_other, hears_end}
use Rattle.zk_bench.specs.declared.phase.Phase.{Phase}
use Rattle.zk_bench.specs.declared.phase.Phase.TheVariants.{Apart, Opening, Accepted, Ended}
use Rattle.zk_bench.specs.Served.{Served, is_open, disconnected, with_requests}
use Rattle.zk_bench.specs.Stepping.{IsReady, phase_of, shown_of}
use Rattle.zk_bench.proofs.Stepped.{ready_disconnected}
use Rattle.script_rehearse.specs.Heard.{heard, heard_all}

-- where bytes are sent, the connected server has them after those that wait
sent_shown : (bench : Served) (bytes : List ℕ) (phase : Phase)
    → shown_of (if is_open phase then with_requests bench bytes else bench)
    ≡ record (shown_of bench) { requests = more_requests (phase_of phase) bench.connection.requests bytes }
sent_shown bench bytes Apart = refl
sent_shown bench bytes Opening = refl
sent_shown bench bytes Accepted = refl
sent_shown bench bytes Ended = refl

-- the servers hear all outputs
pub hears_all : (outputs : List Output) (bench : Served) → Hears outputs (shown_of bench) (shown_of (heard_all outputs bench))
hears_all [] bench = hears_nothing (shown_of bench)
hears_all (Send bytes ∷ outputs) bench =
    let later = hears_all outputs (heard (Send bytes) bench) in
    let new : Shown = shown_of (heard_all outputs (heard (Send bytes) bench)) in
    hears_bytes bytes outputs (shown_of bench) new
    (subst (λ (old : Shown). Hears outputs old new) (sent_shown bench bytes bench.connection.phase) later)
hears_all (Answer ticket transcript ∷ outputs) bench = hears_other (Answer ticket transcript) outputs (shown_of bench)
    (shown_of (heard_all outputs bench)) (λ bytes e. absurd cc) (hears_all outputs bench)
hears_all (Report path side event ∷ outputs) bench = hears_other (Report path side event) outputs (shown_of bench)
    (shown_of (heard_all outputs bench)) (λ bytes e. absurd cc) (hears_all outputs bench)
hears_all (Enters Idle ∷ outputs) bench =
    hears_other (Enters Idle) outputs (shown_of bench) (shown_of (heard_all outputs bench)) (λ bytes e. absurd cc) (hears_all outputs bench)
hears_all (Enters Connecting ∷ outputs) bench = hears_other (Enters Connecting) outputs (shown_of bench)
    (shown_of (heard_all outputs bench)) (λ bytes e. absurd cc) (hears_all outputs bench)
hears_all (Enters Connected ∷ outputs) bench = hears_other (Enters Connected) outputs (shown_of bench) (shown_of (heard_all outputs bench))
    (λ bytes e. absurd cc) (hears_all outputs bench)
hears_all (Enters Expired ∷ outputs) bench =
    hears_end (Enters Expired) outputs (shown_of bench) (shown_of (heard_all outputs (disconnected bench))) refl
    (hears_all outputs (disconnected bench)).history
hears_all (Enters Closed ∷ outputs) bench =
    hears_end (Enters Closed) outputs (shown_of bench) (shown_of (heard_all outputs (disconnected bench))) refl
    (hears_all outputs (disconnected bench)).history
hears_all (Drop fault ∷ outputs) bench = hears_end (Drop fault) outputs (shown_of bench)
    (shown_of (heard_all outputs (disconnected bench))) refl (hears_all outputs (disconnected bench)).history

ready_sent : (bench : Served) (bytes : List ℕ) (up : Bool) → IsReady bench → IsReady (if up then with_requests bench bytes else bench)
ready_sent bench bytes true ready = record { taken = ready.taken; there = ready.there; unwatched = ready.unwatched }
ready_sent bench bytes false ready = ready

ready_heard : (output : Output) (bench : Served) → IsReady bench → IsReady (heard output bench)
ready_heard (Send bytes) bench ready = ready_sent bench bytes (is_open bench.connection.phase) ready
ready_heard (Answer ticket transcript) bench ready = ready
ready_heard (Report path side event) bench ready = ready
ready_heard (Enters Idle) bench ready = ready
ready_heard (Enters Connecting) bench ready = ready
ready_heard (Enters Connected) bench ready = ready
ready_heard (Enters Expired) bench ready = ready_disconnected bench ready
ready_heard (Enters Closed) bench ready = ready_disconnected bench ready
ready_heard (Drop fault) bench ready = ready_disconnected bench ready

-- what is heard leaves each server at a place of the history
pub ready_all : (outputs : List Output) (bench : Served) → IsReady bench → IsReady (heard_all outputs bench)
ready_all [] bench ready = ready
ready_all (output ∷ outputs) bench ready = ready_all outputs (heard output bench) (ready_heard output bench ready)
