-- What may happen to a client in a schedule: for each of its turns, the entry that may stand there.
use Rattle.std.proofs.Common.{ℕ, ◌≡◌, ◌≤◌, false, List, [], ◌∷◌, ◌++◌, drop, length, refl, ap, ◌∙◌}
use Rattle.std.proofs.Math.Seq.{drop-append_seam}
use Rattle.zk_nodes.specs.History.{History}
use Rattle.zk_conversation.specs.Calls.{Call}
use Rattle.zk_turns.specs.Turns.{Start, Output, Forgets, Halts, Bytes, Cut, Now, Call as Calling, Opened as Opening}
use Rattle.zk_turns.specs.Taken.{past_of}
use Rattle.zk_laws.specs.ServerSteps.{Waiting}
use Rattle.zk_laws.specs.Served.{Entry, Goes_on, items_in, wire_of, is_going, IsServing}
use Rattle.theory_serving.specs.Wires.{item_of}
use Rattle.theory_rules.specs.Next.{end_of}
use Rattle.theory_rules.specs.Leads.{IsBehind}

pub opens : (h : History) (start : Start) (entries : List Entry) (place : ℕ) (outputs : List Output)
    → IsServing h start entries → place ≤ length h.transactions
    → IsServing h start (Goes_on place (item_of Opening outputs) ∷ entries)
opens h start entries place outputs s low = (low, s)

pub opened_end : (h : History) (entries : List Entry) (place : ℕ) (outputs : List Output)
    → IsBehind place (λ side path. false) Waiting (end_of h (Goes_on place (item_of Opening outputs) ∷ entries))
opened_end h entries place outputs = record { place = refl; watches = λ side path. refl; stage = refl }

pub opened_wire : (h : History) (entries : List Entry) (place : ℕ) (outputs : List Output)
    → ((wire_of h (Goes_on place (item_of Opening outputs) ∷ entries)).processed ≡ 0)
    × ((wire_of h (Goes_on place (item_of Opening outputs) ∷ entries)).coming ≡ [])
opened_wire h entries place outputs = (refl, refl)

-- without a connection bytes of any kind may come, and the client does not take them
pub strays : (h : History) (start : Start) (entries : List Entry) (place : ℕ) (bytes : List ℕ) (outputs : List Output)
    → IsServing h start entries → is_going (past_of start (items_in entries)) ≡ false
    → IsServing h start (Goes_on place (item_of (Bytes bytes) outputs) ∷ entries)
strays h start entries place bytes outputs s off = (λ on. absurd cc, s)

pub receives : (h : History) (start : Start) (entries : List Entry) (place : ℕ) (bytes rest : List ℕ) (outputs : List Output)
    → IsServing h start entries → (wire_of h entries).coming ≡ bytes ++ rest
    → IsServing h start (Goes_on place (item_of (Bytes bytes) outputs) ∷ entries)
receives h start entries place bytes rest outputs s e = (λ on. (rest, e), s)

pub received_rest : (h : History) (entries : List Entry) (place : ℕ) (bytes rest : List ℕ) (outputs : List Output)
    → (wire_of h entries).coming ≡ bytes ++ rest
    → (wire_of h (Goes_on place (item_of (Bytes bytes) outputs) ∷ entries)).coming ≡ rest
received_rest h entries place bytes rest outputs e = ap (λ (all : List ℕ). drop (length bytes) all) e ∙ drop-append_seam bytes rest

pub cuts : (h : History) (start : Start) (entries : List Entry) (place : ℕ) (outputs : List Output)
    → IsServing h start entries → IsServing h start (Goes_on place (item_of Cut outputs) ∷ entries)
cuts h start entries place outputs s = (tt, s)

pub ticks : (h : History) (start : Start) (entries : List Entry) (place moment : ℕ) (outputs : List Output)
    → IsServing h start entries → IsServing h start (Goes_on place (item_of (Now moment) outputs) ∷ entries)
ticks h start entries place moment outputs s = (tt, s)

pub asks : (h : History) (start : Start) (entries : List Entry) (place ticket : ℕ) (call : Call) (outputs : List Output)
    → IsServing h start entries → IsServing h start (Goes_on place (item_of (Calling ticket call) outputs) ∷ entries)
asks h start entries place ticket call outputs s = (tt, s)

pub forgets : (h : History) (start : Start) (entries : List Entry) (place : ℕ)
    → IsServing h start entries → IsServing h start (Goes_on place Forgets ∷ entries)
forgets h start entries place s = (tt, s)

pub halts : (h : History) (start : Start) (entries : List Entry) (place : ℕ)
    → IsServing h start entries → IsServing h start (Goes_on place Halts ∷ entries)
halts h start entries place s = (tt, s)
