-- The request that stands first is processed: its bytes are taken away, and its answer or its code is sent, or the connection ends.
use Rattle.std.proofs.Common.{ℕ, ℤ, pos, ◌≡◌, ◌<◌, refl, ap, sym, ◌∙◌, subst, arith, List, []}
use Rattle.std.proofs.Common.{◌++◌, length, true, false}
use Rattle.std.proofs.lemmas.Bool.Decides.{nat_tests}
use Rattle.zk_frames.specs.Frame.{frame, IsNegative}
use Rattle.zk_records.specs.Layouts.{connect_request}
use Rattle.zk_nodes.specs.History.{History}
use Rattle.zk_history.specs.HistoryView.{history_of}
use Rattle.std.specs.Prelude.{◌^◌, int_lt, Some}
use Rattle.zk_laws.specs.Messages.{Request, Connect, Ask, Restore, Ping}
use Rattle.zk_laws.specs.Parsed.{IsRecord}
use Rattle.theory_serving.specs.Wires.{IsFit, IsFor}
use Rattle.theory_serving.proofs.Fronts.{front_field}
use Rattle.zk_laws.specs.ServerSteps.{Waiting}
use Rattle.theory_serving.specs.GoingOn.{GoesOn}
use Rattle.theory_serving.specs.Steps.{Moves}
use Rattle.theory_serving.specs.Shown.{Shown, Apart}
use Rattle.zk_bench.specs.declared.phase.Phase.{Phase}
use Rattle.zk_bench.specs.declared.phase.Phase.TheVariants as phases
use Rattle.zk_bench.specs.Served.{Served, is_open, ended}
use Rattle.zk_bench.specs.inner.Serving.{SendsHeader}
use Rattle.zk_bench.specs.inner.Stepping.{ProcessesOne, AnswersOne, OwesTo}
use Rattle.zk_bench.specs.Stepping.{IsReady}
use Rattle.zk_bench.specs.inner.Stepping.{HasClient, IsSending}
use Rattle.zk_bench.specs.Stepping.{zxid_of}
use Rattle.zk_bench.specs.Stepping.{shown_of}
use Rattle.zk_bench.proofs.Processed.{ends_after, owed_sent}

-- the bytes of the request are taken away
pub has_front : (b old : Served) (requests : List ℕ)
    → b ≡ old → HasClient old → HasClient (record b { connection = record b.connection { requests = requests } })
has_front b old requests same was = let has : HasClient b = subst HasClient (sym same) was in
    record { ready = record { taken = has.ready.taken; there = has.ready.there; unwatched = has.ready.unwatched }; accepted = has.accepted }

pub ready_sending : (mid new : Served) → IsReady mid → IsSending mid new → IsReady new
ready_sending mid new ready only =
    subst IsReady (sym only) (record { taken = ready.taken; there = ready.there; unwatched = ready.unwatched })

-- a code that a request is owed is sent
pub owed_to : (request : Request) (code xid : ℤ) (old : Shown) (mid new : Served) → OwesTo request code old (shown_of mid)
    → SendsHeader (xid, (pos (zxid_of mid), code)) mid.connection.output new.connection.output → IsSending mid new
    → AnswersOne request xid old (shown_of new)
owed_to (Connect seen) code xid old mid new owes s only = absurd owes
owed_to (Restore is_last since part) code xid old mid new owes s only = absurd owes
owed_to (Ask one) code xid old mid new owes s only = owed_sent one code xid old (shown_of mid) (shown_of new) owes s (ap shown_of only)
owed_to Ping code xid old mid new owes s only = absurd owes

-- or it is not, and the connection ends
pub owed_unsent : (request : Request) (code xid : ℤ) (old : Shown) (mid new : Served) → OwesTo request code old (shown_of mid)
    → IsSending mid new → new.connection.output ≡ mid.connection.output
    → ProcessesOne request xid old (shown_of (ended new))
owed_unsent (Connect seen) code xid old mid new owes only unsent = absurd owes
owed_unsent (Restore is_last since part) code xid old mid new owes only unsent = absurd owes
owed_unsent (Ask one) code xid old mid new owes only unsent =
    let g = owes.took.takes.goes in
    let same : history_of new.history ≡ owes.mid.history =
    ap (λ (s : Served). history_of s.history) only ∙ ap (λ (s : Shown). s.history) owes.left in
    ends_after (Ask one) xid old (shown_of (ended new)) (record {
      steps = owes.took.steps;
      takes = record {
        goes = record {
          history = subst (λ (h : History). GoesOn old.history h) (sym same) g.history;
          moves = subst (λ (h : History). Moves h (pos 0) [] owes.took.steps old.server) (sym same) g.moves;
          sent = unsent ∙ ap (λ (s : Shown). s.output) owes.left ∙ g.sent;
          there = λ e. absurd cc;
          ended = λ e. absurd cc;
        };
        requests = λ e. absurd cc;
      };
    }) (λ still. absurd cc)
owed_unsent Ping code xid old mid new owes only unsent = absurd owes

-- The first request of a connection is a ConnectRequest, of a client that asks for a timeout above 0.
pub first_by : (P : Request → Type 0) (asked : Request) (xid : ℤ) (payload : List ℕ) → IsFor asked Waiting → IsFit asked payload
    → ((seen : ℕ) (timeout session : ℤ) (password : List ℕ) → IsRecord connect_request (
      pos 0,
      (pos seen, (timeout, (session, (Some password, false)))),
    ) payload → int_lt (pos 0) timeout ≡ true → P (Connect seen)) → P asked
first_by P (Connect seen) xid payload now fit f = f seen (pos fit.0) fit.2 fit.3 fit.4 (above fit.0 fit.1)
  where
    above : (timeout : ℕ) → 0 < timeout → int_lt (pos 0) (pos timeout) ≡ true
    above timeout low = grind (arith, nat_tests)
first_by P (Restore is_last since part) xid payload now fit f = absurd (now refl)
first_by P (Ask one) xid payload now fit f = absurd (now refl)
first_by P Ping xid payload now fit f = absurd (now refl)

-- a connection that takes requests, on which the client was not accepted, was
pub has_open : (old : Served)
    → IsReady old → is_open old.connection.phase ≡ true → (old.connection.phase ≡ phases.Opening → ⊥) → HasClient old
has_open old ready up later = by old.connection.phase refl
  where
    by : (phase : Phase) → old.connection.phase ≡ phase → HasClient old
    by phases.Apart e = let f : is_open phases.Apart ≡ true = ap is_open (sym e) ∙ up in absurd cc
    by phases.Opening e = absurd (later e)
    by phases.Accepted e = record { ready = ready; accepted = e }
    by phases.Ended e = let f : is_open phases.Ended ≡ true = ap is_open (sym e) ∙ up in absurd cc

-- a frame that stands first has no length below 0
pub not_negative : (payload rest bytes : List ℕ) → bytes ≡ frame payload ++ rest → length payload < 2 ^ 31 → IsNegative bytes → ⊥
not_negative payload rest bytes is small negative = let field = front_field payload rest bytes is small in
    let low = negative.below in
    omega (arith, field, small, low)
