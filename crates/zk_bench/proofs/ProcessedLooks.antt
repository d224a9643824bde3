-- Pings, closes, reads and parts of setWatches of a bench are steps of a server: one lemma for each way in which such a request ends.
use Rattle.std.proofs.Common.{ℕ, ℤ, pos, negsuc, ◌≡◌, ◌≢◌, refl, ap, sym, ◌∙◌, subst, List, [], ◌∷◌}
use Rattle.std.proofs.Common.{◌++◌, Bool}
use Rattle.zk_frames.specs.Frame.{frame}
use Rattle.zk_records.specs.Layouts.{reply_header}
use Rattle.zk_records.specs.declared.code.Code.{Code}
use Rattle.zk_jute.specs.Spelling.{spelling}
use Rattle.zk_nodes.specs.History.{History}
use Rattle.zk_conversation.specs.Calls.{Call, ping_xid}
use Rattle.zk_conversation.specs.Calls as call
use Rattle.zk_watches.specs.Lists.{Lists}
use Rattle.zk_history.specs.HistoryView.{HistoryView, history_of}
use Rattle.std.specs.Prelude.{slice_index, Ok, Err, IfErr, IsErrOf}
use Rattle.std.specs.Prelude.{Result as Outcome}
use Rattle.zk_conversation.specs.Questions.{question_of}
use Rattle.zk_conversation.specs.Results.{NoNode, Done}
use Rattle.zk_laws.specs.Server.{Watches, both, sets, zxid_held, tree_held}
use Rattle.zk_laws.specs.Messages.{Request, Ask, Restore, Ping}
use Rattle.zk_laws.specs.ServerSteps.{Answers, Restores, Pongs}
use Rattle.theory_serving.specs.GoingOn.{GoesOn}
use Rattle.theory_serving.specs.Shown.{Shown, Open, Apart}
use Rattle.zk_bench.specs.declared.connection.Connection.{Connection}
use Rattle.zk_bench.specs.declared.phase.Phase.TheVariants as phases
use Rattle.zk_bench.specs.declared.stop.Stop.{Stop}
use Rattle.zk_bench.specs.declared.stop.Stop.TheVariants as stops
use Rattle.zk_bench.specs.declared.stop.Refusal.{Refusal}
use Rattle.zk_bench.specs.declared.stop.Refusal.TheVariants as refusals
use Rattle.zk_bench.specs.inner.Refusals.{IsCode}
use Rattle.zk_bench.specs.Served.{Served, is_open, ended}
use Rattle.zk_bench.specs.Linked.{linked_of}
use Rattle.zk_bench.specs.inner.Serving.{watched, SendsHeader}
use Rattle.zk_bench.specs.inner.Answering.{IsRead, FindsNone, RefusesRead}
use Rattle.zk_bench.specs.inner.Restoring.{RestoresPart}
use Rattle.zk_bench.specs.inner.Stepping.{ProcessesOne, AnswersOne, Owes}
use Rattle.zk_bench.specs.inner.Stepping.{Declines, HasClient}
use Rattle.zk_bench.specs.Stepping.{zxid_of}
use Rattle.zk_bench.specs.Stepping.{stage_of, phase_of, shown_of}
use Rattle.zk_bench.proofs.Stepped.{shows_same, shows_ended, same_history}
use Rattle.zk_bench.proofs.Stepped.{gives_read, goes_on}
use Rattle.zk_bench.proofs.Processed.{processes_after, ends_after, twice}

abbrev pub sending : Served → List ℕ → Served
sending old output = record old { connection = record old.connection { output = output } }

pub opened : (old : Served) → HasClient old → phase_of old.connection.phase ≡ Open
opened old has = ap phase_of has.accepted

pub not_apart : (old : Served) → HasClient old → phase_of old.connection.phase ≢ Apart
not_apart old has e = let f : Open ≡ Apart = sym (opened old has) ∙ e in absurd cc

-- a ping
pub pongs : (old : Served) (output : List ℕ) (xid : ℤ)
    → HasClient old → SendsHeader (ping_xid, (pos (zxid_of old), pos 0)) old.connection.output output
    → AnswersOne Ping xid (shown_of old) (shown_of (sending old output))
pongs old output xid has s =
    let payload = spelling reply_header (ping_xid, (pos (zxid_of old), pos 0)) in
    processes_after Ping xid (shown_of old) (shown_of old) (shown_of (sending old output))
    (record { step = Pongs; payloads = payload ∷ [] }) (shows_same old (ap is_open has.accepted)) (opened old has)
    (ap stage_of has.accepted, refl)
    (s.small, (pos (zxid_of old), pos 0, [], record { fits = s.fits; whole = twice payload }), tt) refl refl
    (s.output ∙ ap (λ (bs : List ℕ). old.connection.output ++ bs) (twice (frame payload))) (not_apart old has) (λ still. refl)

-- the end of a session
pub closes_so : (old : Served) (output : List ℕ) (xid : ℤ)
    → HasClient old → SendsHeader (xid, (pos (zxid_of old), pos 0)) old.connection.output output
    → AnswersOne (Ask call.Close) xid (shown_of old)
    (shown_of (record old { connection = record old.connection { phase = phases.Ended; output = output } }))
closes_so old output xid has s =
    let payload = spelling reply_header (xid, (pos (zxid_of old), pos 0)) in
    processes_after (Ask call.Close) xid (shown_of old) (shown_of old)
    (shown_of (record old { connection = record old.connection { phase = phases.Ended; output = output } }))
    (record { step = Answers call.Close Done; payloads = payload ∷ [] }) (shows_same old (ap is_open has.accepted)) (opened old has)
    (ap stage_of has.accepted, refl, tt) (
      s.small,
      ([], record { fits = s.fits; whole = twice payload }, (tt, record { ignored = []; fits = tt; whole = refl }, refl)),
      tt,
    ) refl refl
    (s.output ∙ ap (λ (bs : List ℕ). old.connection.output ++ bs) (twice (frame payload))) (λ e. absurd cc) (λ still. absurd cc)

-- where nothing was sent, the end of the connection is no step
pub ends_unsent : (request : Request) (xid : ℤ) (old new : Served) → new.history ≡ old.history
    → new.connection.output ≡ old.connection.output → ProcessesOne request xid (shown_of old) (shown_of (ended new))
ends_unsent request xid old new same unsent =
    ends_after request xid (shown_of old) (shown_of (ended new))
    (shows_ended old (ended new) (subst (λ (k : HistoryView). GoesOn (history_of old.history) (history_of k)) (sym same)
    (same_history (history_of old.history))) refl unsent) (λ still. absurd cc)

-- ---- reads, and parts of setWatches

module _ {A : Type 0} (b : Served) (old new : Connection A) (accepted : old.phase ≡ phases.Accepted) where
  abbrev h : History
  h = history_of b.history

  abbrev place : ℕ
  place = slice_index b.taken b.server

  abbrev before : Served
  before = record b { connection = linked_of old }

  abbrev after : Served
  after = record b { connection = linked_of new }

  abbrev shown : Watches → List ℕ → Shown
  shown watches output =
      record {
        history = h;
        server = record { place = place; watches = watches; stage = stage_of old.phase };
        phase = phase_of old.phase;
        requests = old.requests.items;
        output = output;
      }

  -- what is shown where the watches and the output alone are others
  shown_is : new ≡ record old { watches = new.watches; output = new.output } → shown_of after ≡ shown (watched new.watches) new.output.items
  shown_is rest = ap (λ (c : Connection A). shown_of (record b { connection = linked_of c })) rest

  up : phase_of old.phase ≡ Open
  up = ap phase_of accepted

  -- no node is there
  pub owes_none : (asked : Call)
      → IsRead asked → FindsNone (tree_held h place) asked old new → Owes asked (negsuc 100) (shown_of before) (shown_of after)
  owes_none asked is f = record {
    mid = shown_of before;
    took = shows_same before (ap is_open accepted);
    up = up;
    serves = ap stage_of accepted;
    stays = goes_on asked is;
    result = NoNode;
    refuses = tt;
    coded = refl;
    gives = gives_read h place asked NoNode is tt f.reads;
    left = shown_is f.rest ∙ ap (λ (w : Watches). shown w new.output.items) f.left
        ∙ ap (λ (bs : List ℕ). shown (both (watched old.watches) (sets (question_of asked) NoNode)) bs) f.output;
  }

  pub restores_so : (is_last : Bool) (since : ℕ) (part : Lists) (xid : ℤ) → RestoresPart (tree_held h place)
      (zxid_held h place) xid since part old new → AnswersOne (Restore is_last since part) xid (shown_of before) (shown_of after)
  restores_so is_last since part xid r =
      subst (λ (s : Shown). AnswersOne (Restore is_last since part) xid (shown_of before) s) (sym (shown_is r.rest))
      (processes_after (Restore is_last since part) xid (shown_of before) (shown_of before) (shown (watched new.watches) new.output.items)
      (record { step = Restores is_last since part r.sent; payloads = r.payloads })
      (shows_same before (ap is_open accepted)) up (ap stage_of accepted, refl, r.admitted) (r.spelled is_last) refl refl r.output
      (λ e. let f : Open ≡ Apart = sym up ∙ e in absurd cc)
      (λ still. ap (λ (w : Watches). record { place = place; watches = w; stage = stage_of old.phase }) r.left))

  -- what a read is owed that gets no result
  pub declines_read : (xid : ℤ) (asked : Call) (result : Outcome (Unit {0}) Refusal)
      → IsRead asked → IfErr result (RefusesRead (tree_held h place) asked old new)
      → (IsErrOf result (refusals.Stop stops.End) → new.output.items ≡ old.output.items)
      → IfErr result (Declines (Ask asked) xid before after)
  declines_read xid asked (Ok u) is refuses ends = tt
  declines_read xid asked (Err (refusals.Code code)) is refuses ends =
      let none = refuses tt in
      subst (λ (r : Refusal). Declines (Ask asked) xid before after r) (sym none.0) (owes_none asked is none.1)
  declines_read xid asked (Err (refusals.Stop stops.End)) is refuses ends = ends_unsent (Ask asked) xid before after refl (ends refl)
  declines_read xid asked (Err (refusals.Stop stops.Memory)) is refuses ends = tt

  pub declines_part : (xid : ℤ) (request : Request) (result : Outcome (Unit {0}) Refusal) → IfErr result (λ refusal. IsCode refusal → ⊥)
      → (IsErrOf result (refusals.Stop stops.End) → new.output.items ≡ old.output.items) → IfErr result (Declines request xid before after)
  declines_part xid request (Ok u) never ends = tt
  declines_part xid request (Err (refusals.Code code)) never ends = absurd (never tt)
  declines_part xid request (Err (refusals.Stop stops.End)) never ends = ends_unsent request xid before after refl (ends refl)
  declines_part xid request (Err (refusals.Stop stops.Memory)) never ends = tt
