-- A bench that takes transactions does what a server does step by step; and so it may take some and then process a request, or end the
-- connection.
use Rattle.std.proofs.Common.{ℕ, ℤ, ◌≡◌, ◌≤◌, ◌<◌, refl, ap, sym, ◌∙◌, subst, []}
use Rattle.std.proofs.Common.{length}
use Rattle.zk_records.specs.Codes.{code_number}
use Rattle.zk_records.specs.declared.code.Code.{Code}
use Rattle.zk_conversation.specs.Calls.{Call}
use Rattle.zk_history.specs.HistoryView.{HistoryView, history_of}
use Rattle.std.specs.Prelude.{slice_index, slice_set}
use Rattle.zk_laws.specs.Messages.{Request, Ask}
use Rattle.theory_serving.specs.GoingOn.{GoesOn}
use Rattle.theory_serving.proofs.Later.{taken_at, taken_set, taken_later}
use Rattle.zk_bench.specs.declared.connection.Connection.{Connection}
use Rattle.zk_bench.specs.declared.phase.Phase.TheVariants as phases
use Rattle.zk_bench.specs.declared.stop.Stop.{Stop}
use Rattle.zk_bench.specs.declared.stop.Stop.TheVariants as stops
use Rattle.zk_bench.specs.declared.stop.Refusal.{Refusal}
use Rattle.zk_bench.specs.declared.stop.Refusal.TheVariants as refusals
use Rattle.zk_bench.specs.Served.{Served, is_open, ended, Continues}
use Rattle.zk_bench.specs.Linked.{linked_of}
use Rattle.zk_bench.specs.inner.Stepping.{Catches, CatchesUp, ProcessesIf, ProcessesOne, Owes}
use Rattle.zk_bench.specs.Stepping.{IsReady, TakesSome}
use Rattle.zk_bench.specs.inner.Stepping.{Declines, HasClient}
use Rattle.zk_bench.specs.Stepping.{phase_of, end_of, shown_of}
use Rattle.zk_bench.proofs.Stepped.{continues_so, same_history, set_there, length_set, is_going_on}
use Rattle.zk_bench.proofs.Stepped.{end_linked}
use Rattle.zk_bench.proofs.Processed.{takes_more, processes_more, ends_after, twice}
use Rattle.zk_bench.proofs.ProcessedLooks.{opened, not_apart}

-- so a server that caught up is shown
pub shows_caught : {A : Type 0} (b : Served) (old new : Connection A) (place : ℕ) → IsReady (record b { connection = linked_of old })
    → old.phase ≡ phases.Accepted
    → new ≡ record old { watches = new.watches; output = new.output }
    → CatchesUp (history_of b.history) (slice_index b.taken b.server) old place new
    → TakesSome (shown_of (record b { connection = linked_of old }))
    (shown_of (record b { taken = slice_set b.taken b.server place; connection = linked_of new }))
shows_caught b old new place ready accepted rest g =
    let phase : new.phase ≡ old.phase = ap (λ k. k.phase) rest in
    let put : slice_index (slice_set b.taken b.server place) b.server ≡ place = set_there b.taken b.server place ready.there in
    record {
      steps = g.steps;
      takes = record {
        goes = record {
          history = same_history (history_of b.history);
          moves = g.moves;
          sent = g.sent;
          there = λ e. is_going_on new.phase (ap is_open (phase ∙ accepted)) e;
          ended = λ still. ap (λ (n : ℕ). end_linked n (linked_of new)) put ∙ sym g.ended;
        };
        requests = λ still. ap (λ k. k.requests.items) rest;
      };
    }

-- and one that ends the connection on its way
pub shows_stopped : {A : Type 0} (b : Served) (old new : Connection A) (place : ℕ)
    → Catches (history_of b.history) (slice_index b.taken b.server) old place new
    → TakesSome (shown_of (record b { connection = linked_of old }))
    (shown_of (ended (record b { taken = slice_set b.taken b.server place; connection = linked_of new })))
shows_stopped b old new place g = record {
  steps = g.steps;
  takes = record {
    goes = record {
      history = same_history (history_of b.history);
      moves = g.moves;
      sent = g.sent;
      there = λ e. absurd cc;
      ended = λ e. absurd cc;
    };
    requests = λ e. absurd cc;
  };
}

-- it has the client still
pub has_caught : {A : Type 0} (b : Served) (old new : Connection A) (place : ℕ) → HasClient (record b { connection = linked_of old })
    → new ≡ record old { watches = new.watches; output = new.output }
    → place ≤ length b.history.transactions → HasClient (record b { taken = slice_set b.taken b.server place; connection = linked_of new })
has_caught b old new place has rest low =
    let accepted : new.phase ≡ phases.Accepted = ap (λ k. k.phase) rest ∙ has.accepted in
    record {
      ready = record {
        taken = taken_set (history_of b.history) b.taken b.server place has.ready.taken low;
        there = subst (λ (n : ℕ). b.server < n) (sym (length_set b.taken b.server place)) has.ready.there;
        unwatched = λ opening. let f : phases.Opening ≡ phases.Accepted = sym opening ∙ accepted in absurd cc;
      };
      accepted = accepted;
    }

-- the connection ends after transactions that were taken
pub takes_ended : (old mid : Served) → TakesSome (shown_of old) (shown_of mid) → TakesSome (shown_of old) (shown_of (ended mid))
takes_ended old mid a = record {
  steps = a.steps;
  takes = record {
    goes = record {
      history = a.takes.goes.history;
      moves = a.takes.goes.moves;
      sent = a.takes.goes.sent;
      there = λ e. absurd cc;
      ended = λ e. absurd cc;
    };
    requests = λ e. absurd cc;
  };
}

-- the history goes on, and the connected server takes nothing
pub takes_none : (old new : Served) → GoesOn (history_of old.history) (history_of new.history)
    → HasClient old → new ≡ record old { history = new.history } → TakesSome (shown_of old) (shown_of new)
takes_none old new goes has rest = record {
  steps = [];
  takes = record {
    goes = record {
      history = goes;
      moves = tt;
      sent = ap (λ (s : Served). s.connection.output) rest ∙ twice old.connection.output;
      there = λ e. not_apart old has (ap (λ (s : Served). phase_of s.connection.phase) (sym rest) ∙ e);
      ended = λ still. ap end_of rest;
    };
    requests = λ still. ap (λ (s : Served). s.connection.requests) rest;
  };
}

-- and it holds a beginning of the history still
has_later : (old : Served) (history : HistoryView) → GoesOn (history_of old.history) (history_of history)
    → HasClient old → HasClient (record old { history = history })
has_later old history goes has = record {
  ready = record {
    taken = taken_later (history_of old.history) (history_of history) old.taken goes has.ready.taken;
    there = has.ready.there;
    unwatched = has.ready.unwatched;
  };
  accepted = has.accepted;
}

pub client_later : (b old : Served) (history : HistoryView)
    → b ≡ old → Continues b.history history → HasClient old → HasClient (record b { history = history })
client_later b old history same goes has = has_later b history (continues_so b.history history goes) (subst HasClient (sym same) has)

-- it stands at a place of the history
low_place : (old : Served) → HasClient old → (end_of old).place ≤ length old.history.transactions
low_place old has = taken_at (history_of old.history) old.taken old.server has.ready.taken

pub takes_then : (old mid new : Served) → HasClient old → HasClient mid → TakesSome (shown_of old) (shown_of mid)
    → TakesSome (shown_of mid) (shown_of new) → TakesSome (shown_of old) (shown_of new)
takes_then old mid new has more a b = takes_more (shown_of old) (shown_of mid) (shown_of new) a (opened mid more) (low_place old has) b

-- what is taken of a history that has gone on
pub takes_later : (b old : Served) (history : HistoryView) (new : Served)
    → b ≡ old → Continues b.history history → HasClient old → TakesSome (shown_of (record b { history = history })) (shown_of new)
    → TakesSome (shown_of old) (shown_of new)
takes_later b old history new same goes has takes =
    let mine : HasClient b = subst HasClient (sym same) has in
    let on = continues_so b.history history goes in
    subst (λ (s : Served). TakesSome (shown_of s) (shown_of new)) same
    (takes_then b (record b { history = history }) new mine (has_later b history on mine)
    (takes_none b (record b { history = history }) on mine refl) takes)

pub processes_then : {P : Type 0} (request : Request) (xid : ℤ) (old mid new : Served)
    → HasClient old → HasClient mid → TakesSome (shown_of old) (shown_of mid) → ProcessesIf P request xid (shown_of mid) (shown_of new)
    → ProcessesIf P request xid (shown_of old) (shown_of new)
processes_then request xid old mid new has more a b =
    processes_more request xid (shown_of old) (shown_of mid) (shown_of new) a (opened mid more) (low_place old has) b

pub ends_then : (request : Request) (xid : ℤ) (old new : Served) → TakesSome (shown_of old) (shown_of (ended new))
    → ProcessesOne request xid (shown_of old) (shown_of (ended new))
ends_then request xid old new a = ends_after request xid (shown_of old) (shown_of (ended new)) a (λ still. absurd cc)

owes_then : (one : Call) (code : ℤ) (old mid new : Served) → HasClient old → HasClient mid → TakesSome (shown_of old) (shown_of mid)
    → Owes one code (shown_of mid) (shown_of new) → Owes one code (shown_of old) (shown_of new)
owes_then one code old mid new has more a o = record {
  mid = o.mid;
  took = takes_more (shown_of old) (shown_of mid) o.mid a (opened mid more) (low_place old has) o.took;
  up = o.up;
  serves = o.serves;
  stays = o.stays;
  result = o.result;
  refuses = o.refuses;
  coded = o.coded;
  gives = o.gives;
  left = o.left;
}

pub declines_then : (one : Call) (xid : ℤ) (old mid new : Served) (refusal : Refusal) → HasClient old → HasClient mid
    → TakesSome (shown_of old) (shown_of mid) → Declines (Ask one) xid mid new refusal → Declines (Ask one) xid old new refusal
declines_then one xid old mid new (refusals.Code code) has more a d = owes_then one (code_number code) old mid new has more a d
declines_then one xid old mid new (refusals.Stop stops.End) has more a d = processes_then (Ask one) xid old mid (ended new) has more a d
declines_then one xid old mid new (refusals.Stop stops.Memory) has more a d = tt
