-- Each entry of a schedule keeps what is between a client and its servers, by the runs of the model; and so does a schedule.
use Rattle.std.proofs.Common.{ℕ, List, [], ◌∷◌, refl, inl, inr}
use Rattle.std.specs.List.{AllByRecursion}
use Rattle.zk_nodes.specs.History.{History, IsHistory}
use Rattle.zk_turns.specs.Turns.{IsAsked, Fault, Start, Turned, Forgets as Forgets_now, Halts as Halts_here}
use Rattle.zk_turns.specs.Past.{Asking, Dropped, Past, Skipped, Expiry, Took as Takes_in, Accepted as Accepts, Replies as Answers_call}
use Rattle.zk_turns.specs.Past.{Watches_set as Sets_watches, Notifies as Tells, Pong as Echo}
use Rattle.zk_turns.specs.Taken.{past_of}
use Rattle.zk_turns.specs.Meaning.{Among}
use Rattle.zk_laws.specs.Messages.{from_zero}
use Rattle.zk_laws.specs.ServerSteps.{Stage}
use Rattle.zk_laws.specs.Served.{WasSent, Wire, no_wire, Entry, Goes_on, Serves, items_in, wire_of, MayEnter, IsServing}
use Rattle.zk_laws.proofs.Between.{Invariant}
use Rattle.zk_laws.proofs.Matching.{AllAsked, Letter, IsLetter, Tail, Nothing_more, Failure, IsTail, IsDue, IsCalm, Meets, by_runs, Matches}
use Rattle.zk_laws.proofs.Reaching.{runs_keep}
use Rattle.zk_laws.proofs.Taking.{forgot, halted}
use Rattle.zk_laws.proofs.Meeting.{first_here, turned_here}
use Rattle.zk_laws.proofs.Serving.{served_here}

-- what an entry sends was sent
abbrev Sends : (List ℕ → Type 0) → Entry → Type 0
Sends Was (Goes_on place item) = Unit {0}
Sends Was (Serves step payloads) = AllByRecursion Was payloads

-- what a caller asks at an entry is about paths
abbrev pub Asks_paths : Entry → Type 0
Asks_paths (Goes_on place (Turned turn)) = IsAsked turn.input
Asks_paths _ = Unit {0}

-- ---- what was sent stays so

pub all_among : (Was : List ℕ → Type 0) (ps : List (List ℕ)) → ((p : List ℕ) → Among p ps → Was p) → AllByRecursion Was ps
all_among Was [] f = tt
all_among Was (p ∷ ps) f = (f p (inl refl), all_among Was ps (λ q a. f q (inr a)))

entry_sends : (entry : Entry) (earlier : List Entry) → Sends (WasSent (entry ∷ earlier)) entry
entry_sends (Goes_on place item) earlier = tt
entry_sends (Serves step payloads) earlier = all_among (WasSent (Serves step payloads ∷ earlier)) payloads (λ p a. inl a)

still_sent : (entry : Entry) (earlier : List Entry) (payload : List ℕ) → WasSent earlier payload → WasSent (entry ∷ earlier) payload
still_sent (Goes_on place item) earlier payload w = w
still_sent (Serves step payloads) earlier payload w = inr w

module _ (v : Invariant) (start : Start) (Was More : List ℕ → Type 0) (more : (payload : List ℕ) → Was payload → More payload) where
  letters_more : (ls : List Letter) → AllByRecursion (IsLetter v start Was) ls → AllByRecursion (IsLetter v start More) ls
  letters_more [] a = tt
  letters_more (l ∷ ls) a =
      (record { was_sent = more l.payload a.0.was_sent; short = a.0.short; spelt = a.0.spelt; is_for = a.0.is_for }, letters_more ls a.1)

  tail_more : (tail : Tail) (stage : Stage) (owed : List Asking) → IsTail v start Was tail stage owed → IsTail v start More tail stage owed
  tail_more Nothing_more stage owed t = tt
  tail_more (Failure payload rest) stage owed t = (more payload t.0, t.1, t.2, t.3, t.4, t.5, t.6, t.7)

  due_more : (fault : Fault) (past : Past) → IsDue v start Was fault past → IsDue v start More fault past
  due_more fault past (inl e) = inl e
  due_more fault past (inr (inl d)) = inr (inl (d.0, (d.1.0, more d.1.0 d.1.1, d.1.2, d.1.3, d.1.4)))
  due_more fault past (inr (inr d)) = inr (inr d)

  calm_more : (past : Past) → IsCalm v start Was past → IsCalm v start More past
  calm_more [] c = tt
  calm_more (Dropped fault ∷ past) c = (due_more fault past c.0, calm_more past c.1)
  calm_more (Takes_in (Answers_call ticket q z r) ∷ past) c = (c.0, calm_more past c.1)
  calm_more (Takes_in (Accepts w) ∷ past) c = calm_more past c
  calm_more (Takes_in Expiry ∷ past) c = calm_more past c
  calm_more (Takes_in (Sets_watches b z) ∷ past) c = calm_more past c
  calm_more (Takes_in (Tells e p) ∷ past) c = calm_more past c
  calm_more (Takes_in Echo ∷ past) c = calm_more past c
  calm_more (Takes_in Skipped ∷ past) c = calm_more past c
  calm_more (_ ∷ past) c = calm_more past c

  meets_more : (past : Past) (wire : Wire) → Meets v start Was past wire → Meets v start More past wire
  meets_more past wire s = record {
    right = s.right;
    going = λ e. let g = s.going e in (
      g.0,
      g.1,
      record {
        enough = g.2.enough;
        are = letters_more g.0 g.2.are;
        bytes = g.2.bytes;
        owed = g.2.owed;
        owes = g.2.owes;
        pending = g.2.pending;
        later = g.2.later;
        ended = tail_more g.1 wire.server.stage g.2.owed g.2.ended;
        kept = g.2.kept;
      },
    );
    calm = calm_more past s.calm;
    counted = s.counted;
  }

asked_now : (entry : Entry) (earlier : List Entry) → AllAsked (items_in (entry ∷ earlier)) → Asks_paths entry
asked_now (Goes_on place (Turned turn)) earlier a = a.0
asked_now (Goes_on place Forgets_now) earlier a = tt
asked_now (Goes_on place Halts_here) earlier a = tt
asked_now (Serves step payloads) earlier a = tt

asked_before : (entry : Entry) (earlier : List Entry) → AllAsked (items_in (entry ∷ earlier)) → AllAsked (items_in earlier)
asked_before (Goes_on place (Turned turn)) earlier a = a.1
asked_before (Goes_on place Forgets_now) earlier a = a
asked_before (Goes_on place Halts_here) earlier a = a
asked_before (Serves step payloads) earlier a = a

-- one entry more
entered : (h : History) (is : IsHistory h) (start : Start) (Was : List ℕ → Type 0) (entry : Entry) (earlier : List Entry)
    → Sends Was entry → Asks_paths entry → MayEnter h start entry (past_of start (items_in earlier)) (wire_of h earlier)
    → Matches h start Was (past_of start (items_in earlier)) (wire_of h earlier)
    → Matches h start Was (past_of start (items_in (entry ∷ earlier))) (wire_of h (entry ∷ earlier))
entered h is start Was (Goes_on place (Turned turn)) earlier was ask may s =
    turned_here h start (by_runs h (from_zero start.last)) (runs_keep h (from_zero start.last) is) Was place turn
    (past_of start (items_in earlier)) (wire_of h earlier) ask may s
entered h is start Was (Goes_on place Forgets_now) earlier was ask may s =
    forgot h start (by_runs h (from_zero start.last)) (runs_keep h (from_zero start.last) is) Was
    (past_of start (items_in earlier)) (wire_of h earlier) s
entered h is start Was (Goes_on place Halts_here) earlier was ask may s =
    halted h start (by_runs h (from_zero start.last)) (runs_keep h (from_zero start.last) is) Was
    (past_of start (items_in earlier)) (wire_of h earlier) s
entered h is start Was (Serves step payloads) earlier was ask may s =
    served_here h start (by_runs h (from_zero start.last)) (runs_keep h (from_zero start.last) is) Was step payloads
    (past_of start (items_in earlier)) (wire_of h earlier) may.going was may.may may.told s

-- Each entry keeps the invariant.
pub entry_here : (h : History) (is : IsHistory h) (start : Start) (entry : Entry) (earlier : List Entry)
    → AllAsked (items_in (entry ∷ earlier)) → MayEnter h start entry (past_of start (items_in earlier)) (wire_of h earlier)
    → Matches h start (WasSent earlier) (past_of start (items_in earlier)) (wire_of h earlier)
    → Matches h start (WasSent (entry ∷ earlier)) (past_of start (items_in (entry ∷ earlier))) (wire_of h (entry ∷ earlier))
entry_here h is start entry earlier ask may s =
    entered h is start (WasSent (entry ∷ earlier)) entry earlier (entry_sends entry earlier) (asked_now entry earlier ask) may
    (meets_more (by_runs h (from_zero start.last)) start (WasSent earlier) (WasSent (entry ∷ earlier)) (still_sent entry earlier)
    (past_of start (items_in earlier)) (wire_of h earlier) s)

-- Before any entry.
pub first_entry : (h : History) (is : IsHistory h) (start : Start) → Matches h start (WasSent []) [] no_wire
first_entry h is start = first_here h start (by_runs h (from_zero start.last)) (runs_keep h (from_zero start.last) is) (WasSent [])

-- A schedule of turns and moves is a run.
pub schedule_here : (h : History) (is : IsHistory h) (start : Start) (entries : List Entry) → AllAsked (items_in entries)
    → IsServing h start entries → Matches h start (WasSent entries) (past_of start (items_in entries)) (wire_of h entries)
schedule_here h is start [] ask may = first_entry h is start
schedule_here h is start (entry ∷ earlier) ask may =
    entry_here h is start entry earlier ask may.0 (schedule_here h is start earlier (asked_before entry earlier ask) may.1)
