-- What waits is own still after a turn that asks for no watch of another's: happening by happening, as only a call is added.
use Rattle.std.proofs.Common.{◌≡◌, ◌<◌, ◌∙◌, ◌++◌, ◌∷◌, ◌&&◌, ℕ, ℤ, pos, Bool, true, false, List, [], map, drop, Option, Some, None}
use Rattle.std.proofs.Common.{Ok, Err, refl, sym, ap, subst, length, get_or}
use Rattle.std.specs.Prelude.{◌==◌, ◌||◌, not, int_lt, is_some, max, Result as Reading}
use Rattle.std.specs.List.{FoldsTo}
use Rattle.std.specs.Ordering.{int_eq}
use Rattle.std.proofs.lemmas.Bool.Decides.{Decides-eqb}
use Rattle.std.proofs.lemmas.List.Folds.{list_any_at}
use Rattle.zk_watches.specs.Lists.{Lists}
use Rattle.zk_watches.specs.Parts.{parts}
use Rattle.zk_conversation.specs.Pending.{Pending, call_waits}
use Rattle.zk_conversation.specs.Calls.{Call as Asked_call}
use Rattle.zk_conversation.specs.Questions.{Close, question_of, watched_side}
use Rattle.zk_conversation.specs.Arriving.{Arrived, Connected as Welcomed, Replied, Watches_set as Part_set, Notice, Pong as Ponged}
use Rattle.zk_conversation.specs.Arriving.{Skipped as Passed, arriving}
use Rattle.zk_conversation.specs.declared.fault.TalkFault.{TalkFault}
use Rattle.zk_session.specs.declared.states.State.{State}
use Rattle.zk_session.specs.declared.states.State.TheVariants.{Idle, Connecting, Connected}
use Rattle.zk_turns.specs.Turns.{Outcome, Behind, WatchesRefused, Signal, Opens, Comes, Cuts, Ticks, Calls, Forget, Halt, Input, Opened}
use Rattle.zk_turns.specs.Turns.{Bytes, Cut, Now, Call, Turn, signals_of}
use Rattle.zk_turns.specs.Past.{Happening, Began, Took, Dropped, Lost, Asked, Accepted, Expiry, Replies, Watches_set}
use Rattle.zk_turns.specs.Past.{parts_asked, pending_for}
use Rattle.zk_turns.specs.View.{View}
use Rattle.zk_turns.specs.Taken.{longest_of, phase_of, taken_of, leaves_watch, refusal, caused, happenings, opens}
use Rattle.zk_turns.specs.Taken.{of_cutting, cut, Cutting, Unfinished, Bad, Payload, comes}
use Rattle.zk_turns.specs.Rule.{next, after_all, after_signals, Rule}
use Rattle.zk_turns.proofs.Cases.{by_cond, by_open, by_due}
use Rattle.zk_turns.proofs.Words.{happening_of, calls}
use Rattle.zk_follow.specs.declared.subject.Subject.{Subject}
use Rattle.zk_follow.specs.Following.{read_of, reads, AreReads, IsReadOf}
use Rattle.zk_follow.specs.Owning.{is_own, is_own_at, is_read_in, AreOwn}
use Rattle.zk_follow.specs.inner.Owning.{asks_to_watch}
use Rattle.zk_follow.proofs.Reading.{reads_it}

or_true : (b : Bool) → (b || true) ≡ true
or_true true = refl
or_true false = refl

module _ {A : Type 0} (all : List (Subject A)) where
  -- ---- happenings

  -- a call that is added is own
  abbrev pub AsksOwn : Happening → Type 0
  AsksOwn (Asked ticket call) = is_own_at all ticket (question_of call) ≡ true
  AsksOwn _ = Unit {0}

  abbrev pub AllAskOwn : List Happening → Type 0
  AllAskOwn [] = Unit {0}
  AllAskOwn (happening ∷ more) = AsksOwn happening × AllAskOwn more

  own_rest : (pending : List Pending) → AreOwn all pending → AreOwn all (drop 1 pending)
  own_rest [] own = tt
  own_rest (one ∷ more) own = own.1

  own_last : (pending : List Pending) (one : Pending)
      → AreOwn all pending → is_own all one.waiting ≡ true → AreOwn all (pending ++ one ∷ [])
  own_last [] one own is = (is, tt)
  own_last (first ∷ more) one own is = (own.0, own_last more one own.1 is)

  own_parts : (parts : List Lists) → AreOwn all (map pending_for (parts_asked parts))
  own_parts [] = tt
  own_parts (part ∷ []) = (refl, tt)
  own_parts (part ∷ next ∷ more) = (refl, own_parts (next ∷ more))

  pub own_next : (happening : Happening) (view : View) → AsksOwn happening → AreOwn all view.pending
      → AreOwn all (next view happening).pending
  own_next Began view asks own = tt
  own_next (Dropped fault) view asks own = tt
  own_next Lost view asks own = tt
  own_next (Asked ticket call) view asks own = own_last view.pending (call_waits view.xid ticket call) own asks
  own_next (Took (Accepted welcome)) view asks own = own_parts (parts view.lists)
  own_next (Took Expiry) view asks own = tt
  own_next (Took (Replies ticket Close zxid result)) view asks own = tt
  own_next (Took (Replies ticket question zxid result)) view asks own = own_rest view.pending own
  own_next (Took (Watches_set true zxid)) view asks own = own_rest view.pending own
  own_next (Took (Watches_set false zxid)) view asks own = own_rest view.pending own
  own_next _ view asks own = own

  -- ---- signals

  abbrev pub IsOwnSignal : Signal → Type 0
  IsOwnSignal (Calls ticket call) = is_own_at all ticket (question_of call) ≡ true
  IsOwnSignal _ = Unit {0}

  abbrev pub AllOwnSignals : List Signal → Type 0
  AllOwnSignals [] = Unit {0}
  AllOwnSignals (signal ∷ more) = IsOwnSignal signal × AllOwnSignals more

  taken_asks : (last : ℤ) (arrived : Arrived) → AsksOwn (taken_of last arrived)
  taken_asks last (Welcomed response) = tt
  taken_asks last (Replied ticket question zxid result) =
      by_cond AsksOwn (leaves_watch question result && int_lt zxid last) (Dropped (Behind last zxid))
      (Took (Replies ticket question zxid result)) tt tt
  taken_asks last (Part_set final zxid err) =
      by_cond AsksOwn (int_eq err (pos 0)) (Took (Watches_set final zxid)) (Dropped (WatchesRefused err)) tt tt
  taken_asks last (Notice event path) = tt
  taken_asks last Ponged = tt
  taken_asks last Passed = tt

  result_asks : (last : ℤ) (r : Reading Arrived TalkFault) → AsksOwn (happening_of last r)
  result_asks last (Ok arrived) = taken_asks last arrived
  result_asks last (Err fault) = tt

  cutting_asks : (view : View) (cutting : Cutting) → AllAskOwn (of_cutting view cutting)
  cutting_asks view Unfinished = tt
  cutting_asks view (Bad fault) = (tt, tt)
  cutting_asks view (Payload payload) =
      (result_asks view.saved.last (arriving (phase_of view.standing.state) view.pending payload), tt)

  call_asks : (ticket : ℕ) (call : Asked_call) (why : Option Outcome) → is_own_at all ticket (question_of call) ≡ true
      → AllAskOwn (calls ticket call why)
  call_asks ticket call None own = (own, tt)
  call_asks ticket call (Some why) own = (tt, tt)

  opens_ask : (state : State) → AllAskOwn (opens state)
  opens_ask Idle = (tt, tt)
  opens_ask Connecting = (tt, (tt, tt))
  opens_ask Connected = (tt, (tt, tt))
  opens_ask _ = tt

  caused_ask : (view : View) (signal : Signal) → IsOwnSignal signal → AllAskOwn (caused view signal)
  caused_ask view Opens own = opens_ask view.standing.state
  caused_ask view (Comes byte) own =
      by_open AllAskOwn view.standing.state (comes view byte) tt
      (tt, cutting_asks view (cut (longest_of view) (view.held ++ byte ∷ [])))
  caused_ask view Cuts own = by_open AllAskOwn view.standing.state (Lost ∷ []) tt (tt, tt)
  caused_ask view (Ticks moment) own = (
    tt,
    by_open AllAskOwn view.standing.state _ tt
        (by_due AllAskOwn view (max moment view.moments.now) (tt, tt) (tt, tt) tt),
  )
  caused_ask view (Calls ticket call) own = call_asks ticket call (refusal view call) own
  caused_ask view Forget own = (tt, tt)
  caused_ask view Halt own = (tt, tt)

  pub all_ask : (view : View) (signal : Signal) → IsOwnSignal signal → AllAskOwn (happenings view signal)
  all_ask view Forget own = (tt, tt)
  all_ask view Halt own = (tt, tt)
  all_ask view Opens own = by_cond AllAskOwn view.standing.halted [] (caused view Opens) tt (caused_ask view Opens own)
  all_ask view (Comes byte) own = by_cond AllAskOwn view.standing.halted [] (caused view (Comes byte)) tt (caused_ask view (Comes byte) own)
  all_ask view Cuts own = by_cond AllAskOwn view.standing.halted [] (caused view Cuts) tt (caused_ask view Cuts own)
  all_ask view (Ticks moment) own =
      by_cond AllAskOwn view.standing.halted [] (caused view (Ticks moment)) tt (caused_ask view (Ticks moment) own)
  all_ask view (Calls ticket call) own =
      by_cond AllAskOwn view.standing.halted [] (caused view (Calls ticket call)) tt (caused_ask view (Calls ticket call) own)

  -- ---- turns

  abbrev pub IsOwnInput : Input → Type 0
  IsOwnInput (Call ticket call) = is_own_at all ticket (question_of call) ≡ true
  IsOwnInput _ = Unit {0}

  bytes_own : (bytes : List ℕ) → AllOwnSignals (map Comes bytes)
  bytes_own [] = tt
  bytes_own (byte ∷ bytes) = (tt, bytes_own bytes)

  pub own_signals_of : (input : Input) → IsOwnInput input → AllOwnSignals (signals_of input)
  own_signals_of Opened own = (tt, tt)
  own_signals_of (Bytes bytes) own = bytes_own bytes
  own_signals_of Cut own = (tt, tt)
  own_signals_of (Now moment) own = (tt, tt)
  own_signals_of (Call ticket call) own = (own, tt)

  -- a call that asks for no watch is own
  pub own_input : (input : Input) → asks_to_watch input ≡ false → IsOwnInput input
  own_input (Call ticket call) e = ap (λ b. not b || is_read_in all ticket (question_of call)) e
  own_input _ e = tt

  pub own_all : (more : List Happening) (view : View) → AllAskOwn more → AreOwn all view.pending → AreOwn all (after_all view more).pending
  own_all [] view asks own = own
  own_all (happening ∷ more) view asks own = own_all more (next view happening) asks.1 (own_next happening view asks.0 own)

  own_signals : (signals : List Signal) (view : View) → AllOwnSignals signals → AreOwn all view.pending
      → AreOwn all (after_signals view signals).pending
  own_signals [] view asks own = own
  own_signals (signal ∷ more) view asks own =
      own_signals more (after_all view (happenings view signal)) asks.1
      (own_all (happenings view signal) view (all_ask view signal asks.0) own)

  pub own_turn : (view : View) (turn : Turn) (after : View) → Rule view turn after → IsOwnInput turn.input → AreOwn all view.pending
      → AreOwn all after.pending
  own_turn view turn after rule asks own =
      subst (λ (v : View). AreOwn all v.pending) (sym rule.next)
      (own_signals (signals_of turn.input) view (own_signals_of turn.input asks) own)

  -- ---- reads of subjects

  pub own_read : (k : ℕ) (d : Subject A) (is_missing : Bool) (turn : Turn) → k < length all → IsReadOf (get_or all k d) is_missing turn
      → IsOwnInput turn.input
  own_read k d is_missing turn within read =
      let s : Subject A = get_or all k d in
      let question = read_of s.side is_missing s.path in
      let its : is_read_in all s.ticket question ≡ true =
      list_any_at (λ (t : Subject A). s.ticket == t.ticket && reads t.side t.path question) all k d within
      (ap (λ b. b && reads s.side s.path question) ((Decides-eqb s.ticket s.ticket).1 refl) ∙ reads_it s.side is_missing s.path) in
      subst IsOwnInput (sym read.1)
      (ap (is_own_at all s.ticket) read.2 ∙ ap (λ b. not (is_some (watched_side question)) || b) its
      ∙ or_true (not (is_some (watched_side question))))

  pub own_reads : (calls : List Turn) (view after : View) → AreReads all calls → FoldsTo Rule view calls after → AreOwn all view.pending
      → AreOwn all after.pending
  own_reads [] view after reads chain own = subst (λ (v : View). AreOwn all v.pending) chain own
  own_reads (turn ∷ calls) view after reads chain own =
      let its = reads.0 in
      own_reads calls chain.0 after reads.1 chain.2
      (own_turn view turn chain.0 chain.1 (own_read its.0 its.1 its.2 turn its.3 its.4) own)
