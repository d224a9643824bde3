-- Steps of a server that takes transactions and then processes a request: the two lists of steps are joined, and what the bench did is the
-- last step.
use Rattle.std.proofs.Common.{ℕ, zero, suc, ℤ, pos, ◌≡◌, ◌≢◌, ◌≤◌, ◌+◌, refl, ap, sym, ◌∙◌, subst, arith, List, [], ◌∷◌}
use Rattle.std.proofs.Common.{◌++◌, length, drop, append_assoc, Bool, false, if◌then◌else◌}
use Rattle.std.proofs.lemmas.List.{append-nil, length-append}
use Rattle.zk_frames.specs.Frame.{frame, joined}
use Rattle.zk_records.specs.Layouts.{reply_header}
use Rattle.zk_jute.specs.Spelling.{spelling}
use Rattle.zk_nodes.specs.History.{History, Transaction}
use Rattle.zk_conversation.specs.Calls.{Call}
use Rattle.zk_history.specs.HistoryView.{history_of}
use Rattle.std.specs.Prelude.{slice_index}
use Rattle.zk_conversation.specs.Pending.{closes}
use Rattle.zk_conversation.specs.Questions.{Question, question_of}
use Rattle.zk_conversation.specs.Results.{Result, NoNode, Refused, Done, Found, Read, Listing, Brought, Made}
use Rattle.zk_laws.specs.Server.{Watches, both, sets, zxid_held}
use Rattle.zk_laws.specs.Messages.{Request, Connect, Ask, Replies}
use Rattle.zk_laws.specs.Messages as message
use Rattle.zk_laws.specs.ServerSteps.{ServerEnd, Stage, Serving, Ended as Silent, Admits, Refuses, Answers, MayDo}
use Rattle.zk_laws.specs.ServerSteps.{messages_by, end_after}
use Rattle.zk_laws.specs.Served.{ArePayloads, IsPayload, code_of}
use Rattle.theory_serving.specs.GoingOn.{GoesOn}
use Rattle.theory_serving.specs.Steps.{Step, Moves, ended_by, sent_by, processed_by, used_by}
use Rattle.theory_serving.specs.Shown.{Shown, Open, Apart, Over}
use Rattle.theory_serving.proofs.Stepping.{moves_more, ended_more, sent_more, processed_more, answer_moves, idle_moves, idle_processes}
use Rattle.theory_serving.proofs.Stepping.{last_ended, last_sent, last_processed}
use Rattle.theory_serving.proofs.Later.{moves_later, ended_later}
use Rattle.zk_bench.specs.declared.phase.Phase.TheVariants as phases
use Rattle.zk_bench.specs.Served.{Served, Linked, is_open, ended}
use Rattle.zk_bench.specs.inner.Serving.{SendsHeader, SendsMessage}
use Rattle.zk_bench.specs.inner.Stepping.{ProcessesIf, ProcessesOne, AnswersOne, Owes, IsRefusal}
use Rattle.zk_bench.specs.Stepping.{TakesSome}
use Rattle.zk_bench.specs.Stepping.{stage_of, phase_of, shown_of}
use Rattle.zk_bench.proofs.Stepped.{shows_same, not_open}
use Rattle.zk_bench.proofs.Stepped.{end_linked}

grown : (h later : History) (n : ℕ) → GoesOn h later → n ≤ length h.transactions → n ≤ length later.transactions
grown h later n g low =
    let same : length later.transactions ≡ length h.transactions + length g.more =
    ap length g.transactions ∙ length-append h.transactions g.more in
    omega (arith, low, same)

pub goes_further : (h mid later : History) → GoesOn h mid → GoesOn mid later → GoesOn h later
goes_further h mid later a b = record {
  first = b.first ∙ a.first;
  more = a.more ++ b.more;
  transactions = b.transactions ∙ ap (λ (ts : List Transaction). ts ++ b.more) a.transactions ∙ append_assoc h.transactions a.more b.more;
}

drop_none : {A : Type 0} (n : ℕ) → drop {A = A} n [] ≡ []
drop_none zero = refl
drop_none (suc n) = refl

-- transactions are taken, and then more
pub takes_more : (old mid new : Shown)
    → TakesSome old mid → mid.phase ≡ Open → old.server.place ≤ length old.history.transactions → TakesSome mid new → TakesSome old new
takes_more old mid new a up low b =
    let g = a.takes.goes in
    let k = b.takes.goes in
    let high = grown old.history mid.history old.server.place g.history low in
    let at : mid.server ≡ ended_by new.history a.steps old.server =
    g.ended up ∙ sym (ended_later mid.history new.history (pos 0) [] a.steps old.server k.history high g.moves) in
    let second = subst (λ (s : ServerEnd). Moves new.history (pos 0) [] b.steps s) at k.moves in
    record {
      steps = a.steps ++ b.steps;
      takes = record {
        goes = record {
          history = goes_further old.history mid.history new.history g.history k.history;
          moves = moves_more new.history (pos 0) [] a.steps b.steps old.server
              (moves_later mid.history new.history (pos 0) [] a.steps old.server k.history high g.moves)
              (subst (λ (rs : List Request). Moves new.history (pos 0) rs b.steps (ended_by new.history a.steps old.server))
              (sym (drop_none (processed_by a.steps))) second);
          sent = k.sent ∙ ap (λ (bs : List ℕ). bs ++ sent_by b.steps) g.sent ∙ append_assoc old.output (sent_by a.steps) (sent_by b.steps)
              ∙ ap (λ (bs : List ℕ). old.output ++ bs) (sym (sent_more a.steps b.steps));
          there = k.there;
          ended = λ still. k.ended still ∙ ap (ended_by new.history b.steps) at ∙ sym (ended_more new.history a.steps b.steps old.server);
        };
        requests = λ still. b.takes.requests still ∙ a.takes.requests up;
      };
    }

-- They are taken, and then the request is processed by this step.
pub processes_after : (request : Request) (xid : ℤ) (old mid new : Shown) (last : Step) → TakesSome old mid → mid.phase ≡ Open
    → MayDo mid.history last.step mid.server (request ∷ [])
    → ArePayloads xid (messages_by mid.history last.step mid.server.place) last.payloads → used_by last.step ≡ 1
    → new.history ≡ mid.history → new.output ≡ mid.output ++ joined last.payloads → new.phase ≢ Apart
    → (new.phase ≡ Open → new.server ≡ end_after mid.history last.step mid.server)
    → AnswersOne request xid old new
processes_after request xid old mid new last took up may told one same sent there ended =
    let g = took.takes.goes in
    let at : mid.server ≡ ended_by mid.history took.steps old.server = g.ended up in
    let moves : Moves mid.history xid (request ∷ []) (took.steps ++ last ∷ []) old.server =
    answer_moves mid.history (pos 0) xid request took.steps last old.server g.moves
    (subst (λ (s : ServerEnd). MayDo mid.history last.step s (request ∷ [])) at may)
    (subst (λ (s : ServerEnd). ArePayloads xid (messages_by mid.history last.step s.place) last.payloads) at told) in
    let all : processed_by (took.steps ++ last ∷ []) ≡ processed_by took.steps + used_by last.step = last_processed took.steps last in
    let none : processed_by took.steps ≡ 0 = idle_processes mid.history (pos 0) took.steps old.server g.moves in
    record {
      steps = took.steps ++ last ∷ [];
      goes = record {
        history = subst (λ (h : History). GoesOn old.history h) (sym same) g.history;
        moves = subst (λ (h : History). Moves h xid (request ∷ []) (took.steps ++ last ∷ []) old.server) (sym same) moves;
        sent = sent ∙ ap (λ (bs : List ℕ). bs ++ joined last.payloads) g.sent
            ∙ append_assoc old.output (sent_by took.steps) (joined last.payloads)
            ∙ ap (λ (bs : List ℕ). old.output ++ bs) (sym (last_sent took.steps last));
        there = there;
        ended = λ still.
            ended still ∙ ap (end_after mid.history last.step) at ∙ sym (last_ended mid.history took.steps last old.server)
            ∙ ap (λ (h : History). ended_by h (took.steps ++ last ∷ []) old.server) (sym same);
      };
      done = λ still. omega (arith, all, none, one);
    }

-- They are taken, and then a request is processed.
pub processes_more : {P : Type 0} (request : Request) (xid : ℤ) (old mid new : Shown) → TakesSome old mid → mid.phase ≡ Open
    → old.server.place ≤ length old.history.transactions → ProcessesIf P request xid mid new → ProcessesIf P request xid old new
processes_more request xid old mid new a up low b =
    let g = a.takes.goes in
    let k = b.goes in
    let high = grown old.history mid.history old.server.place g.history low in
    let none : processed_by a.steps ≡ 0 = idle_processes mid.history (pos 0) a.steps old.server g.moves in
    let at : mid.server ≡ ended_by new.history a.steps old.server =
    g.ended up ∙ sym (ended_later mid.history new.history (pos 0) [] a.steps old.server k.history high g.moves) in
    let first = idle_moves new.history (pos 0) xid (request ∷ []) a.steps old.server
    (moves_later mid.history new.history (pos 0) [] a.steps old.server k.history high g.moves) in
    let second = subst (λ (s : ServerEnd). Moves new.history xid (request ∷ []) b.steps s) at k.moves in
    let all = processed_more a.steps b.steps in
    record {
      steps = a.steps ++ b.steps;
      goes = record {
        history = goes_further old.history mid.history new.history g.history k.history;
        moves = moves_more new.history xid (request ∷ []) a.steps b.steps old.server first
            (subst (λ (n : ℕ). Moves new.history xid (drop n (request ∷ [])) b.steps (ended_by new.history a.steps old.server))
            (sym none) second);
        sent = k.sent ∙ ap (λ (bs : List ℕ). bs ++ sent_by b.steps) g.sent ∙ append_assoc old.output (sent_by a.steps) (sent_by b.steps)
            ∙ ap (λ (bs : List ℕ). old.output ++ bs) (sym (sent_more a.steps b.steps));
        there = k.there;
        ended = λ still. k.ended still ∙ ap (ended_by new.history b.steps) at ∙ sym (ended_more new.history a.steps b.steps old.server);
      };
      done = λ still. let one = b.done still in omega (arith, all, none, one);
    }

-- They are taken, and then the connection is ended.
pub ends_after : (request : Request) (xid : ℤ) (old new : Shown) → TakesSome old new → new.phase ≢ Open → ProcessesOne request xid old new
ends_after request xid old new took over =
    let g = took.takes.goes in
    record {
      steps = took.steps;
      goes = record {
        history = g.history;
        moves = idle_moves new.history (pos 0) xid (request ∷ []) took.steps old.server g.moves;
        sent = g.sent;
        there = g.there;
        ended = g.ended;
      };
      done = λ still. absurd (over still);
    }

pub twice : (bs : List ℕ) → bs ≡ bs ++ []
twice bs = sym (append-nil bs)

-- The answers to a ConnectRequest

pub admits_so : (b : Served) (new : Linked) (seen : ℕ) (xid : ℤ)
    → b.connection.phase ≡ phases.Opening → seen ≤ zxid_held (history_of b.history) (slice_index b.taken b.server)
    → SendsMessage message.Accepted b.connection.output new.output
    → new ≡ record b.connection { phase = phases.Accepted; output = new.output }
    → AnswersOne (Connect seen) xid (shown_of b) (shown_of (record b { connection = new }))
admits_so b new seen xid opening low s rest =
    let at : new.phase ≡ phases.Accepted = ap (λ (c : Linked). c.phase) rest in
    processes_after (Connect seen) xid (shown_of b) (shown_of b) (shown_of (record b { connection = new }))
    (record { step = Admits seen; payloads = s.payload ∷ [] }) (shows_same b (ap is_open opening)) (ap phase_of opening)
    (ap stage_of opening, refl, low) (s.small, s.spelled xid, tt) refl refl
    (s.output ∙ ap (λ (bs : List ℕ). b.connection.output ++ bs) (twice (frame s.payload)))
    (λ e. let f : Open ≡ Apart = sym (ap phase_of at) ∙ e in absurd cc)
    (λ still. ap (λ (c : Linked). end_linked (slice_index b.taken b.server) c) rest)

pub expires_so : (b : Served) (new : Linked) (seen : ℕ) (xid : ℤ)
    → b.connection.phase ≡ phases.Opening → seen ≤ zxid_held (history_of b.history) (slice_index b.taken b.server)
    → SendsMessage message.Expired b.connection.output new.output → new.phase ≡ phases.Ended
    → AnswersOne (Connect seen) xid (shown_of b) (shown_of (record b { connection = new }))
expires_so b new seen xid opening low s over =
    processes_after (Connect seen) xid (shown_of b) (shown_of b) (shown_of (record b { connection = new }))
    (record { step = Refuses seen; payloads = s.payload ∷ [] }) (shows_same b (ap is_open opening)) (ap phase_of opening)
    (ap stage_of opening, refl, low) (s.small, s.spelled xid, tt) refl refl
    (s.output ∙ ap (λ (bs : List ℕ). b.connection.output ++ bs) (twice (frame s.payload)))
    (λ e. let f : Over ≡ Apart = sym (ap phase_of over) ∙ e in absurd cc) (λ still. absurd (not_open new.phase over still))

-- A call is answered by a header alone.
payload_refused : (xid : ℤ) (question : Question) (zxid : ℕ) (result : Result) (code : ℤ) (old new : List ℕ)
    → IsRefusal result → code_of result ≡ code → (s : SendsHeader (xid, (pos zxid, code)) old new)
    → IsPayload xid (Replies question zxid result) (spelling reply_header (xid, (pos zxid, code)))
payload_refused xid question zxid NoNode code old new is same s =
    subst (λ (c : ℤ). SendsHeader (xid, (pos zxid, c)) old new
    → IsPayload xid (Replies question zxid NoNode) (spelling reply_header (xid, (pos zxid, c)))) same
    (λ t. ([], record { fits = t.fits; whole = sym (append-nil (spelling reply_header (xid, (pos zxid, code_of NoNode)))) }, tt)) s
payload_refused xid question zxid (Refused c) code old new is same s =
    subst (λ (x : ℤ). SendsHeader (xid, (pos zxid, x)) old new
    → IsPayload xid (Replies question zxid (Refused c)) (spelling reply_header (xid, (pos zxid, x)))) same
    (λ t. ([], record { fits = t.fits; whole = sym (append-nil (spelling reply_header (xid, (pos zxid, c)))) }, tt)) s
payload_refused xid question zxid Done code old new is same s = absurd is
payload_refused xid question zxid (Found told) code old new is same s = absurd is
payload_refused xid question zxid (Read bytes told) code old new is same s = absurd is
payload_refused xid question zxid (Listing names told) code old new is same s = absurd is
payload_refused xid question zxid (Made at) code old new is same s = absurd is
payload_refused xid question zxid (Brought bytes) code old new is same s = absurd is

-- A code that is owed is sent.
pub owed_sent : (call : Call) (code xid : ℤ) (old mid new : Shown)
    → Owes call code old mid → SendsHeader (xid, (pos (zxid_held mid.history mid.server.place), code)) mid.output new.output
    → new ≡ record mid { output = new.output } → AnswersOne (Ask call) xid old new
owed_sent call code xid old mid new owes s rest =
    let from = owes.mid in
    let left = owes.left in
    let told : SendsHeader (xid, (pos (zxid_held from.history from.server.place), code)) mid.output new.output =
    subst (λ (m : Shown). SendsHeader (xid, (pos (zxid_held m.history m.server.place), code)) mid.output new.output) left s in
    let phase : new.phase ≡ Open = ap (λ (x : Shown). x.phase) rest ∙ ap (λ (x : Shown). x.phase) left ∙ owes.up in
    processes_after (Ask call) xid old from new (record {
      step = Answers call owes.result;
      payloads = spelling reply_header (xid, (pos (zxid_held from.history from.server.place), code)) ∷ [];
    }) owes.took owes.up
    (owes.serves, refl, owes.gives) (
      told.small,
      payload_refused xid (question_of call)
          (zxid_held from.history from.server.place) owes.result code mid.output new.output owes.refuses owes.coded told,
      tt,
    ) refl
    (ap (λ (x : Shown). x.history) rest ∙ ap (λ (x : Shown). x.history) left)
    (told.output
    ∙ ap (λ (x : Shown). x.output ++ frame (spelling reply_header (xid, (pos (zxid_held from.history from.server.place), code)))) left
    ∙ ap (λ (bs : List ℕ). from.output ++ bs)
    (twice (frame (spelling reply_header (xid, (pos (zxid_held from.history from.server.place), code))))))
    (λ e. let f : Open ≡ Apart = sym phase ∙ e in absurd cc)
    (λ still. ap (λ (x : Shown). x.server) rest ∙ ap (λ (x : Shown). x.server) left ∙ staged from.server owes.serves
    (both from.server.watches (sets (question_of call) owes.result)) (closes (question_of call)) owes.stays)
  where
    staged : (s : ServerEnd) → s.stage ≡ Serving → (w : Watches) (over : Bool)
        → over ≡ false → record s { watches = w } ≡ record s { watches = w; stage = if over then Silent else Serving }
    staged s e w over f =
        ap (λ (x : Stage). record s { watches = w; stage = x }) (e ∙ ap (λ (b : Bool). if b then Silent else Serving) (sym f))
