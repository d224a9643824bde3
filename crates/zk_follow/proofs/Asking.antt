-- What comes of a read that is asked of a client that is connected: it is sent and waits, or it is refused. Then as many calls wait as may,
-- or the moment to read the subject again is after this one. Other subjects are followed as they were, and so is one that is not due.
use Rattle.std.proofs.Common.{◌≡◌, ◌≢◌, ◌<◌, ◌≤◌, ◌^◌, ◌+◌, ◌⊎◌, inl, inr, ℕ, pos, Bool, true, false, cond, List, [], ◌∷◌, ◌++◌, Option}
use Rattle.std.proofs.Common.{Some}
use Rattle.std.proofs.Common.{None, refl, sym, ap, subst, ◌∙◌, arith, eq-eqb}
use Rattle.std.proofs.lemmas.List.{append-nil, length-append}
use Rattle.std.proofs.lemmas.List.Elements.{filter-append}
use Rattle.std.proofs.lemmas.List.Folds.{list_any-append}
use Rattle.std.specs.List.{list_any}
use Rattle.std.proofs.lemmas.Bool.Decides.{nat_tests}
use Rattle.std.specs.Prelude.{nat_le, nat_lt, length, filter, not, ◌||◌, ◌&&◌}
use Rattle.zk_session.specs.declared.states.State.TheVariants.{Connected}
use Rattle.zk_frames.specs.Frame.{frame}
use Rattle.zk_conversation.specs.Calls.{Call as Asked_call, call_payload}
use Rattle.zk_conversation.specs.Pending.{Pending, Call_waits, call_waits, is_call, is_close_pending, calls_pending}
use Rattle.zk_conversation.specs.Questions.{question_of, watched_side}
use Rattle.zk_turns.specs.Turns.{Outcome, TooManyWatches, TooManyPending, TooLarge, SessionClosed, Output, Answer, Send, Call, Calls, Turn}
use Rattle.zk_turns.specs.Past.{Asked}
use Rattle.zk_turns.specs.View.{View}
use Rattle.zk_turns.specs.Taken.{refusal, refusal_when_connected, is_full_on, happenings}
use Rattle.zk_turns.specs.Rule.{next, after_all, says_all, Rule}
use Rattle.zk_turns.proofs.Cases.{by_cond}
use Rattle.zk_turns.proofs.Words.{refusal_in, calls}
use Rattle.zk_limits.specs.declared.limits.TheConstants.{MOST_PENDING}
use Rattle.zk_follow.specs.declared.reads.TheConstants.{MOST_READS}
use Rattle.zk_follow.specs.declared.subject.Subject.{Subject}
use Rattle.zk_follow.specs.declared.progress.Progress.{Progress}
use Rattle.zk_follow.specs.declared.progress.Progress.TheVariants.{Due, Reading, Refused}
use Rattle.zk_follow.specs.Following.{progress_after, answered, heard_all, is_shown, read_of, rested, rested_progress, woken}
use Rattle.zk_follow.specs.Following.{woken_progress, IsAhead, IsBeingRead, IsBusy, IsCounted, IsRefused, IsFollowed}
use Rattle.zk_follow.specs.inner.Following.{Asks, VisitsAnd}
use Rattle.zk_follow.specs.Following.{is_read_by}
use Rattle.zk_follow.proofs.Hearing.{no_answer}
use Rattle.zk_follow.proofs.Reading.{is_found}

-- ---- why a client that is connected refuses a call

abbrev IsDenial : View → Outcome → Type 0
IsDenial view TooManyWatches = Unit {0}
IsDenial view TooManyPending = nat_le MOST_PENDING (calls_pending view.pending) ≡ true
IsDenial view TooLarge = Unit {0}
IsDenial view SessionClosed = Unit {0}
IsDenial view _ = ⊥

abbrev OfRefusal : View → Option Outcome → Type 0
OfRefusal view None = Unit {0}
OfRefusal view (Some why) = IsDenial view why

of_refusal : (view : View) (call : Asked_call) → OfRefusal view (refusal_when_connected view call)
of_refusal view call =
    let large : Option Outcome = cond (nat_lt view.limits.outgoing (length (call_payload (pos view.xid) call))) (Some TooLarge) None in
    let watches : Option Outcome = cond (is_full_on view (watched_side (question_of call))) (Some TooManyWatches) large in
    let pending : Option Outcome = cond (nat_le MOST_PENDING (calls_pending view.pending)) (Some TooManyPending) watches in
    by_cond (OfRefusal view) (is_close_pending view.pending) (Some SessionClosed) pending tt
    (by_test (nat_le MOST_PENDING (calls_pending view.pending)) watches refl
    (by_cond (OfRefusal view) (is_full_on view (watched_side (question_of call))) (Some TooManyWatches) large tt
    (by_cond (OfRefusal view) (nat_lt view.limits.outgoing (length (call_payload (pos view.xid) call))) (Some TooLarge) None tt tt)))
  where
    by_test : (b : Bool) (rest : Option Outcome)
        → nat_le MOST_PENDING (calls_pending view.pending) ≡ b → OfRefusal view rest → OfRefusal view (cond b (Some TooManyPending) rest)
    by_test true rest e h = e
    by_test false rest e h = h

refused_later : (now : ℕ) → now < 2 ^ 64 → (was_there : Bool) (view : View) (why : Outcome) (reads : ℕ)
    → IsDenial view why → IsBusy view reads ⊎ IsRefused now (progress_after now was_there why)
refused_later now fits was_there view TooManyWatches reads d = inr (omega arith)
refused_later now fits was_there view TooManyPending reads d =
    let all : MOST_PENDING ≤ calls_pending view.pending = grind (arith, nat_tests) in
    inl (inr all)
refused_later now fits was_there view TooLarge reads d = inr (omega arith)
refused_later now fits was_there view SessionClosed reads d = inr (omega arith)
refused_later now fits was_there view _ reads d = absurd d

-- ---- the turn of a call

-- it is sent, or it is refused and nothing has changed
abbrev IsSent : View → ℕ → Asked_call → List Output → View → Type 0
IsSent view ticket call outputs after =
    (outputs ≡ Send (frame (call_payload (pos view.xid) call)) ∷ []) × (after ≡ next view (Asked ticket call))

abbrev IsDenied : View → ℕ → List Output → View → Type 0
IsDenied view ticket outputs after = (why : Outcome) × IsDenial view why × (outputs ≡ Answer ticket why ∷ []) × (after ≡ view)

call_turn : (view : View) (ticket : ℕ) (call : Asked_call) (outputs : List Output) (after : View)
    → Rule view (record { input = Call ticket call; outputs = outputs }) after
    → view.standing.state ≡ Connected → IsSent view ticket call outputs after ⊎ IsDenied view ticket outputs after
call_turn view ticket call outputs after rule connected =
    by (refusal_when_connected view call) (of_refusal view call) (rule.outputs ∙ ap (λ hs. says_all view hs ++ []) happened)
    (rule.next ∙ ap (after_all view) happened)
  where
    happened : happenings view (Calls ticket call) ≡ calls ticket call (refusal_when_connected view call)
    happened =
        ap (λ b. cond b [] (calls ticket call (refusal view call))) rule.goes_on
        ∙ ap (λ state. calls ticket call (refusal_in state view call)) connected

    by : (why : Option Outcome)
        → OfRefusal view why → outputs ≡ says_all view (calls ticket call why) ++ [] → after ≡ after_all view (calls ticket call why)
        → IsSent view ticket call outputs after ⊎ IsDenied view ticket outputs after
    by None d said came = inl (said, came)
    by (Some why) d said came = inr (why, d, said, came)

-- ---- others

being_read_on : (view after : View) → Asks view after → (ticket : ℕ) (side : _) (path : _)
    → IsBeingRead view ticket side path → IsBeingRead after ticket side path
being_read_on view after asks ticket side path read =
    ap (list_any (is_read_by ticket side path)) asks.pending ∙ list_any-append (is_read_by ticket side path) view.pending asks.more
    ∙ ap (λ b. b || list_any (is_read_by ticket side path) asks.more) read

pub calls_on : (view after : View) → Asks view after → calls_pending view.pending ≤ calls_pending after.pending
calls_on view after asks =
    let more : calls_pending after.pending ≡ calls_pending view.pending + calls_pending asks.more =
    ap calls_pending asks.pending ∙ ap length (filter-append is_call view.pending asks.more)
    ∙ length-append (filter is_call view.pending) (filter is_call asks.more) in
    omega (arith, more)

busy_on : (view after : View) (reads more : ℕ) → Asks view after → reads ≤ more → IsBusy view reads → IsBusy after more
busy_on view after reads more asks le (inl many) = inl (omega (arith, le, many))
busy_on view after reads more asks le (inr full) = inr (omega (arith, calls_on view after asks, full))

module _ {A : Type 0} (view after : View) (asks : Asks view after) where
  pub others_counted : (subject : Subject A) → IsCounted view subject → IsCounted after subject
  others_counted subject counted goes_on reads =
      being_read_on view after asks subject.ticket subject.side subject.path
      (counted (sym (ap (λ s. s.halted) asks.standing) ∙ goes_on) reads)

  pub others_followed : (now reads more : ℕ) → reads ≤ more → (subject : Subject A)
      → IsFollowed now view reads subject → IsFollowed now after more subject
  others_followed now reads more le subject (inl sure) =
      inl (ap (λ cache. not subject.is_doubted && is_shown cache subject.side subject.path) asks.cache ∙ sure)
  others_followed now reads more le subject (inr (inl read)) =
      inr (inl (being_read_on view after asks subject.ticket subject.side subject.path read))
  others_followed now reads more le subject (inr (inr (inl busy))) = inr (inr (inl (busy_on view after reads more asks le busy)))
  others_followed now reads more le subject (inr (inr (inr (inl away)))) =
      inr (inr (inr (inl (λ there. away (sym (ap (λ s. s.state) asks.standing) ∙ there)))))
  others_followed now reads more le subject (inr (inr (inr (inr refused)))) = inr (inr (inr (inr refused)))

pub no_calls : (view : View) → Asks view view
no_calls view = record { standing = refl; cache = refl; lists = refl; more = []; pending = sym (append-nil view.pending) }

-- ---- its own read

abbrev pub IsSettled : {A : Type 0} → ℕ → View → View → Subject A → Type 0
IsSettled now view after subject =
    ((reads : ℕ) → IsFollowed now after reads subject) × IsCounted after subject × Asks view after

module _ {A : Type 0} (now : ℕ) (fits : now < 2 ^ 64) (subject : Subject A) (reads : subject.progress ≡ Reading)
    (call : Asked_call) (is_missing : Bool)
    (read : question_of call ≡ read_of subject.side is_missing subject.path) (view after : View) (outputs : List Output) where
  sent_read : IsSent view subject.ticket call outputs after → IsSettled now view after (heard_all now subject outputs)
  sent_read sent =
      subst (λ said. IsSettled now view after (heard_all now subject said)) (sym sent.0) (
        (λ others. inr (inl waits)),
        (λ goes_on reading. waits),
        asks,
      )
    where
      call_made : Pending
      call_made = call_waits view.xid subject.ticket call

      pending : after.pending ≡ view.pending ++ call_made ∷ []
      pending = ap (λ v. v.pending) sent.1

      waits : IsBeingRead after subject.ticket subject.side subject.path
      waits = is_found subject.ticket subject.side subject.path is_missing after.pending (
        pos view.xid,
        view.pending,
        [],
        pending ∙ ap (λ question. view.pending ++ record { xid = pos view.xid; waiting = Call_waits subject.ticket question } ∷ []) read,
      )

      asks : Asks view after
      asks = record {
        standing = ap (λ v. v.standing) sent.1;
        cache = ap (λ v. v.cache) sent.1;
        lists = ap (λ v. v.lists) sent.1;
        more = call_made ∷ [];
        pending = pending;
      }

  denied_read : IsDenied view subject.ticket outputs after → IsSettled now view after (heard_all now subject outputs)
  denied_read denied =
      subst (λ said. IsSettled now view after (heard_all now subject said)) (sym denied.2)
      (subst (IsSettled now view after)
      (sym (ap (λ b. cond b (answered now denied.0 subject) subject) (eq-eqb subject.ticket subject.ticket refl))) (
        (λ others. elim (refused_later now fits subject.is_there view denied.0 others denied.1) [
          | inl busy ↦ inr (inr (inl (subst (λ v. IsBusy v others) (sym denied.3) busy)))
          | inr refused ↦ inr (inr (inr (inr refused)))
        ]),
        (λ goes_on reading. absurd (no_answer now subject.is_there denied.0 reading)),
        subst (Asks view) (sym denied.3) (no_calls view),
      ))

  pub read_asked : Rule view (record { input = Call subject.ticket call; outputs = outputs }) after → view.standing.state ≡ Connected
      → IsSettled now view after (heard_all now subject outputs)
  read_asked rule connected =
      elim (call_turn view subject.ticket call outputs after rule connected) [ inl sent ↦ sent_read sent | inr denied ↦ denied_read denied ]

-- ---- a subject that is not to be read now

pub woken_ahead : (now : ℕ) (progress : Progress) → IsAhead now (woken_progress now progress)
woken_ahead now Due = tt
woken_ahead now Reading = tt
woken_ahead now (Refused why until) = by (nat_le until now) refl
  where
    by : (passed : Bool) → nat_le until now ≡ passed → IsAhead now (cond passed Due (Refused why until))
    by true e = tt
    by false e = let bound : now < until = grind (arith, nat_tests) in omega arith

pub woken_counted : {A : Type 0} (now : ℕ) (view : View) (subject : Subject A) → IsCounted view subject → IsCounted view (woken now subject)
woken_counted now view subject counted going reads = counted going (by subject.progress reads)
  where
    past : (passed : Bool) (why : _) (until : ℕ) → cond passed Due (Refused why until) ≡ Reading → ⊥
    past true why until e = let f : Due ≡ Reading = e in cc
    past false why until e = let f : Refused why until ≡ Reading = e in cc

    by : (progress : Progress) → woken_progress now progress ≡ Reading → progress ≡ Reading
    by Due e = e
    by Reading e = refl
    by (Refused why until) e = absurd (past (nat_le until now) why until e)

pub not_due : {A : Type 0} (now : ℕ) (view : View) (reads : ℕ) (subject : Subject A)
    → IsAhead now subject.progress → subject.progress ≢ Due → view.standing.halted ≡ false
    → IsCounted view subject → IsFollowed now view reads subject
not_due now view reads subject ahead read goes_on counted = by subject.progress refl
  where
    by : (progress : Progress) → subject.progress ≡ progress → IsFollowed now view reads subject
    by Due s = absurd (read s)
    by Reading s = inr (inl (counted goes_on s))
    by (Refused why until) s = inr (inr (inr (inr (subst (IsRefused now) (sym s) (subst (IsAhead now) s ahead)))))

-- ---- a visit that asks

pub nothing_more : (given : List Output) → given ≡ given ++ []
nothing_more given = sym (append-nil given)

pub asked_visits : {A : Type 0} (now : ℕ) (view : View) (given : List Output) (reads : ℕ) (subject : Subject A)
    (after : View) (given_after : List Output) (reads_after : ℕ) (new : Subject A)
    (call : Asked_call) → question_of call ≡ read_of subject.side subject.is_missing subject.path
    → (outputs : List Output) × Rule view (record { input = Call subject.ticket call; outputs = outputs }) after
    × (new ≡ heard_all now (record subject { progress = Reading }) outputs) × (given_after ≡ given ++ outputs)
    → reads_after ≤ MOST_READS
    → VisitsAnd now view given reads subject after given_after reads_after new
asked_visits now view given reads subject after given_after reads_after new call read asked room =
    let turn : Turn = record { input = Call subject.ticket call; outputs = asked.0 } in (
      turn ∷ [],
      inr (turn, refl, (call, refl, read), asked.1, asked.2),
      asked.3 ∙ ap (λ outputs. given ++ outputs) (nothing_more asked.0),
      inr room,
    )

-- ---- a subject that rests

pub rest_counted : {A : Type 0} (view : View) (subject : Subject A) → IsCounted view subject → IsCounted view (rested subject)
rest_counted view subject counted going reads = counted going (by subject.progress reads)
  where
    by : (progress : Progress) → rested_progress progress ≡ Reading → progress ≡ Reading
    by Due e = e
    by Reading e = refl
    by (Refused why until) e = absurd (let f : Due ≡ Reading = e in cc)
