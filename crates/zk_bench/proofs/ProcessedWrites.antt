-- Writes of a bench are steps of a server: a write that is made is answered once its transaction is taken, and one that is not is owed its
-- code, or the connection has ended.
use Rattle.std.proofs.Common.{ℕ, ℤ, pos, negsuc, ◌≡◌, ◌<◌, ◌+◌, refl, ap, sym, ◌∙◌, subst, arith, inl, List, [], ◌∷◌}
use Rattle.std.proofs.Common.{◌++◌, length, Bool, false, if◌then◌else◌}
use mathlib.Core.Path.{fun_ext}
use Rattle.std.proofs.lemmas.List.{take_all}
use Rattle.zk_frames.specs.Frame.{frame}
use Rattle.zk_records.specs.Layouts.{reply_header, create_response}
use Rattle.zk_nodes.specs.StatLayout.{stat}
use Rattle.zk_records.specs.Codes.{code_number}
use Rattle.zk_records.specs.declared.code.Code.{Code}
use Rattle.zk_records.specs.declared.code.Code.TheVariants as codes
use Rattle.zk_jute.specs.Spelling.{spelling}
use Rattle.zk_nodes.specs.Path.{Text, path_of}
use Rattle.zk_nodes.specs.History.{History, Change, Creates, Sets, Deletes, newest}
use Rattle.zk_conversation.specs.Calls.{Call}
use Rattle.zk_conversation.specs.Calls as call
use Rattle.zk_history.specs.HistoryView.{HistoryView, history_of, made_transaction}
use Rattle.std.specs.Prelude.{◌^◌, ⊤, Option, Some, slice_index}
use Rattle.zk_conversation.specs.Pending.{closes}
use Rattle.zk_conversation.specs.Questions.{question_of}
use Rattle.zk_conversation.specs.Results.{Result, NoNode, Refused, Done, Found, Made, stat_of}
use Rattle.zk_laws.specs.Server.{Watches, both, sets, tree_held, IsOther, IsMadeOf, is_sequential, Gives}
use Rattle.zk_laws.specs.Messages.{Request, Ask, Replies}
use Rattle.zk_laws.specs.ServerSteps.{Stage, Serving, Ended as Silent, Answers}
use Rattle.zk_laws.specs.Served.{IsPayload, code_of}
use Rattle.theory_serving.specs.GoingOn.{GoesOn}
use Rattle.zk_bench.specs.declared.stop.Stop.{Stop}
use Rattle.zk_bench.specs.declared.stop.Stop.TheVariants as stops
use Rattle.zk_bench.specs.declared.stop.Refusal.{Refusal}
use Rattle.zk_bench.specs.declared.stop.Refusal.TheVariants as refusals
use Rattle.zk_bench.specs.inner.Refusals.{IsCode}
use Rattle.zk_bench.specs.Served.{Served, is_open, ended}
use Rattle.zk_bench.specs.inner.Serving.{Sends, SendsHeader}
use Rattle.zk_bench.specs.inner.Stepping.{ProcessesOne, AnswersOne, IsRefusal}
use Rattle.zk_bench.specs.Stepping.{TakesSome}
use Rattle.zk_bench.specs.inner.Stepping.{Declines, HasClient, HasAll, HasWritten, LeavesUnmade, LeavesUnsent, SendsStat, IsSending}
use Rattle.zk_bench.specs.Stepping.{zxid_of}
use Rattle.zk_bench.specs.Stepping.{stage_of, end_of, shown_of}
use Rattle.zk_bench.specs.inner.Writing.{IsAnswer}
use Rattle.zk_bench.specs.Writing.{appended}
use Rattle.zk_bench.proofs.Answered.{or-false, stat_read}
use Rattle.zk_bench.proofs.Written.{appended-transactions}
use Rattle.zk_bench.proofs.Stepped.{shows_same, shows_ended, same_history}
use Rattle.zk_bench.proofs.Processed.{processes_after, twice}
use Rattle.zk_bench.proofs.ProcessedLooks.{sending, opened, not_apart}
use Rattle.zk_bench.proofs.ProcessedTaken.{takes_ended, takes_none, takes_then, ends_then, declines_then}

-- a change that is not appended
pub leaves_append : (old : Served) (history : HistoryView) (refusal : Refusal) → HasClient old → GoesOn (history_of old.history)
    (history_of history) → (IsCode refusal → (refusal ≡ refusals.Code codes.BadArguments) × (history ≡ old.history))
    → LeavesUnmade old (record old { history = history }) refusal
leaves_append old history (refusals.Code code) has goes told =
    (subst IsAnswer (sym (told tt).0) tt, takes_none old (record old { history = history }) goes has refl)
leaves_append old history (refusals.Stop stop) has goes told =
    takes_ended old (record old { history = history }) (takes_none old (record old { history = history }) goes has refl)

-- one that is appended and taken
pub wrote_so : (kept : HistoryView) (time : ℕ) (change : Change) (new : Served)
    → new.history ≡ appended kept time change → HasAll new → HasWritten change new
wrote_so kept time change new is all = (
  kept.transactions,
  made_transaction (newest 0 kept.transactions + 1) (pos time) (change ∷ []),
  take_all (slice_index new.taken new.server) new.history.transactions all ∙ ap (λ (k : HistoryView). k.transactions) is
      ∙ appended-transactions kept time change,
  inl refl,
)

abbrev IsWrite : Call → Type 0
IsWrite (call.SetData text content version) = ⊤
IsWrite (call.Create text content mode) = ⊤
IsWrite (call.Delete text version) = ⊤
IsWrite one = ⊥

write_stays : (one : Call) → IsWrite one → closes (question_of one) ≡ false
write_stays call.Close is = absurd is
write_stays one is = refl

no_watch : (w : Watches) → w ≡ both w (λ side path. false)
no_watch w = fun_ext (λ side. fun_ext (λ path. sym (or-false (w side path))))

-- a write leaves no watch
write_sets : (one : Call) (result : Result) (w : Watches) → IsWrite one → w ≡ both w (sets (question_of one) result)
write_sets (call.SetData text content version) result w is = no_watch w
write_sets (call.Create text content mode) result w is = no_watch w
write_sets (call.Delete text version) result w is = no_watch w
write_sets one result w is = absurd is

-- what a code answers
abbrev result_of : Code → Result
result_of codes.NoNode = NoNode
result_of code = Refused (code_number code)

refused_so : (code : Code) → IsRefusal (result_of code) × (code_of (result_of code) ≡ code_number code)
refused_so codes.NoNode = (tt, refl)
refused_so code = (tt, refl)

other_by : (h : History) (place : ℕ) (one : Call) (code : ℤ) → IsOther code → Gives h place one (Refused code)
other_by h at call.Close code o = o
other_by h at one code o = o

none_by : (h : History) (place : ℕ) (one : Call) → IsWrite one → Gives h place one NoNode
none_by h at (call.SetData text content version) is = tt
none_by h at (call.Create text content mode) is = tt
none_by h at (call.Delete text version) is = tt
none_by h at one is = absurd is

abbrev behind_zero : ℤ → ℕ
behind_zero (pos n) = n
behind_zero (negsuc n) = n

other_code : (n : ℕ) → (n ≡ 100 → ⊥) → IsOther (negsuc n)
other_code n h = (λ e. absurd cc, λ e. h (ap behind_zero e))

-- A code may answer a write.
gives_code : (h : History) (place : ℕ) (one : Call) (code : Code) → IsWrite one → IsAnswer (refusals.Code code)
    → Gives h place one (result_of code)
gives_code h place one codes.ConnectionLoss is a =
    other_by h place one (code_number codes.ConnectionLoss) (other_code 3 (λ e. absurd (omega (arith, e))))
gives_code h place one codes.Unimplemented is a =
    other_by h place one (code_number codes.Unimplemented) (other_code 5 (λ e. absurd (omega (arith, e))))
gives_code h place one codes.BadArguments is a =
    other_by h place one (code_number codes.BadArguments) (other_code 7 (λ e. absurd (omega (arith, e))))
gives_code h place one codes.NoNode is a = none_by h place one is
gives_code h place one codes.NoAuth is a = other_by h place one (code_number codes.NoAuth) (other_code 101 (λ e. absurd (omega (arith, e))))
gives_code h place one codes.BadVersion is a =
    other_by h place one (code_number codes.BadVersion) (other_code 102 (λ e. absurd (omega (arith, e))))
gives_code h place one codes.NoChildrenForEphemerals is a =
    other_by h place one (code_number codes.NoChildrenForEphemerals) (other_code 107 (λ e. absurd (omega (arith, e))))
gives_code h place one codes.NodeExists is a =
    other_by h place one (code_number codes.NodeExists) (other_code 109 (λ e. absurd (omega (arith, e))))
gives_code h place one codes.NotEmpty is a =
    other_by h place one (code_number codes.NotEmpty) (other_code 110 (λ e. absurd (omega (arith, e))))
gives_code h place one codes.SessionExpired is a =
    other_by h place one (code_number codes.SessionExpired) (other_code 111 (λ e. absurd (omega (arith, e))))
gives_code h place one codes.InvalidAcl is a =
    other_by h place one (code_number codes.InvalidAcl) (other_code 113 (λ e. absurd (omega (arith, e))))
gives_code h place one codes.SessionMoved is a =
    other_by h place one (code_number codes.SessionMoved) (other_code 117 (λ e. absurd (omega (arith, e))))
gives_code h place one (codes.Other n) is a = absurd a

-- A write that is not made is owed its code, or the connection has ended.
pub declines_unmade : (one : Call) (xid : ℤ) (old new : Served) (refusal : Refusal)
    → IsWrite one → HasClient old → HasClient new → LeavesUnmade old new refusal → Declines (Ask one) xid old new refusal
declines_unmade one xid old new (refusals.Code code) is has now unmade = record {
  mid = shown_of new;
  took = unmade.1;
  up = opened new now;
  serves = ap stage_of now.accepted;
  stays = write_stays one is;
  result = result_of code;
  refuses = (refused_so code).0;
  coded = (refused_so code).1;
  gives = gives_code (history_of new.history) (slice_index new.taken new.server) one code is unmade.0;
  left = ap (λ (w : Watches). record (shown_of new) { server = record (end_of new) { watches = w } })
      (write_sets one (result_of code) (end_of new).watches is);
}
declines_unmade one xid old new (refusals.Stop stops.End) is has now unmade = ends_then (Ask one) xid old new unmade
declines_unmade one xid old new (refusals.Stop stops.Memory) is has now unmade = tt

-- where nothing was done yet
pub unmade_same : (old : Served) (refusal : Refusal) → HasClient old → IsAnswer refusal → LeavesUnmade old old refusal
unmade_same old (refusals.Code code) has is = (is, shows_same old (ap is_open has.accepted))
unmade_same old (refusals.Stop stop) has is = takes_ended old old (shows_same old (ap is_open has.accepted))

-- A write that was made is answered.
pub answers_made : (one : Call) (result : Result) (xid : ℤ) (old mid : Served) (output payload : List ℕ)
    → IsWrite one → HasClient mid → TakesSome (shown_of old) (shown_of mid)
    → Gives (history_of mid.history) (slice_index mid.taken mid.server) one result → length payload < 2 ^ 31
    → IsPayload xid (Replies (question_of one) (zxid_of mid) result) payload
    → output ≡ mid.connection.output ++ frame payload → AnswersOne (Ask one) xid (shown_of old) (shown_of (sending mid output))
answers_made one result xid old mid output payload is has took gives small spelled sent =
    processes_after (Ask one) xid (shown_of old) (shown_of mid) (shown_of (sending mid output))
    (record { step = Answers one result; payloads = payload ∷ [] }) took (opened mid has)
    (ap stage_of has.accepted, refl, gives) (small, spelled, tt) refl refl
    (sent ∙ ap (λ (bs : List ℕ). mid.connection.output ++ bs) (twice (frame payload))) (not_apart mid has)
    (λ still. ap (λ (w : Watches). record (end_of mid) { watches = w }) (write_sets one result (end_of mid).watches is)
    ∙ ap (λ (s : Stage). record (end_of mid) { watches = both (end_of mid).watches (sets (question_of one) result); stage = s })
    (ap stage_of has.accepted ∙ ap (λ (over : Bool). if over then Silent else Serving) (sym (write_stays one is))))

-- where nothing of the answer was sent, the connection ends
pub ends_sending : (request : Request) (xid : ℤ) (old mid new : Served) → HasClient old → HasClient mid
    → TakesSome (shown_of old) (shown_of mid) → IsSending mid new → new.connection.output ≡ mid.connection.output
    → ProcessesOne request xid (shown_of old) (shown_of (ended new))
ends_sending request xid old mid new has more took only unsent =
    let goes = subst (λ (k : HistoryView). GoesOn (history_of mid.history) (history_of k)) (ap (λ (s : Served). s.history) (sym only))
    (same_history (history_of mid.history)) in
    ends_then request xid old new (takes_then old mid (ended new) has more took (shows_ended mid (ended new) goes refl unsent))

-- a stop is no code
pub stops_by : (request : Request) (xid : ℤ) (old new : Served) (stop : Stop)
    → (stop ≡ stops.End → ProcessesOne request xid (shown_of old) (shown_of (ended new)))
    → Declines request xid old new (refusals.Stop stop)
stops_by request xid old new stops.End ends = ends refl
stops_by request xid old new stops.Memory ends = tt

-- the path that was made is answered
pub created_so : (text : Text) (content : Option (List ℕ)) (number : ℕ) (xid : ℤ) (old mid new : Served) (at : Text) (owner : ℤ)
    → HasClient mid → TakesSome (shown_of old) (shown_of mid) → IsMadeOf text (is_sequential number) at
    → HasWritten (Creates (path_of at) content owner) mid
    → Sends (xid, (pos (zxid_of mid), pos 0)) create_response (Some at) mid.connection.output new.connection.output → IsSending mid new
    → AnswersOne (Ask (call.Create text content number)) xid (shown_of old) (shown_of new)
created_so text content number xid old mid new at owner has took made wrote s only =
    let behind = spelling create_response (Some at) in
    subst (λ (n : Served). AnswersOne (Ask (call.Create text content number)) xid (shown_of old) (shown_of n)) (sym only)
    (answers_made (call.Create text content number) (Made at) xid old mid new.connection.output
    (spelling reply_header (xid, (pos (zxid_of mid), pos 0)) ++ behind) tt has took (owner, made, wrote) s.small (
      behind,
      record { fits = s.header_fits; whole = refl },
      (Some at, record { ignored = []; fits = s.value_fits; whole = twice behind }, refl),
    ) s.output)

-- so is the Stat after a write
pub set_so : (text : Text) (content : Option (List ℕ)) (version xid : ℤ) (old mid new : Served)
    → HasClient mid → TakesSome (shown_of old) (shown_of mid) → HasWritten (Sets (path_of text) content) mid → SendsStat xid text mid new
    → IsSending mid new → AnswersOne (Ask (call.SetData text content version)) xid (shown_of old) (shown_of new)
set_so text content version xid old mid new has took wrote s only =
    let behind = spelling stat s.value in
    subst (λ (n : Served). AnswersOne (Ask (call.SetData text content version)) xid (shown_of old) (shown_of n)) (sym only)
    (answers_made (call.SetData text content version) (Found (stat_of s.value)) xid old mid new.connection.output
    (spelling reply_header (xid, (pos (zxid_of mid), pos 0)) ++ behind) tt has took
    (wrote, stat_read (tree_held (history_of mid.history) (slice_index mid.taken mid.server)) (path_of text) (stat_of s.value) s.told)
    s.sends.small (
      behind,
      record { fits = s.sends.header_fits; whole = refl },
      (s.value, record { ignored = []; fits = s.sends.value_fits; whole = twice behind }, refl),
    ) s.sends.output)

-- and a header alone, where a node is gone
pub deleted_so : (text : Text) (version xid : ℤ) (old mid new : Served) → HasClient mid → TakesSome (shown_of old) (shown_of mid)
    → HasWritten (Deletes (path_of text)) mid
    → SendsHeader (xid, (pos (zxid_of mid), pos 0)) mid.connection.output new.connection.output → IsSending mid new
    → AnswersOne (Ask (call.Delete text version)) xid (shown_of old) (shown_of new)
deleted_so text version xid old mid new has took wrote s only =
    let payload = spelling reply_header (xid, (pos (zxid_of mid), pos 0)) in
    subst (λ (n : Served). AnswersOne (Ask (call.Delete text version)) xid (shown_of old) (shown_of n)) (sym only)
    (answers_made (call.Delete text version) Done xid old mid new.connection.output payload tt has took wrote s.small
    ([], record { fits = s.fits; whole = twice payload }, (tt, record { ignored = []; fits = tt; whole = refl }, refl)) s.output)

-- where the Stat after a write is not sent
pub declines_unsent : (text : Text) (content : Option (List ℕ)) (version xid : ℤ) (old mid new : Served) (refusal : Refusal)
    → HasClient old → HasClient mid → TakesSome (shown_of old) (shown_of mid) → IsSending mid new → LeavesUnsent mid new refusal
    → Declines (Ask (call.SetData text content version)) xid old new refusal
declines_unsent text content version xid old mid new (refusals.Code code) has more took only unsent =
    let one = call.SetData text content version in
    subst (λ (n : Served). Declines (Ask one) xid old n (refusals.Code code)) (sym unsent.1)
    (declines_then one xid old mid mid (refusals.Code code) has more took
    (declines_unmade one xid mid mid (refusals.Code code) tt more more
    (unmade_same mid (refusals.Code code) more (subst (λ (c : Code). IsAnswer (refusals.Code c)) (sym unsent.0) tt))))
declines_unsent text content version xid old mid new (refusals.Stop stops.End) has more took only unsent =
    ends_sending (Ask (call.SetData text content version)) xid old mid new has more took only unsent
declines_unsent text content version xid old mid new (refusals.Stop stops.Memory) has more took only unsent = tt
