-- The schedules of the two places are ones, and what they lead to is computed: each program shows in its turn that it stands first.
use Rattle.std.proofs.lemmas.Int.{ints}
use Rattle.std.proofs.Common.{◌≡◌, ℕ, ℤ, pos, ◌≤ℤ◌, ◌<◌, ◌≤◌, Bool, true, false, List, [], ◌∷◌, ◌++◌}
use Rattle.std.proofs.Common.{append-nil, refl, sym, ap, subst, arith, inl, inr, ◌∙◌}
use Rattle.std.proofs.Common.{Option, Some, None}
use Rattle.std.specs.Prelude.{⊤, is_some, bytes_eq, option_map, if◌then◌else◌, map, length, ◌^◌}
use Rattle.std.specs.FinSet as set
use Rattle.std.specs.List.{list_any}
use Rattle.std.specs.Str.{is_utf8, chars}
use Rattle.std.specs.Cmp.Lexicographic.{slice_cmp}
use Rattle.std.specs.Ordering.{nat_cmp}
use lib.Utf8.{encode}
use Rattle.zk_jute.specs.Layout.{Layout, int, long, Value}
use Rattle.zk_jute.specs.Spelling.{int_bytes, long_bytes, counted_bytes, spelling, Fits}
use Rattle.zk_jute.specs.Reading.{bytes_at, int_at, long_at, boolean_at, length_of, length_at, counted_at, text_bytes_at, elements_at}
use Rattle.zk_nodes.specs.Path.{Name, path_of, path_eq}
use Rattle.zk_nodes.specs.History.{Node, written}
use Rattle.zk_nodes.specs.DataStats.{data_stat_of}
use Rattle.zk_nodes.specs.StatLayout.{stat}
use Rattle.zk_records.specs.Layouts.{reply_header, get_data_response, get_children2_response}
use Rattle.zk_records.specs.Response.{Response, IsPayload as IsResponse, flag_at, response_at}
use Rattle.zk_conversation.specs.Arriving.{arriving}
use Rattle.zk_conversation.specs.Calls.{connect_payload, call_payload, part_payload, Call as Asked_call}
use Rattle.zk_conversation.specs.Questions.{Question, question_of, GetChildren as Lists_children}
use Rattle.zk_conversation.specs.Results.{Result, record_of, stat_of, texts_of, Listing, Read}
use Rattle.zk_turns.specs.Spelled.{IsHeaded, HasRecord, HasResult}
use Rattle.zk_turns.specs.Meaning.{Among}
use Rattle.zk_turns.specs.Turns.{Item, Start, Signal, signals, IsAskable, Bytes, Call}
use Rattle.zk_frames.specs.Frame.{frame}
use Rattle.zk_turns.specs.Past.{Past, Happening, Took, Replies, names_of, kept_data, kept_names}
use Rattle.zk_turns.specs.Taken.{cut, past_of, past_after, joined, happenings}
use Rattle.zk_turns.specs.View.{view_at}
use Rattle.zk_turns.specs.Rule.{Stands}
use Rattle.zk_turns.proofs.Stepped.{given_stands}
use Rattle.zk_cache.specs.Kept.{Answer, Full, good}
use Rattle.zk_laws.specs.Server.{tree_held, zxid_held}
use Rattle.zk_laws.specs.Messages.{Replies as Answer_to}
use Rattle.std.proofs.lemmas.Slice.Eq.{bytes_eq-Decides}
use Rattle.zk_laws.specs.ServerSteps.{ServerEnd, Serving, Ended, Advances, Answers, MayDo}
use Rattle.zk_laws.specs.Served.{Entry, Goes_on, Serves, items_in, IsServing, Served, Sent, unread, first_xid, is_going, wire_of, code_of}
use Rattle.zk_laws.specs.Served.{ArePayloads}
use Rattle.theory_messages.specs.Meeting_example.{new_client, due_turn}
use Rattle.theory_messages.proofs.Shown.{all_sent}
use Rattle.theory_local.proofs.Following.{local_served}
use Rattle.zk_conclusions.specs.Seen.{IsEither}
use Rattle.zk_conclusions.specs.Numbers.{is_rival, is_before, is_numbered}
use Rattle.zk_conclusions.specs.Holders.{token_in}
use Rattle.zk_conclusions.specs.Standings.{IsFirstOf}
use Rattle.zk_conclusions.proofs.Sets.{members}
use Rattle.theory_contenders.specs.Programs.{SaysSo, IsMoment, IsHolding, Place, Moment}
use Rattle.theory_contenders.specs.Line_example.{lock_text, below_lock, lock, first_name, note_name, second_name, places, two_places}
use Rattle.theory_contenders.specs.Line_example.{place_stat, of_three, of_two, of_first, of_second, all_three, last_two}
use Rattle.theory_contenders.specs.Line_example.{welcome_of, reply_of, lists, reads, begun, asked}
use Rattle.theory_contenders.specs.Line_example.{first_listed, first_read, first_again, second_listed, second_read, list_lock, read_place}
use Rattle.theory_contenders.specs.Line_example.{first_place, second_place, first_since, first_last, second_held, first_run, second_run}
use Rattle.theory_contenders.proofs.Counting.{some_mapped}
use Rattle.theory_contenders.proofs.Line_history.{and_false, line_history, line_sequence}

-- what is computed of bytes that are written out
on_literals : ⊤
unfolding is_utf8 chars encode cut arriving connect_payload call_payload part_payload int_bytes long_bytes counted_bytes bytes_at int_at
    long_at boolean_at length_of length_at counted_at text_bytes_at elements_at flag_at response_at record_of
on_literals = tt

-- ---- what the payloads spell

abbrev welcome : ℤ → Response
welcome session = record { front = (pos 0, (pos 30000, (session, Some (7 ∷ 9 ∷ [])))); read_only = None }

welcomed : (session : ℕ) → session < 1000 → IsResponse (welcome_of (pos session)) (welcome (pos session)) []
unfolding on_literals
welcomed session small = record {
  fits = (omega (arith, ints), (omega (arith, ints), (omega (arith, ints), omega arith)));
  whole = refl;
  ends = refl;
}

-- a reply begins with its header, and what stands after it is the record
headed : (xid zxid : ℕ) → xid < 1000 → zxid < 1000 → (behind : List ℕ)
    → IsHeaded (pos xid) (pos zxid) (pos 0) (spelling reply_header (pos xid, (pos zxid, pos 0)) ++ behind) behind
headed xid zxid small low behind = record { fits = (omega (arith, ints), (omega (arith, ints), omega (arith, ints))); whole = refl }

-- a Stat of small numbers, as both kinds of node have
fits_long : (n : ℕ) → n < 10000 → Fits long (pos n)
fits_long n small = omega (arith, ints)

fits_int : (n : ℕ) → n < 10000 → Fits int (pos n)
fits_int n small = omega (arith, ints)

stat_fits : (made time cversion owner children pzxid : ℕ) → made < 10000 → time < 10000 → cversion < 10000 → owner < 10000
    → children < 10000 → pzxid < 10000 → Fits stat
    (pos made, (pos made, (pos time, (pos time, (pos 0, (pos cversion, (pos 0, (pos owner, (pos 0, (pos children, pos pzxid))))))))))
stat_fits made time cversion owner children pzxid a b c d e f =
    let zero : Fits int (pos 0) = fits_int 0 (omega arith) in
    let m = fits_long made a in
    let t = fits_long time b in
    let v = fits_int cversion c in
    (m, (m, (t, (t, (zero, (v, (zero, (fits_long owner d, (zero, (fits_int children e, fits_long pzxid f))))))))))

recorded : (layout : Layout) (value : Value layout) → Fits layout value → HasRecord layout value (spelling layout value)
recorded layout value fits = record { ignored = []; fits = fits; whole = sym (append-nil (spelling layout value)) }

abbrev IsListed : List Name → Value stat → Type 0
IsListed names of_lock =
    HasResult (Lists_children lock_text true) (Listing names (stat_of of_lock)) (spelling get_children2_response (lists names of_lock))

listing_recorded : (names : List Name) (of_lock : Value stat) → Fits get_children2_response (lists names of_lock)
    → texts_of (lists names of_lock).0 ≡ names → IsListed names of_lock
listing_recorded names of_lock fits same = (
  lists names of_lock,
  recorded get_children2_response (lists names of_lock) fits,
  ap (λ (texts : List Name). Listing texts (stat_of of_lock)) same,
)

three_recorded : IsListed all_three of_three
unfolding is_utf8 chars encode
three_recorded = listing_recorded all_three of_three (
  (omega arith, ((omega arith, refl), ((omega arith, refl), ((omega arith, refl), tt)))),
  stat_fits 5 1000 3 0 3 8 (omega arith) (omega arith) (omega arith) (omega arith) (omega arith) (omega arith),
) refl

two_recorded : IsListed last_two of_two
unfolding is_utf8 chars encode
two_recorded = listing_recorded last_two of_two (
  (omega arith, ((omega arith, refl), ((omega arith, refl), tt))),
  stat_fits 5 1000 4 0 2 10 (omega arith) (omega arith) (omega arith) (omega arith) (omega arith) (omega arith),
) refl

place_recorded : (name : Name) (zxid time session : ℕ) → zxid < 10000 → time < 10000 → session < 10000 → HasResult
    (question_of (read_place name)) (Read None (stat_of (place_stat zxid time (pos session))))
    (spelling get_data_response (reads (place_stat zxid time (pos session))))
place_recorded name zxid time session a b c = (
  reads (place_stat zxid time (pos session)),
  recorded get_data_response (reads (place_stat zxid time (pos session)))
      (tt, stat_fits zxid time 0 session 0 zxid a b (omega arith) c (omega arith) a),
  refl,
)

-- ---- the names below the directory

bool_eq : (names : List Name) (name : Name) (found : Bool) → list_any (bytes_eq name) names ≡ found
    → set.contains (set.from_list {R = slice_cmp nat_cmp} names) name ≡ found
bool_eq names name found e = sym (members names name) ∙ e

three_there : (name : Name) → list_any (bytes_eq name) all_three ≡ is_some (tree_held two_places 4 (name ∷ lock))
three_there name = go (bytes_eq name first_name) refl (bytes_eq name note_name) refl (bytes_eq name second_name) refl
  where
    go : (a : Bool) → bytes_eq name first_name ≡ a → (b : Bool) → bytes_eq name note_name ≡ b → (c : Bool)
        → bytes_eq name second_name ≡ c → list_any (bytes_eq name) all_three ≡ is_some (tree_held two_places 4 (name ∷ lock))
    go true e true f true g = simp (e, f, g, and_false)
    go true e true f false g = simp (e, f, g, and_false)
    go true e false f true g = simp (e, f, g, and_false)
    go true e false f false g = simp (e, f, g, and_false)
    go false e true f true g = simp (e, f, g, and_false)
    go false e true f false g = simp (e, f, g, and_false)
    go false e false f true g = simp (e, f, g, and_false)
    go false e false f false g = simp (e, f, g, and_false)

-- the note is written then, and no name comes or goes
three_at_nine : (name : Name) → list_any (bytes_eq name) all_three ≡ is_some (tree_held two_places 5 (name ∷ lock))
three_at_nine name = three_there name ∙ go (path_eq (name ∷ lock) (note_name ∷ lock)) (tree_held two_places 4 (name ∷ lock))
  where
    go : (b : Bool) (found : Option Node)
        → is_some found ≡ is_some (if b then option_map (written 9 (pos 5000) (Some (33 ∷ []))) found else found)
    go true found = sym (some_mapped (written 9 (pos 5000) (Some (33 ∷ []))) found)
    go false found = refl

-- no two names are one
apart : (name : Name) → bytes_eq name first_name ≡ true → list_any (bytes_eq name) last_two ≡ false
apart name e =
    let same : name ≡ first_name = (bytes_eq-Decides name first_name).0 e in
    ap (λ (n : Name). list_any (bytes_eq n) last_two) same

two_there : (name : Name) → list_any (bytes_eq name) last_two ≡ is_some (tree_held two_places 6 (name ∷ lock))
two_there name = go (bytes_eq name first_name) refl (bytes_eq name note_name) refl (bytes_eq name second_name) refl
  where
    go : (a : Bool) → bytes_eq name first_name ≡ a → (b : Bool) → bytes_eq name note_name ≡ b → (c : Bool)
        → bytes_eq name second_name ≡ c → list_any (bytes_eq name) last_two ≡ is_some (tree_held two_places 6 (name ∷ lock))
    go true e b f c g = apart name e ∙ sym (simp (e, and_false))
    go false e true f true g = simp (e, f, g, and_false)
    go false e true f false g = simp (e, f, g, and_false)
    go false e false f true g = simp (e, f, g, and_false)
    go false e false f false g = simp (e, f, g, and_false)

-- ---- the schedules

begun_then : (session place : ℕ) → session < 1000 → place ≤ 6 → IsServing two_places new_client (begun (pos session) place)
unfolding on_literals
begun_then session place small low = (
  λ on. ([], refl),
  (
    record {
      going = refl;
      may = (refl, refl, omega arith);
      told = (omega arith, (welcome (pos session), [], welcomed session small, refl), tt);
    },
    (low, tt),
  ),
)

-- a reply, as its bytes spell it: where its xid, its zxid and its code come from elsewhere
told_so : (xid zxid : ℕ) (layout : Layout) (value : Value layout) (question : Question) (result : Result) (x : ℤ) (z : ℕ)
    → xid < 1000 → zxid < 1000 → x ≡ pos xid → z ≡ zxid → code_of result ≡ pos 0 → length (reply_of xid zxid layout value) < 2 ^ 31
    → HasResult question result (spelling layout value)
    → ArePayloads x (Answer_to question z result ∷ []) (reply_of xid zxid layout value ∷ [])
told_so xid zxid layout value question result x z small low same at fine short has =
    (short, (spelling layout value, rw (same, at, fine) (headed xid zxid small low (spelling layout value)), has), tt)

-- a call is asked where nothing is coming; a server answers it, and the answer is taken
module _ (ticket xid zxid : ℕ) (call : Asked_call) (result : Result) (layout : Layout) (value : Value layout) (earlier : List Entry) where
  abbrev called : List Entry
  called = Goes_on 0 (due_turn earlier (Call ticket call)) ∷ earlier

  abbrev waiting : List Sent
  waiting = unread new_client (past_of new_client (items_in called)) (wire_of two_places called)

  abbrev end : ServerEnd
  end = (wire_of two_places called).server

  answered_then : xid < 1000 → zxid < 1000 → (wire_of two_places called).coming ≡ []
      → is_going (past_of new_client (items_in called)) ≡ true
      → MayDo two_places (Answers call result) end (map (λ sent. sent.request) waiting) → first_xid waiting ≡ pos xid
      → zxid_held two_places end.place ≡ zxid → code_of result ≡ pos 0 → length (reply_of xid zxid layout value) < 2 ^ 31
      → HasResult (question_of call) result (spelling layout value) → IsServing two_places new_client earlier
      → IsServing two_places new_client (asked ticket call result (reply_of xid zxid layout value) earlier)
  answered_then small low empty going may same at fine short has served = (
    λ on. ([], ap (λ (c : List ℕ). c ++ (frame (reply_of xid zxid layout value) ++ [])) empty),
    (
      record {
        going = going;
        may = may;
        told = told_so xid zxid layout value (question_of call) result (first_xid waiting) (zxid_held two_places end.place) small low
            same at fine short has;
      },
      (tt, served),
    ),
  )

not_ended : Serving ≡ Ended → ⊥
not_ended e = cc

-- session 7 lists at 8, reads its node, and lists at 9
first_again_then : IsServing two_places new_client first_again
unfolding on_literals
first_again_then =
    answered_then 3 3 9 list_lock (Listing all_three (stat_of of_three)) get_children2_response (lists all_three of_three)
    (Serves (Advances []) [] ∷ first_read) (omega arith) (omega arith) refl refl
    (refl, refl, ((refl, λ name. bool_eq all_three name _ (three_at_nine name)), refl)) refl refl refl (omega arith) three_recorded (
      record { going = refl; may = (not_ended, omega arith, all_sent []); told = tt },
      answered_then 2 2 8 (read_place first_name) (Read None (stat_of of_first)) get_data_response (reads of_first)
          first_listed (omega arith) (omega arith) refl refl (refl, refl, (refl, refl)) refl refl refl (omega arith)
          (place_recorded first_name 6 2000 7 (omega arith) (omega arith) (omega arith))
          (answered_then 1 1 8 list_lock (Listing all_three (stat_of of_three)) get_children2_response (lists all_three of_three)
          (begun (pos 7) 4) (omega arith) (omega arith) refl refl
          (refl, refl, ((refl, λ name. bool_eq all_three name _ (three_there name)), refl)) refl refl refl (omega arith)
          three_recorded (begun_then 7 4 (omega arith) (omega arith))),
    )

-- session 8 lists at 10, and reads its node
second_read_then : IsServing two_places new_client second_read
unfolding on_literals
second_read_then =
    answered_then 2 2 10 (read_place second_name) (Read None (stat_of of_second)) get_data_response (reads of_second) second_listed
    (omega arith) (omega arith) refl refl (refl, refl, (refl, refl)) refl refl refl (omega arith)
    (place_recorded second_name 8 4000 8 (omega arith) (omega arith) (omega arith))
    (answered_then 1 1 10 list_lock (Listing last_two (stat_of of_two)) get_children2_response (lists last_two of_two)
    (begun (pos 8) 6) (omega arith) (omega arith) refl refl (refl, refl, ((refl, λ name. bool_eq last_two name _ (two_there name)), refl))
    refl refl refl (omega arith) two_recorded (begun_then 8 6 (omega arith) (omega arith)))

-- ---- what the clients show

-- what is asked is about a path
all_askable : IsAskable list_lock × IsAskable (read_place first_name) × IsAskable (read_place second_name)
unfolding is_utf8 chars encode
all_askable = ((refl, refl), (refl, refl), (refl, refl))

since_stands : Stands new_client first_since.items first_since.view
since_stands =
    given_stands new_client first_since.items (refl, (refl, (refl, (refl, (refl, (refl, tt))))))
    (tt, (all_askable.1, (tt, (all_askable.0, (tt, (tt, tt))))))

pub last_stands : Stands new_client first_last.items first_last.view
last_stands =
    given_stands new_client first_last.items (refl, (refl, (refl, (refl, (refl, (refl, (refl, (refl, tt))))))))
    (tt, (all_askable.0, (tt, (all_askable.1, (tt, (all_askable.0, (tt, (tt, tt))))))))

pub second_stands : Stands new_client second_held.items second_held.view
second_stands =
    given_stands new_client second_held.items (refl, (refl, (refl, (refl, (refl, (refl, tt))))))
    (tt, (all_askable.2, (tt, (all_askable.0, (tt, (tt, tt))))))

-- what happened before stays among what happened
module _ (start : Start) (x : Happening) where
  in_joined : (past : Past) (more : List Happening) → Among x past → Among x (joined past more)
  in_joined past [] there = there
  in_joined past (one ∷ more) there = in_joined (one ∷ past) more (inr there)

  in_signals : (past : Past) (more : List Signal) → Among x past → Among x (past_after start past more)
  in_signals past [] there = there
  in_signals past (signal ∷ more) there =
      in_signals (joined past (happenings (view_at start past) signal)) more
      (in_joined past (happenings (view_at start past) signal) there)

  in_past : (items : List Item) (item : Item) → Among x (past_of start items) → Among x (past_of start (item ∷ items))
  in_past items item there = in_signals (past_of start items) (signals item) there

-- a call and its answer later
in_asked : (x : Happening) (ticket : ℕ) (call : Asked_call) (result : Result) (payload : List ℕ) (earlier : List Entry)
    → Among x (past_of new_client (items_in earlier)) → Among x (past_of new_client (items_in (asked ticket call result payload earlier)))
in_asked x ticket call result payload earlier there =
    let called : Item = due_turn earlier (Call ticket call) in
    let answered : List Entry = Serves (Answers call result) (payload ∷ []) ∷ Goes_on 0 called ∷ earlier in
    in_past new_client x (called ∷ items_in earlier) (due_turn answered (Bytes (frame payload)))
    (in_past new_client x (items_in earlier) called there)

abbrev first_answer : Happening
first_answer = Took (Replies 1 (Lists_children lock_text true) (pos 8) (Listing all_three (stat_of of_three)))

abbrev second_answer : Happening
second_answer = Took (Replies 1 (Lists_children lock_text true) (pos 10) (Listing last_two (stat_of of_two)))

-- what is kept of a place, where it was read
abbrev IsRead : Name → Value stat → List Entry → Type 0
IsRead name of_place entries =
    kept_data (below_lock name) (past_of new_client (items_in entries)) ≡ good (Full None (data_stat_of (stat_of of_place)))

pub all_kept : IsRead first_name of_first first_read × IsRead first_name of_first first_again × IsRead second_name of_second second_read
unfolding on_literals
all_kept = (refl, refl, refl)

both_answered : Among first_answer (past_of new_client (items_in first_listed))
    × Among second_answer (past_of new_client (items_in second_listed))
unfolding on_literals
both_answered = (inl refl, inl refl)

since_answered : Among first_answer (past_of new_client (items_in first_read))
since_answered = in_asked first_answer 2 (read_place first_name) (Read None (stat_of of_first))
    (reply_of 2 8 get_data_response (reads of_first)) first_listed both_answered.0

last_answered : Among first_answer (past_of new_client (items_in first_again))
last_answered = in_asked first_answer 3 list_lock (Listing all_three (stat_of of_three))
    (reply_of 3 9 get_children2_response (lists all_three of_three)) (Serves (Advances []) [] ∷ first_read) since_answered

held_answered : Among second_answer (past_of new_client (items_in second_read))
held_answered = in_asked second_answer 2 (read_place second_name) (Read None (stat_of of_second))
    (reply_of 2 10 get_data_response (reads of_second)) second_listed both_answered.1

-- the last zxid that is seen, and the session
abbrev IsSavedAs : Moment → ℕ → ℕ → Type 0
IsSavedAs moment last session = (moment.view.saved.last ≡ pos last) × (moment.view.saved.session.session ≡ pos session)

pub all_saved : IsSavedAs first_since 8 7 × IsSavedAs first_last 9 7 × IsSavedAs second_held 10 8
unfolding on_literals
all_saved = ((refl, refl), (refl, refl), (refl, refl))

pub all_names : (kept_names lock_text (past_of new_client (items_in first_again)) ≡ good (names_of all_three (stat_of of_three)))
    × (kept_names lock_text (past_of new_client (items_in second_read)) ≡ good (names_of last_two (stat_of of_two)))
unfolding on_literals
all_names = (refl, refl)

-- ---- the programs

-- a token in an answer, for the session that is shown
pub token_for : (session shown token : ℤ) (answer : Answer) → shown ≡ session → token_in session answer ≡ Some token
    → token_in shown answer ≡ Some token
token_for session shown token answer same e = subst (λ (s : ℤ). token_in s answer ≡ Some token) (sym same) e

seen_so : (listed last : ℤ) (zxid : ℕ) → last ≡ pos zxid → listed ≤ℤ pos zxid → listed ≤ℤ last
seen_so listed last zxid same le = subst (λ (z : ℤ). listed ≤ℤ z) (sym same) le

none_before : IsFirstOf places all_three first_name
none_before name (inl e) rival = ap (λ (n : Name). is_before n first_name) e
none_before name (inr (inl e)) rival =
    let k : is_rival places note_name ≡ true = subst (λ (n : Name). is_rival places n ≡ true) e rival in absurd cc
none_before name (inr (inr (inl e))) rival = ap (λ (n : Name). is_before n first_name) e
none_before name (inr (inr (inr none))) rival = absurd none

none_left : IsFirstOf places last_two second_name
none_left name (inl e) rival =
    let k : is_rival places note_name ≡ true = subst (λ (n : Name). is_rival places n ≡ true) e rival in absurd cc
none_left name (inr (inl e)) rival = ap (λ (n : Name). is_before n second_name) e
none_left name (inr (inr none)) rival = absurd none

-- what a program says by its listing, where its node is kept
says_so : (moment : Moment) (place : Place) (own : Name) (names : List Name) (of_lock of_place : Value stat) (listed last : ℕ) (session : ℤ)
    → path_of place.path ≡ own ∷ path_of lock_text → is_numbered places.own own ≡ true
    → Among (Took (Replies 1 (Lists_children lock_text true) (pos listed) (Listing names (stat_of of_lock))))
    (past_of new_client moment.items)
    → moment.view.cache.nodes place.path ≡ good (Full None (data_stat_of (stat_of of_place)))
    → moment.view.saved.session.session ≡ session → token_in session (Full None (data_stat_of (stat_of of_place))) ≡ Some place.token
    → IsFirstOf places names own → place.token ≤ℤ pos listed → moment.view.saved.last ≡ pos last → pos listed ≤ℤ pos last
    → SaysSo new_client lock_text places moment place
says_so moment place own names of_lock of_place listed last session below numbered answered kept same token first after seen le = record {
  ticket = 1;
  watch = true;
  listed = pos listed;
  names = names;
  stat = stat_of of_lock;
  answered = answered;
  shows = record {
    own = own;
    below = below;
    numbered = numbered;
    answer = Full None (data_stat_of (stat_of of_place));
    nodes = kept;
    made = token_for session moment.view.saved.session.session place.token (Full None (data_stat_of (stat_of of_place))) same token;
    first = first;
    after = after;
    seen = seen_so (pos listed) moment.view.saved.last last seen le;
  };
}

since_says : SaysSo new_client lock_text places first_since first_place
since_says = says_so first_since first_place first_name all_three of_three of_first 8 8 (pos 7) refl refl since_answered all_kept.0
    all_saved.0.1 refl none_before (grind (arith, ints)) all_saved.0.0 (grind (arith, ints))

pub last_says : SaysSo new_client lock_text places first_last first_place
last_says = says_so first_last first_place first_name all_three of_three of_first 8 9 (pos 7) refl refl last_answered all_kept.1
    all_saved.1.1 refl none_before (grind (arith, ints)) all_saved.1.0 (grind (arith, ints))

pub second_says : SaysSo new_client lock_text places second_held second_place
second_says = says_so second_held second_place second_name last_two of_two of_second 10 10 (pos 8) refl refl held_answered all_kept.2
    all_saved.2.1 refl none_left (grind (arith, ints)) all_saved.2.0 (grind (arith, ints))

-- what is said is the one place
one_place : (place other : Place) → Some place ≡ Some other → place ≡ other
one_place place other e = ap (λ (o : Option Place). elim o [ None ↦ place | Some p ↦ p ]) e

is_moment : (moment : Moment) (place : Place) → moment.says ≡ Some place → Stands new_client moment.items moment.view
    → SaysSo new_client lock_text places moment place → IsMoment new_client lock_text places moment
is_moment moment place says stands so = record {
  stands = stands;
  says = λ other e. subst (λ (p : Place). SaysSo new_client lock_text places moment p) (one_place place other (sym says ∙ e)) so;
}

served : (entries : List Entry) → IsServing two_places new_client entries → Served two_places new_client (items_in entries)
served entries may = record { entries = entries; whole = refl; may = may }

pub first_holding : IsHolding two_places first_run first_place first_since first_last
first_holding = record {
  moments = (
    is_moment first_last first_place refl last_stands last_says,
    (_ ∷ _ ∷ [], refl),
    (is_moment first_since first_place refl since_stands since_says, tt, tt),
  );
  earlier = first_since ∷ [];
  newest = refl;
  says = (refl, inr (refl, inl refl));
  history = line_history;
  served = local_served two_places (IsEither lock_text first_place.path) new_client first_last.items (served first_again first_again_then);
  sequence = line_sequence;
}

pub second_holding : IsHolding two_places second_run second_place second_held second_held
second_holding = record {
  moments = (is_moment second_held second_place refl second_stands second_says, tt, tt);
  earlier = [];
  newest = refl;
  says = (refl, inl refl);
  history = line_history;
  served = local_served two_places (IsEither lock_text second_place.path) new_client second_held.items
      (served second_read second_read_then);
  sequence = line_sequence;
}
