-- The calls about the long paths may be asked, and are answered one after the other: by induction on their numbers, where what is to be
-- known of each is tested for all at once.
use Rattle.std.proofs.Common.{◌≡◌, ℕ, pos, negsuc, ◌+◌, ◌<◌, Bool, true, ◌&&◌, not, nat_lt, List, [], ◌∷◌, ◌++◌, map, drop, Option, Some}
use Rattle.std.proofs.Common.{None}
use Rattle.std.proofs.Common.{refl, sym, ap, ◌∙◌, subst, arith, is_some}
use Rattle.std.proofs.lemmas.Int.{ints}
use Rattle.std.proofs.lemmas.Bool.{and_parts}
use Rattle.std.proofs.lemmas.Bool.Decides.{nat_tests}
use Rattle.std.proofs.lemmas.List.{drop-drop}
use Rattle.std.specs.List.{list_all}
use Rattle.std.specs.Prelude.{bytes_eq}
use Rattle.std.specs.Str.{is_utf8, chars}
use lib.Utf8.{encode}
use Rattle.zk_jute.specs.Spelling.{int_bytes, long_bytes}
use Rattle.zk_nodes.specs.Path.{path_of}
use Rattle.zk_nodes.specs.PathFault.{fault_of}
use Rattle.zk_nodes.specs.declared.path_fault.PathFault.{PathFault}
use Rattle.zk_nodes.specs.History.{Node, contents_of}
use Rattle.zk_cache.specs.Kept.{Absent}
use Rattle.zk_conversation.specs.Calls.{call_payload}
use Rattle.zk_conversation.specs.Results.{NoNode}
use Rattle.zk_turns.specs.Spelled.{IsHeaded}
use Rattle.zk_turns.specs.Turns.{IsAskable, AllAskOf}
use Rattle.zk_turns.specs.Rule.{AllSaid}
use Rattle.zk_turns.specs.Taken.{past_of}
use Rattle.zk_laws.specs.Server.{Fits, Gives, tree_held}
use Rattle.zk_laws.specs.ServerSteps.{Answers, Serving, IsNext, messages_by}
use Rattle.zk_laws.specs.Messages.{Ask}
use Rattle.zk_laws.specs.Served.{Sent, Entry, Serves, MayServe, ArePayloads, first_xid, items_in, wire_of, is_going, requests, unread}
use Rattle.zk_laws.specs.Served.{IsServing}
use Rattle.zk_laws.proofs.Basics.{text_eq-true}
use Rattle.theory_messages.specs.Meeting_example.{new_client}
use Rattle.theory_serving.specs.Whole_example.{three_changes, long_path, ask_long, absent_payload, asking, denying, numbers}

-- ---- what is asked

is_asked : ℕ → Bool
is_asked n = is_utf8 (long_path n) && not (is_some (fault_of (long_path n)))

all_asked : list_all is_asked numbers ≡ true
unfolding is_asked is_utf8 chars encode
all_asked = refl

no_fault : (o : Option PathFault) → not (is_some o) ≡ true → o ≡ None
no_fault None e = refl
no_fault (Some fault) e = absurd cc

long_askable : (n : ℕ) → is_asked n ≡ true → IsAskable (ask_long n)
unfolding is_asked
long_askable n e =
    let both = and_parts (is_utf8 (long_path n)) (not (is_some (fault_of (long_path n)))) e in
    (both.0, no_fault (fault_of (long_path n)) both.1)

asking_asked : (ns : List ℕ) (earlier : List Entry) → list_all is_asked ns ≡ true → AllAskOf IsAskable (items_in earlier)
    → AllAskOf IsAskable (items_in (asking ns earlier))
asking_asked [] earlier e a = a
asking_asked (n ∷ ns) earlier e a =
    let both = and_parts (is_asked n) (list_all is_asked ns) e in
    asking_asked ns _ both.1 (long_askable n both.0, a)

pub asked_still : (earlier : List Entry) → AllAskOf IsAskable (items_in earlier) → AllAskOf IsAskable (items_in (asking numbers earlier))
asked_still earlier a = asking_asked numbers earlier all_asked a

pub asking_said : (ns : List ℕ) (earlier : List Entry) → AllSaid new_client (items_in earlier)
    → AllSaid new_client (items_in (asking ns earlier))
asking_said [] earlier s = s
asking_said (n ∷ ns) earlier s = asking_said ns _ (refl, s)

pub asking_serving : (ns : List ℕ) (earlier : List Entry) → IsServing three_changes new_client earlier
    → IsServing three_changes new_client (asking ns earlier)
asking_serving [] earlier s = s
asking_serving (n ∷ ns) earlier s = asking_serving ns _ (tt, s)

-- ---- what is answered

-- the number is small, so that an xid is one byte, and there is no node at the path
is_denied : ℕ → Bool
is_denied n = nat_lt n 200 && (bytes_eq (int_bytes (pos (2 + n))) (0 ∷ 0 ∷ 0 ∷ (2 + n) ∷ [])
    && not (is_some (tree_held three_changes 1 (path_of (long_path n)))))

all_denied : list_all is_denied numbers ≡ true
unfolding is_denied int_bytes
all_denied = refl

absent_fits : (o : Option Node) → not (is_some o) ≡ true → Fits Absent (contents_of o)
absent_fits None e = tt
absent_fits (Some node) e = absurd cc

absent_headed : (n : ℕ) → n < 200 → int_bytes (pos (2 + n)) ≡ 0 ∷ 0 ∷ 0 ∷ (2 + n) ∷ []
    → IsHeaded (pos (2 + n)) (pos 5) (negsuc 100) (absent_payload n) []
unfolding int_bytes long_bytes
absent_headed n small e = record {
  fits = (omega (arith, ints), (omega (arith, ints), omega (arith, ints)));
  whole = ap (λ bytes. bytes ++ (0 ∷ 0 ∷ 0 ∷ 0 ∷ 0 ∷ 0 ∷ 0 ∷ 5 ∷ 255 ∷ 255 ∷ 255 ∷ 155 ∷ [])) (sym e);
}

-- the request about a path
abbrev sent_of : ℕ → Sent
sent_of n = record { payload = call_payload (pos (2 + n)) (ask_long n); xid = pos (2 + n); request = Ask (ask_long n) }

denied_one : (n : ℕ) (ns : List ℕ) (earlier : List Entry) → is_denied n ≡ true
    → is_going (past_of new_client (items_in earlier)) ≡ true
    → (wire_of three_changes earlier).server.stage ≡ Serving
    → (wire_of three_changes earlier).server.place ≡ 1
    → unread new_client (past_of new_client (items_in earlier)) (wire_of three_changes earlier) ≡ map sent_of (n ∷ ns)
    → MayServe three_changes new_client (Answers (ask_long n) NoNode) (absent_payload n ∷ [])
    (past_of new_client (items_in earlier)) (wire_of three_changes earlier)
unfolding is_denied
denied_one n ns earlier e going stage place next =
    let small = and_parts (nat_lt n 200) (bytes_eq (int_bytes (pos (2 + n))) (0 ∷ 0 ∷ 0 ∷ (2 + n) ∷ [])
    && not (is_some (tree_held three_changes 1 (path_of (long_path n))))) e in
    let known = and_parts (bytes_eq (int_bytes (pos (2 + n))) (0 ∷ 0 ∷ 0 ∷ (2 + n) ∷ []))
    (not (is_some (tree_held three_changes 1 (path_of (long_path n))))) small.1 in
    let low : n < 200 = grind (arith, nat_tests, small.0) in
    let headed = absent_headed n low (text_eq-true (int_bytes (pos (2 + n))) (0 ∷ 0 ∷ 0 ∷ (2 + n) ∷ []) known.0) in
    let step = Answers (ask_long n) NoNode in
    record {
      going = going;
      may = (
        stage,
        subst (λ sent. IsNext (Ask (ask_long n)) (map (λ one. one.request) sent)) (sym next) refl,
        subst (λ place. Gives three_changes place (ask_long n) NoNode) (sym place)
            (absent_fits (tree_held three_changes 1 (path_of (long_path n))) known.1),
      );
      told =
          subst
          (λ place. ArePayloads (first_xid (unread new_client (past_of new_client (items_in earlier)) (wire_of three_changes earlier)))
          (messages_by three_changes step place) (absent_payload n ∷ [])) (sym place)
          (subst (λ sent. ArePayloads (first_xid sent) (messages_by three_changes step 1) (absent_payload n ∷ [])) (sym next)
          (omega arith, ([], headed, tt), tt));
    }

denying_serving : (ns : List ℕ) (earlier : List Entry) → list_all is_denied ns ≡ true
    → is_going (past_of new_client (items_in earlier)) ≡ true
    → (wire_of three_changes earlier).server.stage ≡ Serving
    → (wire_of three_changes earlier).server.place ≡ 1
    → unread new_client (past_of new_client (items_in earlier)) (wire_of three_changes earlier) ≡ map sent_of ns
    → IsServing three_changes new_client earlier
    → IsServing three_changes new_client (denying ns earlier)
denying_serving [] earlier e going stage place next s = s
denying_serving (n ∷ ns) earlier e going stage place next s =
    let both = and_parts (is_denied n) (list_all is_denied ns) e in
    let past = past_of new_client (items_in earlier) in
    let wire = wire_of three_changes earlier in
    denying_serving ns (Serves (Answers (ask_long n) NoNode) (absent_payload n ∷ []) ∷ earlier) both.1 going refl place
    (sym (drop-drop 1 wire.processed (requests new_client past)) ∙ ap (drop 1) next)
    (denied_one n ns earlier both.0 going stage place next, s)

pub denied_still : (earlier : List Entry)
    → is_going (past_of new_client (items_in earlier)) ≡ true
    → (wire_of three_changes earlier).server.stage ≡ Serving
    → (wire_of three_changes earlier).server.place ≡ 1
    → unread new_client (past_of new_client (items_in earlier)) (wire_of three_changes earlier) ≡ map sent_of numbers
    → IsServing three_changes new_client earlier
    → IsServing three_changes new_client (denying numbers earlier)
denied_still earlier going stage place next s = denying_serving numbers earlier all_denied going stage place next s
