-- The whole schedule is one, and what it leads to is computed.
use Rattle.std.proofs.Common.{◌≡◌, ℕ, pos, negsuc, true, false, map, List, [], ◌∷◌, refl, arith, Some, None, inl}
use Rattle.std.proofs.lemmas.Int.{ints}
use Rattle.std.specs.Str.{is_utf8, chars}
use lib.Utf8.{encode}
use Rattle.zk_jute.specs.Layout.{Value}
use Rattle.zk_jute.specs.Spelling.{int_bytes, long_bytes, counted_bytes}
use Rattle.zk_jute.specs.Reading.{bytes_at, int_at, long_at, boolean_at, length_of, length_at, counted_at, text_bytes_at, elements_at}
use Rattle.zk_nodes.specs.StatLayout.{stat}
use Rattle.zk_records.specs.Layouts.{watcher_event}
use Rattle.zk_records.specs.Response.{Response, IsPayload as IsResponse, flag_at, response_at}
use Rattle.zk_conversation.specs.Arriving.{arriving}
use Rattle.zk_conversation.specs.Results.{record_of}
use Rattle.zk_conversation.specs.Calls.{connect_payload, call_payload, part_payload, part_xid, ping_payload, ping_xid}
use Rattle.zk_turns.specs.Spelled.{IsHeaded, HasRecord}
use Rattle.zk_cache.specs.Kept.{Full, good}
use Rattle.zk_cache.specs.declared.held.Mark.TheVariants.{Stale}
use Rattle.zk_session.specs.declared.states.State.TheVariants.{Expired}
use Rattle.zk_nodes.specs.History.{IsHistory}
use Rattle.zk_turns.specs.Past.{kept_data, last_of, state_of}
use Rattle.zk_turns.specs.View.{view_at}
use Rattle.zk_turns.specs.Taken.{cut, past_of}
use Rattle.zk_turns.specs.Turns.{IsAskable}
use Rattle.zk_turns.specs.Rule.{AllSaid, Stands}
use Rattle.zk_turns.specs.Ranges.{IsTyped, AllAskOf}
use Rattle.zk_turns.proofs.Stepped.{given_stands}
use Rattle.zk_laws.specs.Headline.{IsQuietAt}
use Rattle.theory_serving.specs.GoingOn.{GoesOn}
use Rattle.theory_serving.proofs.GoingOn.{goes_serving}
use Rattle.zk_laws.specs.ServerSteps.{Waiting, Serving, Ended}
use Rattle.zk_laws.specs.Messages.{Connect, Restore, Ask, Ping}
use Rattle.zk_laws.specs.Served.{Entry, items_in, wire_of, requests, unread, IsServing}
use Rattle.theory_messages.specs.Example.{two_changes, at_a, fields_at_five, a_changed}
use Rattle.theory_messages.specs.Meeting_example.{welcome_payload, notice_payload, new_client, until_half_read}
use Rattle.theory_messages.proofs.Shown.{all_sent, is_history}
use Rattle.theory_messages.proofs.Meeting_shown.{half_read_then, stands_then}
use Rattle.theory_serving.proofs.Asked.{all_typed}
use Rattle.theory_serving.proofs.Denied.{asking_said, asking_serving, asked_still, denied_still}
use Rattle.theory_serving.specs.Whole_example.{third_change, three_changes, first_part, second_part, write_a, restored_payload}
use Rattle.theory_serving.specs.Whole_example.{pong_payload, stat_bytes, written_payload, numbers, asking, denying, until_read}
use Rattle.theory_serving.specs.Whole_example.{until_watched, until_lost, until_back, until_told}
use Rattle.theory_serving.specs.Whole_example.{until_ponged, until_written, expired_payload, until_expired}

-- what the payloads spell

abbrev welcome : Response
welcome = record { front = (pos 0, (pos 30000, (pos 2748, Some (7 ∷ 9 ∷ [])))); read_only = None }

welcomed : IsResponse welcome_payload welcome []
unfolding int_bytes long_bytes counted_bytes
welcomed = record { fits = (omega (arith, ints), (omega (arith, ints), (omega (arith, ints), omega arith))); whole = refl; ends = refl }

abbrev refusal : Response
refusal = record {
  front =
      (pos 0, (pos 0, (pos 0, Some (0 ∷ 0 ∷ 0 ∷ 0 ∷ 0 ∷ 0 ∷ 0 ∷ 0 ∷ 0 ∷ 0 ∷ 0 ∷ 0 ∷ 0 ∷ 0 ∷ 0 ∷ 0 ∷ []))));
  read_only = None;
}

refused : IsResponse expired_payload refusal []
unfolding int_bytes long_bytes counted_bytes
refused = record { fits = (omega (arith, ints), (omega (arith, ints), (omega (arith, ints), omega arith))); whole = refl; ends = refl }

abbrev notice_behind : List ℕ
notice_behind = 0 ∷ 0 ∷ 0 ∷ 3 ∷ 0 ∷ 0 ∷ 0 ∷ 3 ∷ 0 ∷ 0 ∷ 0 ∷ 2 ∷ 47 ∷ 97 ∷ []

notice_headed : IsHeaded (negsuc 0) (negsuc 0) (pos 0) notice_payload notice_behind
unfolding int_bytes long_bytes counted_bytes
notice_headed = record { fits = (omega (arith, ints), (omega (arith, ints), omega (arith, ints))); whole = refl }

notice_recorded : HasRecord watcher_event (pos 3, (pos 3, Some at_a)) notice_behind
unfolding is_utf8 chars encode int_bytes long_bytes counted_bytes
notice_recorded = record { ignored = []; fits = (omega (arith, ints), (omega (arith, ints), (omega arith, refl))); whole = refl }

restored_headed : IsHeaded part_xid (pos 6) (pos 0) restored_payload []
unfolding int_bytes long_bytes counted_bytes
restored_headed = record { fits = (omega (arith, ints), (omega (arith, ints), omega (arith, ints))); whole = refl }

pong_headed : IsHeaded ping_xid (pos 6) (pos 0) pong_payload []
unfolding int_bytes long_bytes counted_bytes
pong_headed = record { fits = (omega (arith, ints), (omega (arith, ints), omega (arith, ints))); whole = refl }

written_headed : IsHeaded (pos 34) (pos 7) (pos 0) written_payload stat_bytes
unfolding int_bytes long_bytes counted_bytes
written_headed = record { fits = (omega (arith, ints), (omega (arith, ints), omega (arith, ints))); whole = refl }

abbrev stat_value : Value stat
stat_value = (pos 5, (pos 7, (pos 1000, (pos 3000, (pos 2, (pos 0, (pos 0, (pos 0, (pos 1, (pos 0, pos 5))))))))))

written_recorded : HasRecord stat stat_value stat_bytes
unfolding int_bytes long_bytes counted_bytes
written_recorded = record {
  ignored = [];
  fits = (
    omega (arith, ints),
    (
      omega (arith, ints),
      (
        omega (arith, ints),
        (
          omega (arith, ints),
          (
            omega (arith, ints),
            (
              omega (arith, ints),
              (omega (arith, ints), (omega (arith, ints), (omega (arith, ints), (omega (arith, ints), omega (arith, ints))))),
            ),
          ),
        ),
      ),
    ),
  );
  whole = refl;
}

waits_still : Waiting ≡ Ended → ⊥
waits_still e = cc

serves_still : Serving ≡ Ended → ⊥
serves_still e = cc

-- the history goes on, with the small schedule
goes : GoesOn two_changes three_changes
goes = record { first = refl; more = _; transactions = refl }

half_read_later : IsServing three_changes new_client until_half_read
half_read_later = goes_serving two_changes three_changes new_client until_half_read goes half_read_then

read_then : IsServing three_changes new_client until_read
unfolding is_utf8 chars encode cut arriving connect_payload call_payload part_payload ping_payload int_bytes long_bytes counted_bytes
    bytes_at int_at long_at boolean_at length_of length_at counted_at text_bytes_at elements_at flag_at response_at record_of
read_then = (λ on. ([], refl), half_read_later)

denied_then : IsServing three_changes new_client (denying numbers (asking numbers until_read))
unfolding is_utf8 chars encode cut arriving connect_payload call_payload part_payload ping_payload int_bytes long_bytes counted_bytes
    bytes_at int_at long_at boolean_at length_of length_at counted_at text_bytes_at elements_at flag_at response_at record_of
denied_then = denied_still (asking numbers until_read) refl refl refl refl (asking_serving numbers until_read read_then)

pub watched_then : IsServing three_changes new_client until_watched
unfolding is_utf8 chars encode cut arriving connect_payload call_payload part_payload ping_payload int_bytes long_bytes counted_bytes
    bytes_at int_at long_at boolean_at length_of length_at counted_at text_bytes_at elements_at flag_at response_at record_of
watched_then = (λ on. ([], refl), denied_then)

pub lost_then : IsServing three_changes new_client until_lost
unfolding is_utf8 chars encode cut arriving connect_payload call_payload part_payload ping_payload int_bytes long_bytes counted_bytes
    bytes_at int_at long_at boolean_at length_of length_at counted_at text_bytes_at elements_at flag_at response_at record_of
lost_then = (
  tt,
  (
    λ on. (_, refl),
    (
      record {
        going = refl;
        may = (serves_still, omega arith, all_sent (a_changed ∷ []));
        told = (omega arith, (_, _, _, notice_headed, _, _, notice_recorded, refl), tt);
      },
      watched_then,
    ),
  ),
)

pub back_then : IsServing three_changes new_client until_back
unfolding is_utf8 chars encode cut arriving connect_payload call_payload part_payload ping_payload int_bytes long_bytes counted_bytes
    bytes_at int_at long_at boolean_at length_of length_at counted_at text_bytes_at elements_at flag_at response_at record_of
back_then = (
  λ on. ([], refl),
  (
    record { going = refl; may = (refl, refl, omega arith); told = (omega arith, (welcome, [], welcomed, refl), tt) },
    (omega arith, lost_then),
  ),
)

pub told_then : IsServing three_changes new_client until_told
unfolding is_utf8 chars encode cut arriving connect_payload call_payload part_payload ping_payload int_bytes long_bytes counted_bytes
    bytes_at int_at long_at boolean_at length_of length_at counted_at text_bytes_at elements_at flag_at response_at record_of
told_then = (
  λ on. ([], refl),
  (
    record { going = refl; may = (refl, refl, all_sent []); told = (omega arith, (_, restored_headed), tt) },
    (
      record {
        going = refl;
        may = (refl, refl, all_sent (a_changed ∷ []));
        told = (omega arith, (_, _, _, notice_headed, _, _, notice_recorded, refl), (omega arith, (_, restored_headed), tt));
      },
      (
        record { going = refl; may = (serves_still, omega arith, all_sent []); told = tt },
        back_then,
      ),
    ),
  ),
)

pub ponged_then : IsServing three_changes new_client until_ponged
unfolding is_utf8 chars encode cut arriving connect_payload call_payload part_payload ping_payload int_bytes long_bytes counted_bytes
    bytes_at int_at long_at boolean_at length_of length_at counted_at text_bytes_at elements_at flag_at response_at record_of
ponged_then = (
  λ on. ([], refl),
  (
    record { going = refl; may = (refl, refl); told = (omega arith, (_, _, _, pong_headed), tt) },
    (tt, told_then),
  ),
)

pub written_then : IsServing three_changes new_client until_written
unfolding is_utf8 chars encode cut arriving connect_payload call_payload part_payload ping_payload int_bytes long_bytes counted_bytes
    bytes_at int_at long_at boolean_at length_of length_at counted_at text_bytes_at elements_at flag_at response_at record_of
written_then = (
  λ on. ([], refl),
  (
    record {
      going = refl;
      may = (refl, refl, ((two_changes.transactions, third_change, refl, inl refl), refl));
      told = (omega arith, (_, written_headed, (_, written_recorded, refl)), tt);
    },
    (
      record { going = refl; may = (serves_still, omega arith, all_sent []); told = tt },
      (tt, ponged_then),
    ),
  ),
)

pub expired_then : IsServing three_changes new_client until_expired
unfolding is_utf8 chars encode cut arriving connect_payload call_payload part_payload ping_payload int_bytes long_bytes counted_bytes
    bytes_at int_at long_at boolean_at length_of length_at counted_at text_bytes_at elements_at flag_at response_at record_of
expired_then = (
  λ on. ([], refl),
  (
    record { going = refl; may = (refl, refl, omega arith); told = (omega arith, (refusal, [], refused, refl), tt) },
    (omega arith, (tt, written_then)),
  ),
)

-- ---- what it leads to

pub three_history : IsHistory three_changes
three_history = record {
  root = refl;
  parents = λ name path e. absurd cc;
  zeros = is_history.zeros;
  rising = (omega arith, omega arith, (omega arith, omega arith, (omega arith, omega arith, tt)));
  legal = ((((refl, refl), tt)), (((_, refl, omega arith), tt), (((_, refl, omega arith), tt), tt)));
}

-- the answer is still good: the notice did not come whole
pub good_then : kept_data at_a (past_of new_client (items_in until_lost)) ≡ good (Full (Some (104 ∷ 105 ∷ [])) fields_at_five)
unfolding is_utf8 chars encode cut arriving connect_payload call_payload part_payload ping_payload int_bytes long_bytes counted_bytes
    bytes_at int_at long_at boolean_at length_of length_at counted_at text_bytes_at elements_at flag_at response_at record_of
good_then = refl

-- the server of the second connection held the first transaction alone
pub behind_then : (wire_of three_changes until_back).server.place ≡ 1
behind_then = refl

-- the change that was missed made the answer stale
pub stale_then : kept_data at_a (past_of new_client (items_in until_told))
    ≡ Some (record { answer = Full (Some (104 ∷ 105 ∷ [])) fields_at_five; mark = Stale })
unfolding is_utf8 chars encode cut arriving connect_payload call_payload part_payload ping_payload int_bytes long_bytes counted_bytes
    bytes_at int_at long_at boolean_at length_of length_at counted_at text_bytes_at elements_at flag_at response_at record_of
stale_then = refl

-- the requests of the second connection
pub asked_then : map (λ sent. sent.request) (requests new_client (past_of new_client (items_in until_written)))
    ≡ Connect 5 ∷ Restore false 5 first_part ∷ Restore true 5 second_part ∷ Ping ∷ Ask write_a ∷ []
unfolding is_utf8 chars encode cut arriving connect_payload call_payload part_payload ping_payload int_bytes long_bytes counted_bytes
    bytes_at int_at long_at boolean_at length_of length_at counted_at text_bytes_at elements_at flag_at response_at record_of
asked_then = refl

-- and each was processed
pub answered_then : unread new_client (past_of new_client (items_in until_written)) (wire_of three_changes until_written) ≡ []
unfolding is_utf8 chars encode cut arriving connect_payload call_payload part_payload ping_payload int_bytes long_bytes counted_bytes
    bytes_at int_at long_at boolean_at length_of length_at counted_at text_bytes_at elements_at flag_at response_at record_of
answered_then = refl

-- all that the server sent was taken, and nothing waits to be set again
pub quiet_then : IsQuietAt three_changes new_client until_written
unfolding is_utf8 chars encode cut arriving connect_payload call_payload part_payload ping_payload int_bytes long_bytes counted_bytes
    bytes_at int_at long_at boolean_at length_of length_at counted_at text_bytes_at elements_at flag_at response_at record_of
quiet_then = record { going = refl; talking = refl; received = refl; taken = refl; restored = tt }

pub seven_then : last_of new_client (past_of new_client (items_in until_written)) ≡ pos 7
unfolding is_utf8 chars encode cut arriving connect_payload call_payload part_payload ping_payload int_bytes long_bytes counted_bytes
    bytes_at int_at long_at boolean_at length_of length_at counted_at text_bytes_at elements_at flag_at response_at record_of
seven_then = refl

pub over_then : state_of (past_of new_client (items_in until_expired)) ≡ Expired
unfolding is_utf8 chars encode cut arriving connect_payload call_payload part_payload ping_payload int_bytes long_bytes counted_bytes
    bytes_at int_at long_at boolean_at length_of length_at counted_at text_bytes_at elements_at flag_at response_at record_of
over_then = refl

-- a client stands there, and was asked with values of their types
abbrev called : List Entry
called = asking numbers until_read

called_said : AllSaid new_client (items_in called)
called_said = asking_said numbers until_read (refl, stands_then.said.1.1.1)

called_asked : AllAskOf IsAskable (items_in called)
called_asked = asked_still until_read (tt, stands_then.asked.1.1.1)

write_askable : IsAskable write_a
unfolding is_utf8 chars encode
write_askable = ((refl, omega (arith, ints)), refl)

pub whole_stands : Stands new_client (items_in until_expired) (view_at new_client (past_of new_client (items_in until_expired)))
whole_stands =
    given_stands new_client (items_in until_expired)
    (refl, (refl, (refl, (refl, (refl, (refl, (refl, (refl, (refl, (refl, (refl, (refl, (refl, called_said)))))))))))))
    (tt, (tt, (tt, (tt, (write_askable, (tt, (tt, (tt, (tt, (tt, (tt, (tt, (tt, called_asked)))))))))))))

pub whole_typed : AllAskOf IsTyped (items_in until_expired)
whole_typed = all_typed (items_in until_expired) whole_stands.asked
