-- The small schedule is one, and what it leads to is computed.
use Rattle.std.proofs.lemmas.Int.{ints}
use Rattle.zk_jute.specs.Layout.{Value}
use Rattle.zk_jute.specs.Spelling.{int_bytes, long_bytes, counted_bytes}
use Rattle.zk_jute.specs.Reading.{bytes_at, int_at, long_at, boolean_at, length_of, length_at, counted_at, text_bytes_at, elements_at}
use Rattle.zk_records.specs.Layouts.{get_data_response, watcher_event}
use Rattle.zk_records.specs.Response.{Response, IsPayload as IsResponse, flag_at, response_at}
use Rattle.zk_conversation.specs.Arriving.{arriving}
use Rattle.zk_conversation.specs.Results.{record_of}
use Rattle.zk_turns.specs.Spelled.{IsHeaded, HasRecord}
use Rattle.zk_laws.specs.Served.{items_in, IsServing}
use Rattle.theory_messages.specs.Meeting_example.{welcome_payload, reply_begins, reply_ends, notice_payload, new_client, until_accepted}
use Rattle.theory_messages.specs.Meeting_example.{until_half_read, until_cut}
use Rattle.std.proofs.Common.{◌≡◌, ℕ, pos, negsuc, List, [], ◌∷◌, ◌++◌, refl, arith, Some, None}
use Rattle.std.specs.Str.{is_utf8, chars}
use lib.Utf8.{encode}
use Rattle.zk_conversation.specs.Calls.{connect_payload, call_payload, part_payload}
use Rattle.zk_turns.specs.Past.{kept_data, last_of}
use Rattle.zk_cache.specs.Kept.{Full, good}
use Rattle.zk_turns.specs.View.{view_at}
use Rattle.zk_turns.specs.Taken.{cut, past_of}
use Rattle.zk_turns.specs.Rule.{Stands}
use Rattle.zk_turns.specs.Ranges.{IsResumable, IsTyped, AllAskOf}
use Rattle.zk_turns.proofs.Requested.{new_resumable}
use Rattle.zk_turns.proofs.Stepped.{given_stands}
use Rattle.theory_messages.specs.Example.{two_changes, at_a, fields_at_five, a_changed}
use Rattle.zk_laws.specs.ServerSteps.{Serving, Ended}
use Rattle.theory_messages.proofs.Shown.{all_sent, a_askable}

not_ended : Serving ≡ Ended → ⊥
not_ended e = cc

-- what the payloads spell

abbrev welcome : Response
welcome = record { front = (pos 0, (pos 30000, (pos 2748, Some (7 ∷ 9 ∷ [])))); read_only = None }

welcomed : IsResponse welcome_payload welcome []
unfolding is_utf8 chars encode cut arriving connect_payload call_payload part_payload int_bytes long_bytes counted_bytes bytes_at int_at
    long_at boolean_at length_of length_at counted_at text_bytes_at elements_at flag_at response_at record_of
welcomed = record { fits = (omega (arith, ints), (omega (arith, ints), (omega (arith, ints), omega arith))); whole = refl; ends = refl }

-- what stands after the header of the reply
abbrev reply_behind : List ℕ
reply_behind = 0 ∷ 0 ∷ 0 ∷ 2 ∷ 104 ∷ 105 ∷ 0 ∷ 0 ∷ 0 ∷ 0 ∷ 0 ∷ 0 ∷ 0 ∷ 5 ∷ [] ++ reply_ends

reply_headed : IsHeaded (pos 1) (pos 5) (pos 0) (reply_begins ++ reply_ends) reply_behind
unfolding is_utf8 chars encode cut arriving connect_payload call_payload part_payload int_bytes long_bytes counted_bytes bytes_at int_at
    long_at boolean_at length_of length_at counted_at text_bytes_at elements_at flag_at response_at record_of
reply_headed = record { fits = (omega (arith, ints), (omega (arith, ints), omega (arith, ints))); whole = refl }

abbrev reply_value : Value get_data_response
reply_value = (Some (104 ∷ 105 ∷ []), (pos 5, (pos 5, (pos 1000, (pos 1000, (pos 0, (pos 0, (pos 0, (pos 0, (pos 2, (pos 0, pos 5)))))))))))

reply_recorded : HasRecord get_data_response reply_value reply_behind
unfolding is_utf8 chars encode cut arriving connect_payload call_payload part_payload int_bytes long_bytes counted_bytes bytes_at int_at
    long_at boolean_at length_of length_at counted_at text_bytes_at elements_at flag_at response_at record_of
reply_recorded = record {
  ignored = 255 ∷ [];
  fits = (
    omega arith,
    (
      omega (arith, ints),
      (
        omega (arith, ints),
        (
          omega (arith, ints),
          (
            omega (arith, ints),
            (
              omega (arith, ints),
              (
                omega
                    (arith, ints),
                (omega (arith, ints), (omega (arith, ints), (omega (arith, ints), (omega (arith, ints), omega (arith, ints))))),
              ),
            ),
          ),
        ),
      ),
    ),
  );
  whole = refl;
}

abbrev notice_behind : List ℕ
notice_behind = 0 ∷ 0 ∷ 0 ∷ 3 ∷ 0 ∷ 0 ∷ 0 ∷ 3 ∷ 0 ∷ 0 ∷ 0 ∷ 2 ∷ 47 ∷ 97 ∷ []

notice_headed : IsHeaded (negsuc 0) (negsuc 0) (pos 0) notice_payload notice_behind
unfolding is_utf8 chars encode cut arriving connect_payload call_payload part_payload int_bytes long_bytes counted_bytes bytes_at int_at
    long_at boolean_at length_of length_at counted_at text_bytes_at elements_at flag_at response_at record_of
notice_headed = record { fits = (omega (arith, ints), (omega (arith, ints), omega (arith, ints))); whole = refl }

notice_recorded : HasRecord watcher_event (pos 3, (pos 3, Some at_a)) notice_behind
unfolding is_utf8 chars encode cut arriving connect_payload call_payload part_payload int_bytes long_bytes counted_bytes bytes_at int_at
    long_at boolean_at length_of length_at counted_at text_bytes_at elements_at flag_at response_at record_of
notice_recorded = record { ignored = []; fits = (omega (arith, ints), (omega (arith, ints), (omega arith, refl))); whole = refl }

pub accepted_then : IsServing two_changes new_client until_accepted
unfolding is_utf8 chars encode cut arriving connect_payload call_payload part_payload int_bytes long_bytes counted_bytes bytes_at int_at
    long_at boolean_at length_of length_at counted_at text_bytes_at elements_at flag_at response_at record_of
accepted_then = (
  λ on. ([], refl),
  (
    record { going = refl; may = (refl, refl, omega arith); told = (omega arith, (welcome, [], welcomed, refl), tt) },
    (omega arith, tt),
  ),
)

pub half_read_then : IsServing two_changes new_client until_half_read
unfolding is_utf8 chars encode cut arriving connect_payload call_payload part_payload int_bytes long_bytes counted_bytes bytes_at int_at
    long_at boolean_at length_of length_at counted_at text_bytes_at elements_at flag_at response_at record_of
half_read_then = (
  λ on. (_, refl),
  (
    record { going = refl; may = (refl, refl, (refl, refl)); told = (omega arith, (_, reply_headed, (_, reply_recorded, refl)), tt) },
    (tt, accepted_then),
  ),
)

pub cut_then : IsServing two_changes new_client until_cut
unfolding is_utf8 chars encode cut arriving connect_payload call_payload part_payload int_bytes long_bytes counted_bytes bytes_at int_at
    long_at boolean_at length_of length_at counted_at text_bytes_at elements_at flag_at response_at record_of
cut_then = (
  tt,
  (
    λ on. (_, refl),
    (
      record {
        going = refl;
        may = (not_ended, omega arith, all_sent (a_changed ∷ []));
        told = (omega arith, (_, _, _, notice_headed, _, _, notice_recorded, refl), tt);
      },
      (λ on. ([], refl), half_read_then),
    ),
  ),
)

-- the answer is still good: the notice did not come whole
pub kept_then : kept_data at_a (past_of new_client (items_in until_cut)) ≡ good (Full (Some (104 ∷ 105 ∷ [])) fields_at_five)
unfolding is_utf8 chars encode cut arriving connect_payload call_payload part_payload int_bytes long_bytes counted_bytes bytes_at int_at
    long_at boolean_at length_of length_at counted_at text_bytes_at elements_at flag_at response_at record_of
kept_then = refl

pub last_then : last_of new_client (past_of new_client (items_in until_cut)) ≡ pos 5
unfolding is_utf8 chars encode cut arriving connect_payload call_payload part_payload int_bytes long_bytes counted_bytes bytes_at int_at
    long_at boolean_at length_of length_at counted_at text_bytes_at elements_at flag_at response_at record_of
last_then = refl

-- and a client stands there
pub stands_then : Stands new_client (items_in until_cut) (view_at new_client (past_of new_client (items_in until_cut)))
stands_then =
    given_stands new_client (items_in until_cut) (refl, (refl, (refl, (refl, (refl, (refl, (refl, tt)))))))
    (tt, (tt, (tt, (tt, (a_askable, (tt, (tt, tt)))))))

-- it began in range, and was asked with values of their types
pub resumable_then : IsResumable new_client
resumable_then = new_resumable 30000 (omega arith)

pub typed_then : AllAskOf IsTyped (items_in until_cut)
typed_then = (tt, (tt, (tt, (tt, (a_askable.0, (tt, (tt, tt)))))))
