-- The schedule that departs elsewhere is one, what it leads to is computed, and no history explains it by servers of the model.
use Rattle.std.proofs.lemmas.Int.{ints}
use Rattle.std.specs.Prelude.{⊤}
use Rattle.std.proofs.Common.{◌≡◌, ◌<◌, ℕ, ℤ, pos, negsuc, List, [], ◌∷◌, ◌++◌, refl, arith, Option, Some, None, ap, inl}
use Rattle.std.specs.Str.{is_utf8, chars}
use lib.Utf8.{encode}
use Rattle.zk_jute.specs.Layout.{int, Value}
use Rattle.zk_jute.specs.Spelling.{int_bytes, long_bytes, counted_bytes, Fits as Fits_as}
use Rattle.zk_jute.specs.Reading.{bytes_at, int_at, long_at, boolean_at, length_of, length_at, counted_at, text_bytes_at, elements_at}
use Rattle.zk_nodes.specs.History.{Node, History, IsHistory, tree_at, contents_of}
use Rattle.zk_nodes.specs.StatLayout.{stat}
use Rattle.zk_nodes.specs.DataStats.{data_stat_of}
use Rattle.zk_conversation.specs.Questions.{question_of}
use Rattle.zk_nodes.specs.Path.{path_of}
use Rattle.zk_records.specs.Layouts.{get_data_response}
use Rattle.zk_records.specs.Response.{Response, IsPayload as IsResponse, flag_at, response_at}
use Rattle.zk_conversation.specs.Arriving.{arriving}
use Rattle.zk_conversation.specs.Calls.{connect_payload, call_payload, part_payload, part_xid}
use Rattle.zk_conversation.specs.Results.{record_of}
use Rattle.zk_turns.specs.Spelled.{IsHeaded, HasRecord}
use Rattle.zk_turns.specs.Turns.{WatchesRefused, IsAskable}
use Rattle.zk_turns.specs.Past.{kept_data, last_of, Dropped, Took as Takes_in, Replies as Answers_call}
use Rattle.zk_turns.specs.View.{view_at}
use Rattle.zk_turns.specs.Taken.{cut, past_of}
use Rattle.zk_turns.specs.Rule.{Stands}
use Rattle.zk_turns.specs.Meaning.{Among}
use Rattle.zk_turns.proofs.Stepped.{given_stands}
use Rattle.zk_cache.specs.Kept.{Full, good}
use Rattle.zk_laws.specs.Server.{Fits}
use Rattle.zk_laws.specs.Served.{Served}
use Rattle.theory_messages.specs.Example.{two_changes, at_a, fields_at_five}
use Rattle.theory_messages.specs.Meeting_example.{new_client, welcome_payload, reply_ends, until_accepted}
use Rattle.theory_messages.proofs.Shown.{a_askable}
use Rattle.theory_messages.proofs.Meeting_shown.{accepted_then}
use Rattle.zk_laws.proofs.Headlines.{true_reads}
use Rattle.theory_local.specs.LocalSteps.{IsOf, IsAbout}
use Rattle.theory_local.specs.LocalServed.{items_at, IsServingAt}
use Rattle.theory_witnesses.specs.Departure_example.{only_a, at_config, config_payload, second_payload, refusal_payload, stat_of_config}
use Rattle.theory_witnesses.specs.Departure_example.{what_config_held, read_config, until_config, until_watched, until_back, until_refused}
use Rattle.theory_local.proofs.Following.{local_serving}

-- what is computed of bytes that are written out
on_literals : ⊤
unfolding is_utf8 chars encode cut arriving connect_payload call_payload part_payload int_bytes long_bytes counted_bytes bytes_at int_at
    long_at boolean_at length_of length_at counted_at text_bytes_at elements_at flag_at response_at record_of
on_literals = tt

-- a Stat of small numbers, whose version may be -1
stat_fits : (made time length : ℕ) (version : ℤ) → made < 10000 → time < 10000 → length < 10000 → Fits_as int version → Fits_as stat (
  pos made,
  (
    pos made,
    (pos time, (pos time, (version, (pos 0, (version, (pos 0, (pos length, (pos 0, pos made)))))))),
  ),
)
stat_fits made time length version a b c of_version = (
  omega (arith, ints),
  (
    omega (arith, ints),
    (
      omega (arith, ints),
      (
        omega (arith, ints),
        (
          of_version,
          (
            omega (arith, ints),
            (of_version, (omega (arith, ints), (omega (arith, ints), (omega (arith, ints), omega (arith, ints))))),
          ),
        ),
      ),
    ),
  ),
)

abbrev welcome : Response
welcome = record { front = (pos 0, (pos 30000, (pos 2748, Some (7 ∷ 9 ∷ [])))); read_only = None }

welcomed : IsResponse welcome_payload welcome []
unfolding on_literals
welcomed = record { fits = (omega (arith, ints), (omega (arith, ints), (omega (arith, ints), omega arith))); whole = refl; ends = refl }

abbrev config_behind : List ℕ
config_behind =
    0 ∷ 0 ∷ 0 ∷ 0
    ∷ 0 ∷ 0 ∷ 0 ∷ 0 ∷ 0 ∷ 0 ∷ 0 ∷ 0 ∷ 0 ∷ 0 ∷ 0 ∷ 0 ∷ 0 ∷ 0 ∷ 0 ∷ 0 ∷ 0 ∷ 0 ∷ 0 ∷ 0 ∷ 0 ∷ 0 ∷ 0 ∷ 0 ∷ 0 ∷ 0 ∷ 0 ∷ 0 ∷ 0 ∷ 0 ∷ 0 ∷ 0
    ∷ 255 ∷ 255 ∷ 255 ∷ 255 ∷ 0 ∷ 0 ∷ 0 ∷ 0 ∷ 255 ∷ 255 ∷ 255 ∷ 255 ∷ 0 ∷ 0 ∷ 0 ∷ 0 ∷ 0 ∷ 0 ∷ 0 ∷ 0 ∷ 0 ∷ 0 ∷ 0 ∷ 0 ∷ 0 ∷ 0 ∷ 0 ∷ 0 ∷ 0 ∷ 0
    ∷ 0 ∷ 0 ∷ 0 ∷ 0 ∷ 0 ∷ 0 ∷ []

config_headed : IsHeaded (pos 1) (pos 5) (pos 0) config_payload config_behind
unfolding on_literals
config_headed = record { fits = (omega (arith, ints), (omega (arith, ints), omega (arith, ints))); whole = refl }

abbrev config_value : Value get_data_response
config_value = (Some [], (pos 0, (pos 0, (pos 0, (pos 0, (negsuc 0, (pos 0, (negsuc 0, (pos 0, (pos 0, (pos 0, pos 0)))))))))))

config_recorded : HasRecord get_data_response config_value config_behind
unfolding on_literals
config_recorded = record {
  ignored = [];
  fits = (omega arith, stat_fits 0 0 0 (negsuc 0) (omega arith) (omega arith) (omega arith) (omega (arith, ints)));
  whole = refl;
}

abbrev second_behind : List ℕ
second_behind = 0 ∷ 0 ∷ 0 ∷ 2 ∷ 104 ∷ 105 ∷ 0 ∷ 0 ∷ 0 ∷ 0 ∷ 0 ∷ 0 ∷ 0 ∷ 5 ∷ [] ++ reply_ends

second_headed : IsHeaded (pos 2) (pos 5) (pos 0) second_payload second_behind
unfolding on_literals
second_headed = record { fits = (omega (arith, ints), (omega (arith, ints), omega (arith, ints))); whole = refl }

abbrev second_value : Value get_data_response
second_value =
    (Some (104 ∷ 105 ∷ []), (pos 5, (pos 5, (pos 1000, (pos 1000, (pos 0, (pos 0, (pos 0, (pos 0, (pos 2, (pos 0, pos 5)))))))))))

second_recorded : HasRecord get_data_response second_value second_behind
unfolding on_literals
second_recorded = record {
  ignored = 255 ∷ [];
  fits = (omega arith, stat_fits 5 1000 2 (pos 0) (omega arith) (omega arith) (omega arith) (omega (arith, ints)));
  whole = refl;
}

refusal_headed : IsHeaded part_xid (pos 5) (negsuc 111) refusal_payload []
unfolding on_literals
refusal_headed = record { fits = (omega (arith, ints), (omega (arith, ints), omega (arith, ints))); whole = refl }

elsewhere : IsAbout (IsOf only_a) read_config → ⊥
elsewhere e = cc

-- the configuration is read, and then /a
watched_then : IsServingAt (IsOf only_a) two_changes new_client until_watched
unfolding on_literals
watched_then = (
  λ on. ([], refl),
  (
    record {
      going = refl;
      may = (refl, refl, (tt, λ about. (refl, refl)));
      told = (omega arith, (_, second_headed, (_, second_recorded, refl)), tt);
    },
    (
      tt,
      (
        λ on. ([], refl),
        (
          record {
            going = refl;
            may = (refl, refl, (tt, λ about. absurd (elsewhere about)));
            told = (omega arith, (_, config_headed, (_, config_recorded, refl)), tt);
          },
          (tt, local_serving two_changes (IsOf only_a) new_client until_accepted accepted_then),
        ),
      ),
    ),
  ),
)

back_then : IsServingAt (IsOf only_a) two_changes new_client until_back
unfolding on_literals
back_then = (
  λ on. ([], refl),
  (
    record { going = refl; may = (refl, refl, omega arith); told = (omega arith, (welcome, [], welcomed, refl), tt) },
    (omega arith, (tt, watched_then)),
  ),
)

not_zero : negsuc 111 ≡ pos 0 → ⊥
not_zero e = cc

pub refused_then : IsServingAt (IsOf only_a) two_changes new_client until_refused
unfolding on_literals
refused_then = (
  λ on. (9 ∷ 9 ∷ [], refl),
  (
    record {
      going = refl;
      serving = refl;
      next = (_, _, _, refl);
      short = omega arith;
      error = (pos 5, negsuc 111, [], not_zero, refusal_headed);
    },
    back_then,
  ),
)

-- what was read of /a is still good, and the connection was given up
pub good_then : kept_data at_a (past_of new_client (items_at until_refused)) ≡ good (Full (Some (104 ∷ 105 ∷ [])) fields_at_five)
unfolding on_literals
good_then = refl

pub five_then : last_of new_client (past_of new_client (items_at until_refused)) ≡ pos 5
unfolding on_literals
five_then = refl

pub dropped_then : Among (Dropped (WatchesRefused (negsuc 111))) (past_of new_client (items_at until_refused))
unfolding on_literals
dropped_then = inl refl

config_askable : IsAskable read_config
unfolding is_utf8 chars encode
config_askable = (refl, refl)

-- a client stands there
pub refused_stands : Stands new_client (items_at until_refused) (view_at new_client (past_of new_client (items_at until_refused)))
refused_stands =
    given_stands new_client (items_at until_refused) (refl, (refl, (refl, (refl, (refl, (refl, (refl, (refl, (refl, (refl, tt))))))))))
    (tt, (tt, (tt, (tt, (tt, (a_askable, (tt, (config_askable, (tt, (tt, tt))))))))))

-- the reply about the configuration was taken
config_taken : Among (Takes_in (Answers_call 7 (question_of read_config) (pos 5) what_config_held))
    (past_of new_client (items_at until_config))
unfolding on_literals
config_taken = inl refl

-- no node has the version -1
no_node : (o : Option Node) → Fits (Full (Some []) (data_stat_of stat_of_config)) (contents_of o) → ⊥
no_node None f = f
no_node (Some node) f = let v : negsuc 0 ≡ pos node.version = ap (λ fields. fields.version) f.1 in cc

pub not_by_model : (h : History) → IsHistory h → Served h new_client (items_at until_config) → ⊥
not_by_model h is served =
    no_node (tree_at h 5 (path_of at_config)) (true_reads h is new_client (items_at until_config)
    (tt, (config_askable, (tt, (tt, tt)))) served 7
    (question_of read_config) (pos 5) what_config_held config_taken)
