-- What both programs show, in the forms of `zk_conclusions`: each stands first, and each holds by the names that are kept.
use Rattle.std.proofs.Common.{◌≡◌, ℤ, pos, false, List, ◌∷◌, ◌++◌, refl, ap, inl, inr, Some, None}
use Rattle.std.specs.FinSet as set
use Rattle.std.specs.Cmp.Lexicographic.{slice_cmp}
use Rattle.std.specs.Ordering.{nat_cmp}
use Rattle.zk_turns.specs.Meaning.{Among}
use Rattle.zk_turns.specs.Past.{names_of}
use Rattle.zk_jute.specs.Layout.{Value}
use Rattle.zk_nodes.specs.Path.{Name, path_of}
use Rattle.zk_nodes.specs.StatLayout.{stat}
use Rattle.zk_nodes.specs.DataStats.{data_stat_of}
use Rattle.zk_conversation.specs.Results.{stat_of}
use Rattle.zk_cache.specs.Kept.{Full, good}
use Rattle.theory_local.specs.LocalServed.{ServedAt}
use Rattle.theory_local.proofs.Following.{served_fewer}
use Rattle.zk_conclusions.specs.Seen.{Is, IsEither, IsServedAt}
use Rattle.zk_conclusions.specs.Holders.{token_in, IsFirstOf, NamesRise, ShowsHolder, is_before}
use Rattle.zk_conclusions.specs.Standings.{IsShownStanding, NumbersRise}
use Rattle.zk_conclusions.proofs.Sets.{set_among}
use Rattle.theory_contenders.specs.Programs.{Moment, Place, SaysSo, IsMoment}
use Rattle.theory_contenders.specs.Line_example.{lock, lock_text, marker, first_name, second_name, places, two_places}
use Rattle.theory_contenders.specs.Line_example.{of_three, of_two, of_first, of_second, all_three, last_two}
use Rattle.theory_contenders.specs.Line_example.{first_last, first_place, second_held, second_place}
use Rattle.theory_messages.specs.Meeting_example.{new_client}
use Rattle.theory_contenders.proofs.Counting.{sequences_rise, names_in_sequence_rise}
use Rattle.theory_contenders.proofs.Having.{lists_all}
use Rattle.theory_contenders.proofs.Line_history.{line_history, line_sequence, alone_sequence, only_numbered, no_note}
use Rattle.theory_contenders.proofs.Line_shown.{first_holding, second_holding, last_says, second_says}
use Rattle.theory_contenders.proofs.Line_shown.{all_kept, all_names, all_saved, token_for}

pub numbers_rise_there : NumbersRise two_places lock places
numbers_rise_there = sequences_rise two_places lock places line_history line_sequence

pub names_rise_there : NamesRise two_places lock marker
names_rise_there = names_in_sequence_rise two_places lock marker line_history alone_sequence only_numbered

-- a moment's claim, as a client that is shown to stand first
shown : (moment : Moment) (place : Place) (one : IsMoment new_client lock_text places moment)
    → SaysSo new_client lock_text places moment place
    → ServedAt (IsEither lock_text place.path) two_places new_client moment.items
    → IsShownStanding two_places moment.view lock_text places place.path place.token
shown moment place one so served = record {
  seen = record {
    start = new_client;
    items = moment.items;
    stands = one.stands;
    history = line_history;
    served = served_fewer (IsEither lock_text place.path) (Is place.path) (λ path e. inr e) two_places new_client moment.items served;
  };
  rises = numbers_rise_there;
  names = so.names;
  listed = so.listed;
  all = lists_all two_places new_client lock_text places moment place line_history one so served numbers_rise_there;
  shows = so.shows;
}

pub first_stands : IsShownStanding two_places first_last.view lock_text places first_place.path first_place.token
first_stands = shown first_last first_place first_holding.moments.0 last_says first_holding.served

pub second_stands_first : IsShownStanding two_places second_held.view lock_text places second_place.path second_place.token
second_stands_first = shown second_held second_place second_holding.moments.0 second_says second_holding.served

-- ---- by the names that are kept

first_of_three : IsFirstOf (set.from_list {R = slice_cmp nat_cmp} all_three) marker first_name
first_of_three name there has = go (set_among all_three name there)
  where
    go : Among name all_three → is_before name first_name ≡ false
    go (inl e) = ap (λ (n : Name). is_before n first_name) e
    go (inr (inl e)) = absurd (no_note name e has)
    go (inr (inr (inl e))) = ap (λ (n : Name). is_before n first_name) e
    go (inr (inr (inr none))) = absurd none

first_of_two : IsFirstOf (set.from_list {R = slice_cmp nat_cmp} last_two) marker second_name
first_of_two name there has = go (set_among last_two name there)
  where
    go : Among name last_two → is_before name second_name ≡ false
    go (inl e) = absurd (no_note name e has)
    go (inr (inl e)) = ap (λ (n : Name). is_before n second_name) e
    go (inr (inr none)) = absurd none

-- who is shown to be served, and by the names to be the first: the same for each of the two
holds : (moment : Moment) (place : Place) (own digits : Name) (names : List Name) (of_lock of_place : Value stat) (session : ℤ)
    → IsMoment new_client lock_text places moment → ServedAt (IsEither lock_text place.path) two_places new_client moment.items
    → path_of place.path ≡ own ∷ path_of lock_text → own ≡ marker ++ digits
    → moment.view.cache.children lock_text ≡ good (names_of names (stat_of of_lock))
    → IsFirstOf (set.from_list {R = slice_cmp nat_cmp} names) marker own
    → moment.view.cache.nodes place.path ≡ good (Full None (data_stat_of (stat_of of_place)))
    → moment.view.saved.session.session ≡ session → token_in session (Full None (data_stat_of (stat_of of_place))) ≡ Some place.token
    → IsServedAt (IsEither lock_text place.path) two_places moment.view × ShowsHolder moment.view lock_text marker place.path place.token
holds moment place own digits names of_lock of_place session one served below begins children first kept same token = (
  record { start = new_client; items = moment.items; stands = one.stands; history = line_history; served = served },
  record {
    own = own;
    below = below;
    begins = (digits, begins);
    names = names_of names (stat_of of_lock);
    children = children;
    first = first;
    answer = Full None (data_stat_of (stat_of of_place));
    nodes = kept;
    made = token_for session moment.view.saved.session.session place.token (Full None (data_stat_of (stat_of of_place))) same token;
  },
)

pub first_holds : IsServedAt (IsEither lock_text first_place.path) two_places first_last.view
    × ShowsHolder first_last.view lock_text marker first_place.path first_place.token
first_holds = holds first_last first_place first_name _ all_three of_three of_first (pos 7) first_holding.moments.0 first_holding.served
    refl refl all_names.0 first_of_three all_kept.1 all_saved.1.1 refl

pub second_holds : IsServedAt (IsEither lock_text second_place.path) two_places second_held.view
    × ShowsHolder second_held.view lock_text marker second_place.path second_place.token
second_holds = holds second_held second_place second_name _ last_two of_two of_second (pos 8) second_holding.moments.0
    second_holding.served refl refl all_names.1 first_of_two all_kept.2 all_saved.2.1 refl
