-- The client of the whole schedule was served at each of its places, since a beginning of a schedule is one; what it keeps is computed.
use Rattle.std.proofs.Common.{◌≡◌, pos, List, [], ◌∷◌, Some, refl}
use Rattle.zk_cache.specs.Kept.{Full, good}
use Rattle.zk_turns.specs.Turns.{IsAskable, AllAskOf}
use Rattle.zk_turns.specs.Rule.{AllSaid}
use Rattle.zk_turns.proofs.Stepped.{given_stands}
use Rattle.zk_laws.specs.Served.{Entry, items_in, IsServing}
use Rattle.theory_messages.specs.Example.{at_a, fields_at_five}
use Rattle.theory_messages.specs.Meeting_example.{new_client}
use Rattle.theory_serving.specs.Whole_example.{three_changes, until_lost, until_written, until_expired}
use Rattle.theory_serving.proofs.Whole_shown.{three_history, whole_stands, lost_then, written_then, expired_then, good_then, seven_then}
use Rattle.zk_conclusions.specs.Seen.{IsServedFrom}
use Rattle.theory_witnesses.specs.Met.{shown_after}

served_after : (entries : List Entry) → AllSaid new_client (items_in entries) → AllAskOf IsAskable (items_in entries)
    → IsServing three_changes new_client entries → IsServedFrom three_changes (shown_after entries)
served_after entries said asked may = record {
  start = new_client;
  items = items_in entries;
  stands = given_stands new_client (items_in entries) said asked;
  history = three_history;
  served = record { entries = entries; whole = refl; may = may };
}

pub lost_served : IsServedFrom three_changes (shown_after until_lost)
lost_served = served_after until_lost whole_stands.said.1.1.1.1.1.1.1.1.1.1 whole_stands.asked.1.1.1.1.1.1.1.1.1.1 lost_then

pub written_served : IsServedFrom three_changes (shown_after until_written)
written_served = served_after until_written whole_stands.said.1.1.1 whole_stands.asked.1.1.1 written_then

pub expired_served : IsServedFrom three_changes (shown_after until_expired)
expired_served = served_after until_expired whole_stands.said whole_stands.asked expired_then

pub good_kept : (shown_after until_lost).cache.nodes at_a ≡ good (Full (Some (104 ∷ 105 ∷ [])) fields_at_five)
good_kept = good_then

pub last_seven : (shown_after until_written).saved.last ≡ pos 7
last_seven = seven_then
