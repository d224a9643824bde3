-- What contracts of private functions say: nobody has to believe it.
use Rattle.std.specs.Prelude.{ℕ, ◌+◌, ◌-◌, Bool, if◌then◌else◌}
use Rattle.zk_nodes.specs.declared.side.Side.TheVariants.{Data, Child}
use Rattle.zk_conversation.specs.declared.counts.Counts.{Counts}
use Rattle.zk_conversation.specs.Questions.{Question, watched_side}
use Rattle.zk_conversation.specs.Pending.{Waiting, Part_waits, Call_waits, closes, is_on}

abbrev pub one_if : Bool → ℕ
one_if b = if b then 1 else 0

abbrev pub counts_with : Counts → Question → Counts
counts_with counts question = record {
  calls = counts.calls + 1;
  on_data = counts.on_data + one_if (is_on Data (watched_side question));
  on_child = counts.on_child + one_if (is_on Child (watched_side question));
  closes = counts.closes + one_if (closes question);
}

abbrev pub counts_without_call : Counts → Question → Counts
counts_without_call counts question = record {
  calls = counts.calls - 1;
  on_data = counts.on_data - one_if (is_on Data (watched_side question));
  on_child = counts.on_child - one_if (is_on Child (watched_side question));
  closes = counts.closes - one_if (closes question);
}

abbrev pub counts_without : Counts → Waiting → Counts
counts_without counts (Part_waits last) = counts
counts_without counts (Call_waits ticket question) = counts_without_call counts question
