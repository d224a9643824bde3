-- The lines are those of the keys, which ascend (`sorted_map`) and are the names (`same_members`), by what `push_set` ensures (`both`).
use Rattle.std.proofs.Common.{refl, map}
use Rattle.std.specs.List.{flat_map}
use Rattle.std.specs.Prelude.{string_bytes}
use Rattle.std.specs.Cmp.Lexicographic.{slice_cmp}
use Rattle.std.specs.Ordering.{nat_cmp}
use Rattle.script_words.proofs.NamesLemmas.{both, sorted_map}
use Rattle.script_replay.proofs.SetLemmas.{same_members}
use Rattle.shell_ask.specs.Printing.{name_line}
use Rattle.shell_ask.proofs.names.push_names.Goals as goal

pub returns : goal.returns
returns g c =
    let set = c.in_ok-set.set in
    let each = map string_bytes set.keys in
    let told = c.push_set.ensures in
    both c.push_set.result (λ lines ordered. (
      flat_map name_line each,
      record {
        each = each;
        are = record {
          ascending = sorted_map string_bytes (slice_cmp nat_cmp) set.keys ordered;
          same = rw (← c.in_ok-set.ensures) (same_members set);
        };
        printed = refl;
      },
      lines,
    )) told.lines told.ordered
