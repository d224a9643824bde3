-- The words are those of the keys, which ascend (`sorted_map`) and are the set's members (`same_members`), by what `push_keys` ensures.
use Rattle.std.proofs.Common.{refl, map}
use Rattle.std.specs.Prelude.{string_bytes}
use Rattle.std.specs.Cmp.Lexicographic.{slice_cmp}
use Rattle.std.specs.Ordering.{nat_cmp}
use Rattle.script_replay.specs.Shown.{names_words}
use Rattle.script_words.proofs.NamesLemmas.{both, sorted_map}
use Rattle.script_replay.proofs.SetLemmas.{same_members}
use Rattle.script_replay.proofs.names.push_set.Goals as goal

pub returns : goal.returns
returns g c =
    let set = c.args.names.now in
    let each = map string_bytes set.keys in
    let told = c.push_keys.ensures in
    both c.push_keys.result (λ words ordered. (
      names_words each,
      record {
        each = each;
        are = record { ascending = sorted_map string_bytes (slice_cmp nat_cmp) set.keys ordered; same = same_members set };
        printed = refl;
      },
      words,
    )) told.words told.ordered
