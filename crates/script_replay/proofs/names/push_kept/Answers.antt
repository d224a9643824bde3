-- The words are those of the names that are kept, which ascend and are the set's members (`same_listed`), by what `push_counted` ensures.
use Rattle.std.proofs.Common.{refl}
use Rattle.script_replay.specs.Shown.{names_words}
use Rattle.script_words.proofs.NamesLemmas.{both}
use Rattle.script_replay.proofs.SetLemmas.{same_listed}
use Rattle.script_replay.proofs.names.push_kept.Goals as goal

pub returns : goal.returns
returns g c =
    let names = c.args.names.now in
    let told = c.push_counted.ensures in
    both c.push_counted.result (λ words sorted. (
      names_words names,
      record { each = names; are = record { ascending = sorted; same = same_listed names }; printed = refl },
      words,
    )) told.words told.sorted
