-- Each name is written once, in the order of bytes: the names that are kept are sorted, and have the set's members (`same_listed`).
use Rattle.std.proofs.Common.{refl, ◌++◌, codes}
use Rattle.script_words.proofs.NamesLemmas.{both}
use Rattle.script_replay.proofs.SetLemmas.{same_listed}
use Rattle.shell_words.specs.Objects.{number_members}
use Rattle.shell_watch.specs.Lines.{array_members, mark_members}
use Rattle.shell_watch.proofs.kept_object.put_listing.Goals as goal

pub returns : goal.returns
returns g c =
    let found = c.args.found.now in
    both c.put_found.result (λ put sorted. (
      array_members (codes "names") found.names ++ (number_members (codes "pzxid") found.pzxid ++ mark_members c.args.mark),
      (found.names, record { ascending = sorted; same = same_listed found.names }, refl),
      put.0,
      put.1,
    )) c.put_found.ensures.written c.put_found.ensures.sorted
