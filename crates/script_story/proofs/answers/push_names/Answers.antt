-- The line has the keys, which ascend (`sorted_map`) and are the set's members (`same_names`), by what `push_found` ensures.
use Rattle.std.proofs.Common.{map, refl}
use Rattle.std.specs.Prelude.{string_bytes}
use Rattle.std.specs.Cmp.Lexicographic.{slice_cmp}
use Rattle.std.specs.Ordering.{nat_cmp}
use Rattle.script_story.specs.Answers.{names_line}
use Rattle.script_words.proofs.NamesLemmas.{both, sorted_map, same_names}
use Rattle.script_story.proofs.answers.push_names.Goals as goal

pub returns-in-Some : goal.returns-in-Some
returns-in-Some g c =
    let keys = c.in-Some.found.names.keys in
    let told = c.push_found.ensures in
    rw c.in-Some.is (both c.push_found.result (λ line ordered. (
      names_line (map string_bytes keys) c.in-Some.found.pzxid,
      (
        map string_bytes keys,
        record { ascending = sorted_map string_bytes (slice_cmp nat_cmp) keys ordered; same = same_names keys },
        refl,
      ),
      line,
    )) told.line told.ordered)
