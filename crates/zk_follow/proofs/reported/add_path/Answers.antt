-- An insert updates the map at the bytes of its key (`hash_map_updates_text`), which are those of the path; what is put there is there.
use Rattle.std.proofs.Common.{◌∙◌, Some, ap, bytes_eq, string_bytes, if◌then◌else◌}
use Rattle.std.specs.Prelude.{is_some}
use Rattle.std.proofs.lemmas.Map.Text.{hash_map_updates_text}
use Rattle.indexmap.specs.IndexMap.{get_by_text}
use Rattle.zk_follow.proofs.Paths.{some_if}
use Rattle.zk_follow.proofs.reported.add_path.Goals as goal

pub returns : goal.returns
returns g c = λ other.
    let was = get_by_text c.args.paths.now other in
    ap is_some (hash_map_updates_text (string_bytes c.in_ok-from_str.field-0) c.args.paths.now c.insert.new.self _
    c.in_ok-insert.ensures.updates other)
    ∙ ap (λ b. is_some (if bytes_eq b other then Some tt else was)) c.in_ok-from_str.ensures.ok
    ∙ some_if (bytes_eq c.args.path.now other) tt was
