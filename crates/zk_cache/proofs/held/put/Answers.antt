-- Only the text of the key is changed: `hash_map_updates_text`, rewritten by what `marked_good` ensures. An insertion fails for a key alone
-- that is not there.
use Rattle.std.proofs.Common.{Some, ◌∙◌, bytes_eq, string_bytes, if◌then◌else◌}
use Rattle.std.proofs.lemmas.Map.Text.{hash_map_updates_text}
use Rattle.indexmap.specs.IndexMap.{get_by_text}
use Rattle.zk_cache.proofs.held.put.Goals as goal

pub returns-clause-ok : goal.returns-clause-ok
returns-clause-ok g c =
    λ other.
    hash_map_updates_text (string_bytes c.args.path) c.args.map.now c.insert.new.self _ c.in_ok-insert.ensures.updates other
    ∙ (λ i. if bytes_eq (string_bytes c.args.path) other then Some (c.marked_good.ensures i) else get_by_text c.args.map.now other)
