-- A path that is in the map has its own entry marked stale, and no other: `hash_map_updates_text` of the lent entry.
use Rattle.std.proofs.Common.{refl, ap, subst, ◌∙◌, IsSome, bytes_eq, if◌then◌else◌}
use Rattle.std.proofs.lemmas.Map.Text.{hash_map_updates_text}
use Rattle.indexmap.specs.IndexMap.{get_by_text}
use Rattle.zk_cache.specs.declared.held.Mark.TheVariants.{Stale}
use Rattle.zk_cache.specs.Kept.{stale}
use Rattle.zk_cache.proofs.held.mark_stale.Goals as goal

pub returns-in-Some : goal.returns-in-Some
returns-in-Some g c =
    λ other.
    hash_map_updates_text c.args.path.now c.args.map.now
    (c.get_mut.follows.lender (record { answer = c.in-Some.kept.now.answer; mark = Stale })) _
    ((c.get_mut.follows.holds _).3 (subst IsSome c.in-Some.ensures.value refl)) other
    ∙ ap (λ o. if bytes_eq c.args.path.now other then stale o else get_by_text c.args.map.now other) c.in-Some.ensures.value
