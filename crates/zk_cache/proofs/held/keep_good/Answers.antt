-- `retain` filters the entries by their mark (`filter-RetainsPairs`), and a look-up in the filtered ones leaves out what is stale
-- (`lookup-good`), since no key is there twice.
use Rattle.std.proofs.Common.{◌≡◌, rules, filter, ap, ◌∙◌, bytes_eq, string_bytes}
use Rattle.std.specs.Map.{lookup}
use Rattle.indexmap.proofs.CallerLemmas.{filter-RetainsPairs}
use Rattle.zk_cache.specs.Kept.{is_good}
use Rattle.zk_cache.proofs.GoodLemmas.{lookup-good}
use Rattle.zk_cache.proofs.held.keep_good.Goals as goal

pub returns : goal.returns
returns g c =
    let kept : c.retain.new.self.entries ≡ filter (λ e. is_good e.1.mark) c.args.map.now.entries =
    filter-RetainsPairs _ _ _ (λ k v b w f call. search rules) _ _ c.retain.ensures.filtered in
    λ path. ap (lookup (λ k. bytes_eq path (string_bytes k))) kept ∙ lookup-good path c.args.map.now.entries c.len.ensures.unique
