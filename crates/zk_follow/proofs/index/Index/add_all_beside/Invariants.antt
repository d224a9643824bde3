-- The loop over the outputs: those are added beside whom the ones before the index answer. At the end all are.
use Rattle.std.proofs.Common.{◌≡◌, ◌<◌, ℕ, true, take}
use Rattle.std.specs.Prelude.{All}
use Rattle.std.specs.List.{list_any}
use Rattle.zk_client.specs.Views.{said}
use Rattle.zk_follow.specs.Following.{is_among}
use Rattle.zk_follow.specs.inner.Places.{HasEach}
use Rattle.zk_follow.specs.inner.Resting.{is_beside}
use Rattle.zk_follow.proofs.index.Index.add_all_beside.Given as goal

-- those so far
abbrev pub invariant-loop-output : goal.invariant-loop-output
invariant-loop-output g l = record {
  below : All (λ at. at < l.self.count) l.fn.all.items → All (λ at. at < l.self.count) l.all.items;
  had : (at : ℕ) → at < l.self.count → is_among at l.fn.all.items ≡ true → is_among at l.all.items ≡ true;
  beside : HasEach (λ s. list_any (is_beside l.subjects s.path) (said (take l.output-index l.outputs))) l.self.count l.subjects l.all.items;
}
