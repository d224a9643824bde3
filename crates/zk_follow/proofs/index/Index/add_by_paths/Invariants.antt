-- The loop over the places: those are added that have the paths of the ones before the index. At the end all are.
use Rattle.std.proofs.Common.{◌≡◌, ◌<◌, ℕ, true, get_or, take}
use Rattle.std.specs.Prelude.{bytes_eq, All}
use Rattle.zk_follow.specs.declared.subject.Subject.{Subject}
use Rattle.zk_follow.specs.Following.{is_among}
use Rattle.zk_follow.specs.inner.Places.{HasEach}
use Rattle.zk_follow.proofs.index.Index.add_by_paths.Given as goal

-- those so far
abbrev pub invariant-loop-place : goal.invariant-loop-place
invariant-loop-place g l = record {
  below : All (λ at. at < l.self.count) l.fn.all.items → All (λ at. at < l.self.count) l.all.items;
  had : (at : ℕ) → at < l.self.count → is_among at l.fn.all.items ≡ true → is_among at l.all.items ≡ true;
  each : (k : ℕ) (d : Subject _) → is_among k (take l.place-index l.places) ≡ true
      → HasEach (λ s. bytes_eq (get_or l.subjects k d).path s.path) l.self.count l.subjects l.all.items;
}
