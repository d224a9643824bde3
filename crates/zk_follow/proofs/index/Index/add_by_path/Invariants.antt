-- The loop over the places: those before the index are added whose subjects have the path. At the end all are.
use Rattle.std.proofs.Common.{◌≡◌, ◌<◌, ℕ, true, get_or, take}
use Rattle.std.specs.Prelude.{bytes_eq, All}
use Rattle.zk_follow.specs.declared.subject.Subject.{Subject}
use Rattle.zk_follow.specs.Following.{is_among}
use Rattle.zk_follow.proofs.index.Index.add_by_path.Given as goal

-- those so far
abbrev pub invariant-loop-place : goal.invariant-loop-place
invariant-loop-place g l = record {
  below : All (λ at. at < l.self.count) l.fn.all.items → All (λ at. at < l.self.count) l.all.items;
  had : (at : ℕ) → at < l.self.count → is_among at l.fn.all.items ≡ true → is_among at l.all.items ≡ true;
  each : (k : ℕ) (d : Subject _) → k < l.self.count → is_among k (take l.place-index l.places) ≡ true
      → bytes_eq l.path (get_or l.subjects k d).path ≡ true → is_among k l.all.items ≡ true;
}
