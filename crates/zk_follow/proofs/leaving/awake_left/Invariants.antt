-- The loop over the subjects: of those before the place that stay each is quiet that is not added. At the end all were gone over.
use Rattle.std.proofs.Common.{◌≡◌, ◌≤◌, not, length, take}
use Rattle.std.specs.List.{filter}
use Rattle.zk_turns.specs.View.{View}
use Rattle.zk_follow.specs.Following.{is_among, AreQuietBut}
use Rattle.zk_follow.proofs.leaving.awake_left.Given as goal

-- those so far
abbrev pub invariant-loop-place : goal.invariant-loop-place
invariant-loop-place g l = record {
  low : l.next ≤ l.place;
  next : l.next ≡ length (filter (λ subject. not (is_among subject.ticket l.gone.sorted.items)) (take l.place l.subjects));
  quiet : (view : View) → AreQuietBut view l.count l.subjects l.awake
      → AreQuietBut view l.next (filter (λ subject. not (is_among subject.ticket l.gone.sorted.items)) (take l.place l.subjects))
      l.left.items;
}
