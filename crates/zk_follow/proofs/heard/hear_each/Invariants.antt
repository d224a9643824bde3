-- The loop over the places: those before what comes after the last one have heard the output, the rest are as they were. At the end all
-- have.
use Rattle.std.proofs.Common.{◌≡◌, [], ℕ, length}
use Rattle.zk_client.specs.Views.{output_view}
use Rattle.zk_follow.specs.Following.{heard}
use Rattle.zk_follow.proofs.Skipping.{start_of, Told}
use Rattle.zk_follow.proofs.heard.hear_each.Given as goal

-- those up to the last place have
abbrev pub invariant-loop-place : goal.invariant-loop-place
invariant-loop-place g l = record {
  size : length l.subjects ≡ length l.fn.subjects;
  heard : Told {Y = ℕ} (λ subject. heard l.now subject (output_view l.output)) (λ subject. []) l.fn.subjects l.subjects [] []
      (start_of l.places l.place-index);
}
