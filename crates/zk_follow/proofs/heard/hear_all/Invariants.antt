-- The loop over the outputs: each subject has heard those before the index. At the end it has heard all.
use Rattle.std.proofs.Common.{◌≡◌, length, map, take}
use Rattle.zk_client.specs.Views.{said}
use Rattle.zk_follow.specs.Following.{heard_all}
use Rattle.zk_follow.specs.Places.{AreFound}
use Rattle.zk_follow.proofs.heard.hear_all.Given as goal

-- those so far
abbrev pub invariant-loop-output : goal.invariant-loop-output
invariant-loop-output g l = record {
  size : length l.subjects ≡ length l.fn.subjects;
  heard : l.subjects ≡ map (λ subject. heard_all l.now subject (said (take l.output-index l.outputs))) l.fn.subjects;
  found : AreFound l.index l.subjects;
}
