-- The numbers are those of the definition: `same_limits`.
use Rattle.std.proofs.Common.{refl}
use Rattle.zk_frames.specs.Limits.{standard_limits}
use Rattle.zk_frames.proofs.SameLimits.{same_limits}
use Rattle.zk_frames.proofs.limits.FrameLimits.standard.Goals as goal

pub returns : goal.returns
returns c = same_limits _ standard_limits refl refl
