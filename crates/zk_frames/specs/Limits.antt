-- Which limits a session may have.
use Rattle.std.specs.Prelude.{ℕ, ◌≤◌}
use Rattle.zk_frames.specs.declared.limits.FrameLimits.{FrameLimits}
use Rattle.zk_frames.specs.declared.limits.TheConstants.{HIGHEST_LIMIT}
use Rattle.zk_limits.specs.declared.limits.TheConstants.{LONGEST_INCOMING, LONGEST_OUTGOING}
use Rattle.std.proofs.Common.{lit≤}

-- those of a session for which none are given
abbrev pub standard_limits : FrameLimits
standard_limits = record {
  incoming = LONGEST_INCOMING;
  outgoing = LONGEST_OUTGOING;
  least_incoming = lit≤ tt;
  most_incoming = lit≤ tt;
  least_outgoing = lit≤ tt;
  most_outgoing = lit≤ tt;
}

-- Limits are raised only, and not above what a frame can say.
pub record MayLimit (incoming outgoing : ℕ) : Type 0 where
  pub least_incoming : LONGEST_INCOMING ≤ incoming
  pub most_incoming : incoming ≤ HIGHEST_LIMIT
  pub least_outgoing : LONGEST_OUTGOING ≤ outgoing
  pub most_outgoing : outgoing ≤ HIGHEST_LIMIT
