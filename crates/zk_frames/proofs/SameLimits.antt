-- Limits of the same numbers are one: what is known of them has one proof at most.
use Rattle.std.proofs.Common.{◌≡◌, ◌≤◌}
use Rattle.std.proofs.Props.{props}
use mathlib.Core.HLevel.{is_prop→PathP}
use Rattle.zk_frames.specs.declared.limits.FrameLimits.{FrameLimits}
use Rattle.zk_frames.specs.declared.limits.TheConstants.{HIGHEST_LIMIT}
use Rattle.zk_limits.specs.declared.limits.TheConstants.{LONGEST_INCOMING, LONGEST_OUTGOING}

pub same_limits : (a b : FrameLimits) → a.incoming ≡ b.incoming → a.outgoing ≡ b.outgoing → a ≡ b
same_limits a b p q = λ i. record {
  incoming = p i;
  outgoing = q i;
  least_incoming = is_prop→PathP (λ j. LONGEST_INCOMING ≤ p j) (λ j. hlevel props) a.least_incoming b.least_incoming i;
  most_incoming = is_prop→PathP (λ j. p j ≤ HIGHEST_LIMIT) (λ j. hlevel props) a.most_incoming b.most_incoming i;
  least_outgoing = is_prop→PathP (λ j. LONGEST_OUTGOING ≤ q j) (λ j. hlevel props) a.least_outgoing b.least_outgoing i;
  most_outgoing = is_prop→PathP (λ j. q j ≤ HIGHEST_LIMIT) (λ j. hlevel props) a.most_outgoing b.most_outgoing i;
}
