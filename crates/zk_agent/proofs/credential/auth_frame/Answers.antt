-- The payload has 20 bytes more than the scheme and the secret (`length-auth`), and the limit of payloads is below 2^30.
use Rattle.std.proofs.Common.{ℕ, ◌<◌, ◌≤◌, ◌^◌, ◌+◌, List, length, arith}
use Rattle.zk_limits.specs.declared.limits.TheConstants.{LONGEST_OUTGOING}
use Rattle.zk_agent.specs.Credentials.{auth_payload}
use Rattle.zk_agent.proofs.Spelled.{length-auth}
use Rattle.zk_agent.proofs.credential.auth_frame.Goals as goal

small : (scheme secret : List ℕ) → 20 + (length scheme + length secret) ≤ LONGEST_OUTGOING → length (auth_payload scheme secret) < 2 ^ 30
small scheme secret le = let is = length-auth scheme secret in omega (arith, le, is)

pub framed-requires : goal.framed-requires
unfolding auth_payload
framed-requires g c = small c.args.scheme.now c.args.secret.now c.requires
