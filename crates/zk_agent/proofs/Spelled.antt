-- How long the payload of a credential is.
use Rattle.std.proofs.Common.{◌≡◌, ℕ, ◌+◌, List, length, length-append, Some, arith}
use Rattle.zk_jute.specs.Spelling.{int_bytes, counted_bytes}
use Rattle.zk_conversation.proofs.Lengths.{length-int}
use Rattle.zk_agent.specs.Credentials.{auth_payload}

length-some : (bytes : List ℕ) → length (counted_bytes (λ b. b) (Some bytes)) ≡ 4 + length bytes
unfolding counted_bytes int_bytes
length-some bytes = omega arith

pub length-auth : (scheme secret : List ℕ) → length (auth_payload scheme secret) ≡ 20 + (length scheme + length secret)
unfolding auth_payload
length-auth scheme secret = simp (length-append, length-int, length-some) (omega arith)
