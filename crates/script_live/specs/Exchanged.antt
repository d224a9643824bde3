-- What a stream knows of its bytes, and what goes through it.
use Rattle.std.specs.Prelude.{ℕ, List, Option, Some, None}
use Rattle.std.specs.Io.KnownBytes.{Consumes}
use Rattle.zk_link.specs.Streams.{Sends}

-- What a stream has still to give, and what it took, each if it knows that.
pub record Known : Type 0 where
  pub left : Option (List ℕ)
  pub took : Option (List ℕ)

-- of the stream of a connection, if there is one
abbrev pub known_of : {S : Type 0} → (remaining contents : S → Option (List ℕ)) → Option S → Known
known_of remaining contents None = record { left = None; took = None }
known_of remaining contents (Some stream) = record { left = remaining stream; took = contents stream }

-- Some of what is unsent is written, and these bytes are read: the first ones that the stream had to give. Each leaves what the other
-- changes.
pub record Exchanges (unsent rest : List ℕ) (old new : Known) (piece : List ℕ) : Type 0 where
  pub sends : Sends unsent rest old.took new.took
  pub gives : Consumes old.left new.left piece
