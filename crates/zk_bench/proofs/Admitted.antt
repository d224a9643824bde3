-- What answers a ConnectRequest is the message that the laws name: the session is accepted where its timeout is above 0, and else it has
-- expired.
use Rattle.std.proofs.Common.{ℕ, ℤ, pos, ◌≡◌, Bool, true, false, List, [], refl, sym, subst, None, Option}
use Rattle.std.proofs.lemmas.List.{append-nil}
use Rattle.std.specs.Prelude.{int_lt}
use Rattle.zk_records.specs.Response.{Response, response_spelling, EndsPayload, IsPayload as IsResponse}
use Rattle.zk_conversation.specs.Results.{response_timeout}
use Rattle.zk_laws.specs.Messages.{Message, Accepted, Expired}
use Rattle.zk_laws.specs.Served.{IsPayload}
use Rattle.zk_bench.specs.inner.Serving.{SendsResponse, SendsMessage}

-- a message that is told by a response with no flag
tells_so : (message : Message) (response : Response) (old new : List ℕ) → SendsResponse response old new → response.read_only ≡ None
    → (IsResponse (response_spelling response) response [] → (xid : ℤ) → IsPayload xid message (response_spelling response))
    → SendsMessage message old new
tells_so message response old new s none told = record {
  payload = response_spelling response;
  small = s.small;
  spelled = told (record {
    fits = s.fits;
    whole = sym (append-nil (response_spelling response));
    ends = subst (λ (flag : Option Bool). EndsPayload flag []) (sym none) refl;
  });
  output = s.output;
}

pub accepts_so : (response : Response) (old new : List ℕ) → SendsResponse response old new → response.read_only ≡ None
    → int_lt (pos 0) (response_timeout response) ≡ true → SendsMessage Accepted old new
accepts_so response old new s none up = tells_so Accepted response old new s none (λ whole xid. (response, [], whole, up))

pub expires_so : (response : Response) (old new : List ℕ) → SendsResponse response old new → response.read_only ≡ None
    → int_lt (pos 0) (response_timeout response) ≡ false → SendsMessage Expired old new
expires_so response old new s none over = tells_so Expired response old new s none (λ whole xid. (response, [], whole, over))
