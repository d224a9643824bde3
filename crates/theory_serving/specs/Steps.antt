-- What a server does on a connection, step after step, with the payloads of what it sends.
use Rattle.std.specs.Prelude.{ℕ, ℤ, ◌+◌, List, [], ◌∷◌, ◌++◌, drop, ⊤}
use Rattle.zk_frames.specs.Frame.{joined}
use Rattle.zk_nodes.specs.History.{History}
use Rattle.zk_laws.specs.Messages.{Request}
use Rattle.zk_laws.specs.ServerSteps.{ServerEnd, ServerStep, Advances, MayDo, messages_by, end_after}
use Rattle.zk_laws.specs.Served.{ArePayloads}

-- a step, with the payloads of the messages that it sends
pub record Step : Type 0 where
  pub step : ServerStep
  pub payloads : List (List ℕ)

-- how many requests a step processes: one, but none where the next transaction is taken
abbrev pub used_by : ServerStep → ℕ
used_by step = elim step [ Advances sent ↦ 0 | _ ↦ 1 ]

-- Steps that a server may take one after the other, with these requests to process, the first of which has this xid.
abbrev pub Moves : History → ℤ → List Request → List Step → ServerEnd → Type 0
Moves h xid requests [] server = ⊤
Moves h xid requests (one ∷ more) server =
    MayDo h one.step server requests
    × ArePayloads xid (messages_by h one.step server.place) one.payloads
    × Moves h xid (drop (used_by one.step) requests) more (end_after h one.step server)

-- where the server stands then
abbrev pub ended_by : History → List Step → ServerEnd → ServerEnd
ended_by h [] server = server
ended_by h (one ∷ more) server = ended_by h more (end_after h one.step server)

-- the bytes that it has sent
abbrev pub sent_by : List Step → List ℕ
sent_by [] = []
sent_by (one ∷ more) = joined one.payloads ++ sent_by more

-- how many requests it has processed
abbrev pub processed_by : List Step → ℕ
processed_by [] = 0
processed_by (one ∷ more) = used_by one.step + processed_by more
