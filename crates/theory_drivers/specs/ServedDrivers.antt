-- THE statement: a driver over connections to servers of the model has a client that was served by them.
use Rattle.std.specs.Prelude.{◌≡◌, ◌<◌, ℕ, false, List, [], unsigned_abs}
use Rattle.zk_link.specs.FarEnds.{FarEnd}
use Rattle.zk_nodes.specs.History.{IsHistory}
use Rattle.zk_turns.specs.Turns.{Start, new_start}
use Rattle.zk_turns.specs.Ranges.{IsResumable}
use Rattle.zk_turns.specs.Rule.{Stands}
use Rattle.zk_client.specs.Clients.{view_of}
use Rattle.zk_laws.specs.Headline.{IsCoherentWith}
use Rattle.theory_serving.specs.Shown.{Shown}
use Rattle.zk_conclusions.specs.Seen.{IsServedFrom}
use Rattle.zk_driver.specs.Flowing.{Flow, Runs}
use Rattle.theory_drivers.specs.Worlds.{ByDriver, ByStream, Meets}

-- A driver begins: no connection is there, and its client has gone through nothing. The session to begin with is in range, and so are the
-- later ones, which ask for a timeout above 0.
pub record Begins {A : Type 0} {far : FarEnd} (flow : Flow A far) : Type 0 where
  pub apart : flow.course.channel.is_open ≡ false
  pub start : Start
  pub stands : Stands start [] (view_of flow.course.agent.asker.follower.client)
  pub resumable : IsResumable start
  pub timed : 0 < start.timeout
  pub later : IsResumable (new_start (unsigned_abs flow.course.agent.timeout_ms))
  pub later_timed : 0 < unsigned_abs flow.course.agent.timeout_ms

-- What it does meets servers from a beginning on, and what they show in the end has a history.
pub record MeetsServers {A : Type 0} {far : FarEnd} (By : List ℕ → List ℕ → Flow A far → Flow A far → Type 0) (old new : Flow A far)
    (after : Shown) : Type 0 where
  pub begins : Begins old
  pub runs : Runs old new
  pub before : Shown
  pub meets : Meets By runs.steps old new runs.passes before after
  pub history : IsHistory after.history

-- Where streams know their bytes: what they took the servers had, and what they gave the servers had sent.
abbrev pub StreamsServe : Type 0 → FarEnd → Type 0
StreamsServe A far = (old new : Flow A far) (after : Shown) → MeetsServers ByStream old new after
    → IsServedFrom after.history (view_of new.course.agent.asker.follower.client)

-- and if nothing is known of streams: what was written the servers had, and what was read they had sent
abbrev pub BytesServe : Type 0 → FarEnd → Type 0
BytesServe A far = (old new : Flow A far) (after : Shown) → MeetsServers ByDriver old new after
    → IsServedFrom after.history (view_of new.course.agent.asker.follower.client)

-- So each good answer is the history's at the last seen zxid.
abbrev pub StreamsCohere : Type 0 → FarEnd → Type 0
StreamsCohere A far = (old new : Flow A far) (after : Shown) → MeetsServers ByStream old new after
    → IsCoherentWith after.history (view_of new.course.agent.asker.follower.client)
