-- What contracts of private functions say: nobody has to believe it.
use Rattle.std.specs.Prelude.{◌≡◌, ℕ, true, []}
use Rattle.zk_agent.specs.declared.input.AgentInput.{AgentInput}
use Rattle.zk_link.specs.FarEnds.{FarEnd}
use Rattle.zk_driver.specs.Driving.{Written, Takes}
use Rattle.zk_driver.specs.Flowing.{Flow, Made, Carries}

-- The agent takes an input, and what it says is carried out; then some of what is unsent is written.
pub record HandsOver {A : Type 0} {far : FarEnd} (input : AgentInput A) (old new : Flow A far) : Type 0 where
  pub now : ℕ
  pub between : Flow A far
  pub takes : Takes now input old.course between.course
  pub lasts : between.course.channel.is_open ≡ true → between.known ≡ old.known
  pub held : between.held ≡ []
  pub writes : Carries between (Made Written) new
