-- What a program asks for is handed in at a moment at which nothing is due on the connection.
use Rattle.std.proofs.Common.{◌≡◌, ◌<◌, ℕ, true}
use Rattle.zk_agent.specs.Agents.{NothingAt}
use Rattle.zk_agent.specs.declared.input.AgentInput.{AgentInput}
use Rattle.zk_agent.specs.declared.input.AgentInput.TheVariants as happens
use Rattle.zk_driver.specs.Driving.{Course, IsAsked, IsPatient}

pub asked_patiently : {A : Type 0} (now : ℕ) (input : AgentInput A) (course : Course A)
    → IsAsked input → (course.channel.is_open ≡ true → 0 < now → NothingAt course.agent now)
    → IsPatient now input course
asked_patiently now (happens.Call ticket call until) course asked quiet = quiet
asked_patiently now (happens.Follow ticket side path) course asked quiet = quiet
asked_patiently now (happens.Unfollow ticket) course asked quiet = quiet
asked_patiently now (happens.FollowTree ticket root most) course asked quiet = quiet
asked_patiently now (happens.UnfollowTree ticket) course asked quiet = quiet
asked_patiently now (happens.Addresses kept added is_listed) course asked quiet = quiet
asked_patiently now (happens.Credential credential) course asked quiet = absurd asked
asked_patiently now happens.Opened course asked quiet = absurd asked
asked_patiently now happens.Failed course asked quiet = absurd asked
asked_patiently now happens.Cut course asked quiet = absurd asked
asked_patiently now happens.Moment course asked quiet = absurd asked
asked_patiently now (happens.Bytes bytes) course asked quiet = absurd asked
