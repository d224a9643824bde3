-- What is handed in is counted by `places_of` and `is_listed`: `listed_as`. Where there is no memory for the order, the client stands where
-- it stood: `beside`.
use Rattle.std.proofs.Common.{◌≡◌, ℕ, Bool, None, length, true, false, refl, subst}
use Rattle.std.specs.Prelude.{Result, OnOk}
use Rattle.zk_client.specs.Clients.{view_of}
use Rattle.zk_agent.specs.declared.input.AgentInput.TheVariants as happens
use Rattle.zk_agent.proofs.Breaking.{beside}
use Rattle.zk_driver.specs.Driving.{course_of, Course, Hands}
use Rattle.zk_driver.proofs.driver.Driver.set_addresses.Goals as goal

listed_as : {A X E : Type 0} (result : Result X E) (old new : Course A) (kept added its others : ℕ) (is_listed so : Bool)
    → kept ≡ its → added ≡ others → is_listed ≡ so
    → OnOk result (Hands (happens.Addresses kept added is_listed) old new) → OnOk result (Hands (happens.Addresses its others so) old new)
listed_as result old new kept added its others is_listed so a b c hands =
    subst (λ n. OnOk result (Hands (happens.Addresses n others so) old new)) a
    (subst (λ n. OnOk result (Hands (happens.Addresses kept n so) old new)) b
    (subst (λ l. OnOk result (Hands (happens.Addresses kept added l) old new)) c hands))

pub returns-clause-hands : goal.returns-clause-hands
returns-clause-hands g c =
    listed_as c.hand-handed.result (course_of c.args.self.now.engine None) (course_of c.hand-handed.new.self.engine None)
    c.in-Ok.kept c.in-Ok.added _ _ c.is_listed-is_listed.result _ c.in-Ok.ensures.kept c.in-Ok.ensures.added
    c.is_listed-is_listed.ensures c.hand-handed.ensures.hands

pub returns-in_default-clause-broke : goal.returns-in_default-clause-broke
returns-in_default-clause-broke g c =
    let agent = c.args.self.now.engine.agent in
    let view = view_of agent.asker.follower.client in
    beside agent.timeout_ms view view refl
