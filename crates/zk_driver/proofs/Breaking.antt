-- Where memory runs out within a call of a driver, what moves have made of the agent's client is known, and what follows them is one chain
-- with them.
use Rattle.std.proofs.Common.{ℕ, List, [], ◌∷◌, sym, subst}
use Rattle.std.specs.List.{FoldsTo}
use Rattle.zk_client.specs.Clients.{view_of}
use Rattle.zk_agent.specs.declared.agent.Agent.{Agent}
use Rattle.zk_agent.specs.declared.input.AgentInput.{AgentInput}
use Rattle.zk_agent.specs.Agents.{IsBroken, trail_of}
use Rattle.zk_agent.proofs.Breaking.{after_comes}
use Rattle.zk_driver.specs.Driving.{Course, Does, Goes, Hands, Move, Written, Looked, Noted, Takes}
use Rattle.zk_driver.specs.Noting.{GoesBy, Note}

module _ {A : Type 0} (new : Agent A) where
  after_takes : (now : ℕ) (input : AgentInput A) (old between : Course A) → Takes now input old between
      → IsBroken between.agent new → IsBroken old.agent new
  after_takes now input old between takes broke =
      after_comes _ _ (trail_of old.agent []) (trail_of between.agent takes.actions) (view_of new.asker.follower.client) takes.comes broke

  after_move : (move : Move A) (old between : Course A) → Does old move between → IsBroken between.agent new → IsBroken old.agent new
  after_move Written old between does broke = subst (λ (c : Course A). IsBroken c.agent new) does.1 broke
  after_move (Looked look) old between does broke = subst (λ (c : Course A). IsBroken c.agent new) does.1 broke
  after_move (Noted now input) old between does broke = after_takes now input (record old { channel = does.0 }) between does.2 broke

  after_moves : (moves : List (Move A)) (old between : Course A) → FoldsTo Does old moves between
      → IsBroken between.agent new → IsBroken old.agent new
  after_moves [] old between same broke = subst (λ (c : Course A). IsBroken c.agent new) (sym same) broke
  after_moves (move ∷ moves) old between does broke =
      after_move move old does.0 does.1 (after_moves moves does.0 between does.2 broke)

  pub after_goes : (old between : Course A) → Goes old between → IsBroken between.agent new → IsBroken old.agent new
  after_goes old between goes broke = after_moves goes.moves old between goes.does broke

  pub after_notes : (notes : List Note) (old between : Course A) → GoesBy notes old between
      → IsBroken between.agent new → IsBroken old.agent new
  after_notes notes old between goes broke = after_moves goes.moves old between goes.does broke

  -- after what the program asked for
  pub after_hands : (input : AgentInput A) (old between : Course A) → Hands input old between
      → IsBroken between.agent new → IsBroken old.agent new
  after_hands input old between hands broke =
      after_takes hands.now input old hands.between hands.takes (after_move Written hands.between between hands.writes broke)
