-- What `step`, `carry_all` and `flush` ensure, in one record: the agent takes the input, its actions are carried, and then bytes are
-- written. The writing reads nothing: `reaches_none`.
use Rattle.std.proofs.Common.{[], ap, refl}
use Rattle.zk_agent.specs.Telling.{told_by}
use Rattle.zk_driver.specs.Driving.{channel_view}
use Rattle.zk_link.specs.FarEnds.{reached_of}
use Rattle.zk_link.proofs.Reaching.{reaches_none}
use Rattle.zk_client.specs.Clients.{view_of}
use Rattle.zk_agent.specs.Agents.{trail_of}
use Rattle.zk_agent.proofs.Breaking.{after_comes, beside}
use Rattle.zk_driver.proofs.engine.Engine.hand.Goals as goal

pub returns-clause-hands : goal.returns-clause-hands
returns-clause-hands g c = record {
  now = c.args.now;
  between =
      record { agent = c.step.new.self; channel = channel_view c.carry_all.new.channel; told = told_by c.carry_all.new.waiting.items };
  takes = record {
    patient = c.requires;
    actions = c.in-Ok.actions.items;
    comes = c.in-Ok.ensures.comes;
    followed = c.in-Ok.ensures.followed;
    calls = c.in-Ok.ensures.calls;
    served = c.in-Ok.ensures.served;
    limits = c.in-Ok.ensures.limits;
    answers = c.in-Ok.ensures.answers;
    closed = c.in-Ok.ensures.closed;
    renewed = c.in-Ok.ensures.renewed;
    dials = c.in-Ok.ensures.dials;
    latest = c.in-Ok.ensures.latest;
    heard = c.in-Ok.ensures.heard;
    trees = c.in-Ok.ensures.trees;
    credentials = c.in-Ok.ensures.credentials;
    channel = c.in-Ok-carry_all.ensures.channel;
    told = c.in-Ok-carry_all.ensures.waiting;
  };
  writes = (c.flush.ensures.writes, refl);
}

pub returns-clause-flows : goal.returns-clause-flows
unfolding returns-clause-hands
returns-clause-flows g c =
    let hands = returns-clause-hands g c in
    let know = reached_of g.S.Read.remaining g.S.Write.contents g.S.Stream.far g.S.Stream.state in
    record {
      now = c.args.now;
      between = record { course = hands.between; known = know c.carry_all.new.channel.stream; held = [] };
      takes = hands.takes;
      lasts = λ there. ap know (c.carry_all.ensures.stays there);
      held = refl;
      writes = (
        hands.writes,
        reaches_none c.carry_all.new.channel.unsent.items c.flush.new.self.unsent.items (know c.carry_all.new.channel.stream)
            (know c.flush.new.self.stream)
            c.flush.ensures.sends c.flush.ensures.gives c.flush.ensures.trades,
        refl,
      );
    }

pub returns-in_default-clause-broke : goal.returns-in_default-clause-broke
returns-in_default-clause-broke g c =
    let new = c.step.new.self in
    let view = view_of new.asker.follower.client in
    after_comes _ _ (trail_of c.args.self.now.agent []) (trail_of new c.in-Ok.actions.items) view c.in-Ok.ensures.comes
    (beside new.timeout_ms view view refl)
