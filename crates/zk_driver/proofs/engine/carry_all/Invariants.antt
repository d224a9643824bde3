-- The loop over the actions: what was carried, with those left, gives the channel and the waiting list of all. At the end none is left.
use Rattle.std.proofs.Common.{◌≡◌, ◌++◌, length, true}
use Rattle.std.specs.Prelude.{fold, is_some}
use Rattle.std.specs.List.{filter}
use Rattle.zk_agent.specs.Telling.{told_by}
use Rattle.zk_driver.specs.Driving.{carried, channel_view, is_passed, Extends}
use Rattle.zk_driver.proofs.engine.carry_all.Given as goal

-- what was carried out, and what is left to be, is all of it; and so is what waits for the program
abbrev pub invariant-loop-action : goal.invariant-loop-action
invariant-loop-action g l = record {
  channel : fold carried (channel_view l.channel) (told_by l.left.items) ≡ fold carried (channel_view l.fn.channel)
      (told_by l.fn.actions.items);
  waiting : told_by l.waiting.items ++ filter is_passed (told_by l.left.items)
      ≡ told_by l.fn.waiting.items ++ filter is_passed (told_by l.fn.actions.items);
  stays : is_some l.channel.stream ≡ true → l.channel.stream ≡ l.fn.channel.stream;
  kept : Extends (told_by l.fn.waiting.items) (told_by l.waiting.items);
}

abbrev pub decreases-loop-action : goal.decreases-loop-action
decreases-loop-action g l = length l.left.items
