-- Nothing was said and nobody has joined: what a new agent and no contenders ensure.
use Rattle.std.proofs.Common.{refl, rules}
use Rattle.ffi_device.proofs.device.Device.of.Goals as goal

pub returns-in-Ok-clause-begins : goal.returns-in-Ok-clause-begins
returns-in-Ok-clause-begins c =
    let its = c.in-Ok.ensures in
    record {
      client = its.client;
      subjects = its.subjects;
      calls = its.calls;
      latest = its.latest;
      heard = its.heard;
      credentials = its.credentials;
      phase = its.phase;
      silent = c.new-in-Ok-2.ensures.items;
      trees = its.trees;
      next = its.next;
      goes_on = refl;
      number = search rules;
      nobody = c.new-in-Ok.ensures.all;
      no_asker = c.new-in-Ok.ensures.calls;
      no_contender = refl;
      no_news = c.new-in-Ok-3.ensures.items;
    }
