-- Each part of `Forgot` is what the agent's `forget_stale` ensures; the subjects are followed as before, as the latest moment is the same.
use Rattle.std.proofs.Common.{refl, sym, subst}
use Rattle.zk_client.specs.Clients.{view_of}
use Rattle.zk_follow.specs.Following.{AreFollowed}
use Rattle.ffi_device.proofs.device.Device.forget_stale.Goals as goal

pub returns : goal.returns
returns g =
    let gone = g.forget_stale.ensures in
    record {
      view = gone.view;
      led = gone.led;
      followed = λ all. subst (λ now. AreFollowed
          now (view_of g.forget_stale.new.self.asker.follower.client) g.forget_stale.new.self.asker.follower.subjects.items)
          (sym gone.latest) (gone.followed g.args.self.now.agent.latest all);
      subjects = gone.subjects;
      calls = gone.calls;
      dialler = gone.dialler;
      timeout = gone.timeout;
      latest = gone.latest;
      heard = gone.heard;
      trees = gone.trees;
      credentials = gone.credentials;
      said = refl;
      read = refl;
      over = refl;
      number = refl;
      contenders = refl;
      contends = refl;
      news = refl;
    }
