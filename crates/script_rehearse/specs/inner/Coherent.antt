-- What a rehearsal keeps: its client was served by servers of the laws.
use Rattle.std.specs.Prelude.{◌<ℤ◌, pos}
use Rattle.theory_serving.specs.Wires.{WasServed}
use Rattle.zk_bench.specs.Stepping.{IsReady, shown_of}
use Rattle.script_rehearse.specs.Scenes.{Scene}

-- The client has gone through what happened to it so far, and servers of the laws, which are those in memory, have served it; each of
-- these holds a beginning of the history; and another client may be made with the timeout.
pub record IsServed (scene : Scene) : Type 0 where
  pub above : pos 0 <ℤ scene.timeout
  pub served : WasServed scene.view (shown_of scene.bench)
  pub ready : IsReady scene.bench
