-- The new client takes up the session with no server connected: `rejoins`, and `resumes` for its range, from what the calls ensure.
use Rattle.std.proofs.Common.{◌≡◌, rules, arith, subst, [], to_z, of_z, w32}
use Rattle.std.proofs.lemmas.Int.{ints}
use Rattle.zk_bench.specs.Served.{disconnected}
use Rattle.zk_client.specs.Clients.{view_of, saved_start}
use Rattle.zk_turns.specs.Ranges.{IsResumable}
use Rattle.zk_turns.specs.View.{view_at}
use Rattle.script_rehearse.specs.inner.Scenes.{scene_of}
use Rattle.script_rehearse.proofs.RigLemmas.{rejoins, resumes}
use Rattle.script_rehearse.proofs.rig.Rig.rejoin.Goals as goal

pub returns-clause-ok : goal.returns-clause-ok
returns-clause-ok g c =
    let old = c.args.self.now in
    let client = c.in_ok-client.client in
    let asked : to_z w32 (of_z w32 old.timeout) ≡ old.timeout = omega (arith, ints) in
    let gone : c.disconnect.new.self ≡ disconnected old.bench = search rules in
    let made = subst (λ timeout. view_of client ≡ view_at (saved_start timeout c.saved.result) []) asked c.in_ok-client.ensures.view in
    let resumable = subst (λ timeout. IsResumable (saved_start timeout c.saved.result)) asked c.in_ok-client.ensures.resumable in (
      (rw c.replace.ensures.after
          (rejoins (scene_of old) (view_of client) c.disconnect.new.self c.saved.result c.saved.ensures.tells made gone)),
      c.new.ensures.bytes,
      (resumes old.timeout (view_of old.client) c.saved.result c.saved.ensures.tells resumable),
    )
