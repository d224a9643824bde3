-- A client and servers are made over the history so far: `begins` and `made_so`, with the timeout read back from its word.
use Rattle.std.proofs.Common.{◌≡◌, subst, arith, ℤ, to_z, of_z, w32}
use Rattle.std.proofs.lemmas.Int.{ints}
use Rattle.std.specs.Option.{option_map}
use Rattle.std.specs.Prelude.{unsigned_abs}
use Rattle.zk_turns.specs.Ranges.{IsResumable}
use Rattle.zk_turns.specs.Turns.{new_start}
use Rattle.script_story.specs.Stories as story
use Rattle.script_rehearse.specs.inner.Scenes.{scene_of}
use Rattle.script_rehearse.proofs.RigLemmas.{begins, made_so}
use Rattle.script_rehearse.proofs.rehearsal.Rehearsal.begin.Goals as goal

pub returns : goal.returns
returns g c =
    let old = c.args.self.now in
    let history = c.replace-history in
    let asked : to_z w32 (of_z w32 c.args.timeout) ≡ c.args.timeout = omega (arith, ints) in
    let made = made_so (scene_of c.new-rig.result) (to_z w32 (of_z w32 c.args.timeout)) c.args.timeout history.result old.story.history
    c.new-rig.ensures.first asked history.ensures.value in
    let resumable = subst (λ (timeout : ℤ). IsResumable (new_start (unsigned_abs timeout))) asked c.new-rig.ensures.resumable in
    rw c.replace.ensures.after (begins c.args.timeout (story.position_of old.story) (option_map scene_of old.rig)
    (scene_of c.new-rig.result) c.requires.first c.requires.above resumable made)
