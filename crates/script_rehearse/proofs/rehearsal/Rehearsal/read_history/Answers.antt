-- As no client was made, the story takes the line: `told` for what it does, `history_due` for why not, and it never halts (`never_halts`).
use Rattle.std.specs.Option.{option_map}
use Rattle.std.proofs.Common.{refl}
use Rattle.script_story.specs.Stories as story
use Rattle.script_rehearse.specs.inner.Scenes.{scene_of}
use Rattle.script_rehearse.proofs.DueLemmas.{told, history_due, never_halts}
use Rattle.script_rehearse.proofs.rehearsal.Rehearsal.read_history.Goals as goal

pub returns-clause-ok : goal.returns-clause-ok
returns-clause-ok g c =
    let old = c.args.self.now in
    let at = story.position_of old.story in
    told c.args.line.now at (story.position_of c.read.new.self) (option_map scene_of old.rig) c.read.result c.requires
    (c.read.ensures.ok at refl)

pub returns-clause-err : goal.returns-clause-err
returns-clause-err g c =
    let old = c.args.self.now in
    let at = story.position_of old.story in
    history_due c.args.line.now at (option_map scene_of old.rig) c.read.result c.requires (c.read.ensures.err at refl)

pub returns-clause-halt : goal.returns-clause-halt
returns-clause-halt g c =
    let at = story.position_of c.args.self.now.story in
    never_halts c.args.line.now at c.read.result (c.read.ensures.err at refl)
