-- A line does what its words say, or halts: `taken` and `stopped`, as the keyword and the words after it say what `perform` does.
use Rattle.std.proofs.Common.{◌≡◌, map, is_some, rules}
use Rattle.script_replay.specs.inner.Played.{view_of_player}
use Rattle.script_replay.specs.ReplayLines.{says_at, placed_at}
use Rattle.script_words.specs.Said.{something}
use Rattle.script_replay.proofs.PlayLemmas.{stopped, taken}
use Rattle.script_replay.proofs.player.Player.take_words.Goals as goal

pub returns-clause-ok : goal.returns-clause-ok
returns-clause-ok g c =
    let words = map (λ w. w.now) c.args.words.now in
    let begun = is_some (view_of_player c.args.self.now) in
    let said = placed_at c.in_ok-keyword.keyword begun (map (λ w. w.now) c.in-Some.behind.now) in
    let says : says_at words begun ≡ something said = search rules in
    taken words (view_of_player c.args.self.now) (view_of_player c.perform.new.self) said c.perform.result says c.perform.ensures.ok

pub returns-clause-halt : goal.returns-clause-halt
returns-clause-halt g c =
    let words = map (λ w. w.now) c.args.words.now in
    let begun = is_some (view_of_player c.args.self.now) in
    let said = placed_at c.in_ok-keyword.keyword begun (map (λ w. w.now) c.in-Some.behind.now) in
    let says : says_at words begun ≡ something said = search rules in
    stopped words (view_of_player c.args.self.now) (view_of_player c.perform.new.self) said c.perform.result says c.perform.ensures.halt
