-- A later line drives the client that is there: `drives` and `stops`, from what the parser and `replayed` ensure.
use Rattle.std.proofs.Common.{◌≡◌, Some, ap, map, refl}
use Rattle.std.specs.Option.{option_map}
use Rattle.zk_client.specs.Clients.{view_of}
use Rattle.script_replay.specs.inner.Lines.{drive_value_of}
use Rattle.script_replay.specs.inner.Played.{view_of_player}
use Rattle.script_replay.proofs.PlayLemmas.{drives, stops}
use Rattle.script_replay.proofs.player.Player.drive.Goals as goal

pub returns-clause-ok : goal.returns-clause-ok
returns-clause-ok g c =
    let was : view_of_player c.args.self.now ≡ Some (view_of c.in-Some.client) = ap (option_map view_of) c.in-Some.is in
    drives c.args.word (map (λ w. w.now) c.args.words.now) (view_of_player c.args.self.now) (Some (view_of c.replayed.new.client))
    (drive_value_of c.in_ok-line.line) (view_of c.in-Some.client) (view_of c.replayed.new.client) c.replayed.result was refl
    c.in_ok-line.ensures c.replayed.ensures.ok

pub returns-clause-halt : goal.returns-clause-halt
returns-clause-halt g c =
    let was : view_of_player c.args.self.now ≡ Some (view_of c.in-Some.client) = ap (option_map view_of) c.in-Some.is in
    stops c.args.word (map (λ w. w.now) c.args.words.now) (view_of_player c.args.self.now) (Some (view_of c.replayed.new.client))
    (drive_value_of c.in_ok-line.line) (view_of c.in-Some.client) (view_of c.replayed.new.client) c.replayed.result was refl
    c.in_ok-line.ensures c.replayed.ensures.halt
