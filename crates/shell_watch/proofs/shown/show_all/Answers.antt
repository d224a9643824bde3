-- One more subject is shown after those before it (`shown_more`), and at the slice's end all are (`shown_all`), by arithmetic on the index.
use Rattle.std.proofs.Common.{◌≤◌, ◌<◌, arith, length}
use Rattle.std.specs.Prelude.{string_bytes}
use Rattle.zk_client.specs.Clients.{view_of}
use Rattle.shell_watch.proofs.Showing.{shown_all, shown_more}
use Rattle.shell_watch.proofs.shown.show_all.Goals as goal

pub loop-one-preserved : goal.loop-one-preserved
loop-one-preserved g c =
    let within : c.loop-one.one-index < length c.args.watched.now = omega (arith, c.loop-one-test.true) in
    let added = c.in_ok-show.ensures in
    shown_more c.args.style c.args.ms (view_of c.args.client.now) c.args.watched.now c.loop-one.one-index c.loop-one.watched
    (string_bytes c.args.text.now) (string_bytes c.loop-one.text)
    c.one-item.result c.show.new.one added.0 (string_bytes c.show.new.text) within c.loop-one.invariant added.1 added.2

pub returns : goal.returns
returns g c =
    let past : length c.args.watched.now ≤ c.loop-one.one-index = omega (arith, c.loop-one-test.false) in
    shown_all c.args.style c.args.ms (view_of c.args.client.now) c.args.watched.now c.loop-one.one-index c.loop-one.watched
    (string_bytes c.args.text.now) (string_bytes c.loop-one.text) past c.loop-one.invariant
