-- What `use_up` and `concerns` ensure on both sides, rewritten: `used_watches` for what is left, `was_watched` for whether there was one.
use Rattle.std.proofs.Common.{ap, ◌∙◌, ◌&&◌, ◌||◌}
use Rattle.std.specs.FinSet as set
use Rattle.zk_records.specs.Events.{concerns}
use Rattle.zk_nodes.specs.declared.side.Side.TheVariants.{Data}
use Rattle.zk_nodes.specs.inner.Names.{names_of}
use Rattle.zk_bench.specs.Serving.{watches_of}
use Rattle.zk_bench.specs.inner.Watching.{used_up}
use Rattle.zk_bench.proofs.Watched.{used_watches, was_watched}
use Rattle.zk_bench.proofs.watches.Watches.fire.Goals as goal

pub returns-clause-left : goal.returns-clause-left
returns-clause-left g c = λ h.
    ap (λ nodes. watches_of nodes (names_of c.use_up-on_child.new.paths)) c.use_up-on_data.ensures.paths
    ∙ ap (λ parents. watches_of (used_up c.concerns.result (names_of c.args.self.now.«data») c.args.path.now) parents)
    c.use_up-on_child.ensures.paths
    ∙ ap (λ b. watches_of (used_up b (names_of c.args.self.now.«data») c.args.path.now)
    (used_up c.concerns-2.result (names_of c.args.self.now.child) c.args.path.now)) c.concerns.ensures
    ∙ ap (λ b. watches_of (used_up (concerns c.args.event Data) (names_of c.args.self.now.«data») c.args.path.now)
    (used_up b (names_of c.args.self.now.child) c.args.path.now)) c.concerns-2.ensures
    ∙ used_watches c.args.event c.args.path.now (names_of c.args.self.now.«data») (names_of c.args.self.now.child) h

pub returns-clause-told : goal.returns-clause-told
returns-clause-told g c = λ h.
    ap (λ b. b || c.use_up-on_child.result) c.use_up-on_data.ensures.there
    ∙ ap (λ b. (c.concerns.result && set.contains (names_of c.args.self.now.«data») c.args.path.now) || b) c.use_up-on_child.ensures.there
    ∙ ap (λ b. (b && set.contains (names_of c.args.self.now.«data») c.args.path.now)
    || (c.concerns-2.result && set.contains (names_of c.args.self.now.child) c.args.path.now)) c.concerns.ensures
    ∙ ap (λ b. (concerns c.args.event Data && set.contains (names_of c.args.self.now.«data») c.args.path.now)
    || (b && set.contains (names_of c.args.self.now.child) c.args.path.now)) c.concerns-2.ensures
    ∙ was_watched c.args.event c.args.path.now (names_of c.args.self.now.«data») (names_of c.args.self.now.child) h
