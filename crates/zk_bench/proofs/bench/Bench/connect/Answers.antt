-- On a new connection nothing is watched, as both sets of paths are empty, so the bench stays ready.
-- That the server is one of the eight is arithmetic.
use Rattle.std.proofs.Common.{◌≡◌, ◌<◌, ◌-◌, Bool, true, false, ◌&&◌, [], length, ap, subst, ◌∙◌, refl, arith}
use Rattle.std.specs.FinSet as set
use mathlib.Core.Path.{fun_ext}
use Rattle.std.specs.Cmp.Lexicographic.{slice_cmp}
use Rattle.std.specs.Ordering.{nat_cmp}
use Rattle.zk_nodes.specs.Path.{NodePath, text_of}
use Rattle.zk_nodes.specs.declared.side.Side.{Side}
use Rattle.zk_nodes.specs.declared.side.Side.TheVariants as sides
use Rattle.zk_laws.specs.Server.{no_watches}
use Rattle.zk_bench.specs.declared.phase.Phase.TheVariants.{Opening}
use Rattle.zk_bench.specs.Linked.{linked_of}
use Rattle.zk_bench.specs.Served.{Served, linked}
use Rattle.zk_bench.specs.Serving.{is_named, watches_of}
use Rattle.zk_bench.specs.Stepping.{IsReady, shown_watches}
use Rattle.zk_bench.proofs.Fields.{bench_of}
use Rattle.zk_bench.proofs.bench.Bench.connect.Goals as goal

none : (b c : Bool) → c ≡ false → (b && c) ≡ false
none true c e = e
none false c e = refl

nothing : (side : Side) (path : NodePath) → watches_of (set.from_list []) (set.from_list []) side path ≡ no_watches side path
nothing sides.Data path = none (is_named path) _ (set.contains-empty (slice_cmp nat_cmp) (text_of path))
nothing sides.Child path = none (is_named path) _ (set.contains-empty (slice_cmp nat_cmp) (text_of path))

nothing_watched : shown_watches (linked Opening) ≡ no_watches
nothing_watched = fun_ext (λ side. fun_ext (λ path. nothing side path))

pub returns-clause-ready : goal.returns-clause-ready
returns-clause-ready g c =
    let b = bench_of c.self.inside in
    let there : c.args.n - 1 < length b.taken = omega arith in
    subst (λ (old : Served). IsReady old → IsReady (record b { server = c.args.n - 1; connection = linked_of c.new.result })) c.self.view_is
    (λ ready. record { taken = ready.taken; there = there; unwatched = λ e. ap shown_watches c.new.ensures ∙ nothing_watched })
