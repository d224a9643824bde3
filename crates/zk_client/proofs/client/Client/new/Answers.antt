-- A new client is sound (`begins`), shows the first view of its start (`begins-view`), and stands there by `first_view`.
use Rattle.std.proofs.Common.{◌≡◌, [], subst, sym, arith, w32}
use mir.Val.{to_z, of_z}
use Rattle.std.proofs.lemmas.Int.{ints}
use Rattle.std.specs.Prelude.{unsigned_abs}
use Rattle.zk_turns.specs.Taken.{longest}
use Rattle.zk_turns.specs.Turns.{new_start}
use Rattle.zk_turns.specs.View.{View}
use Rattle.zk_turns.specs.Rule.{Stands}
use Rattle.zk_client.proofs.Whole.{begins-view, begins}
use Rattle.zk_client.proofs.client.Client.new.Goals as goal

pub invariant_of-result : goal.invariant_of-result
invariant_of-result g c =
    let timeout : to_z w32 (of_z w32 c.args.timeout_ms) ≡ c.args.timeout_ms = omega (arith, ints) in
    let begun = begins (new_start (unsigned_abs c.args.timeout_ms)) (longest c.standard.result c.new.result.state) c.new.result
    c.new-2.result c.new-3.result c.new-5.result (omega arith)
    (rw timeout at c.new.ensures) c.new-2.ensures c.new-3.ensures c.new-5.ensures in
    record { sound = λ e. begun.0; short = begun.0.short; reading = λ e. begun.1 }

pub returns-clause-view : goal.returns-clause-view
returns-clause-view g c =
    let timeout : to_z w32 (of_z w32 c.args.timeout_ms) ≡ c.args.timeout_ms = omega (arith, ints) in
    begins-view (new_start (unsigned_abs c.args.timeout_ms)) c.new.result c.new-2.result c.new-3.result c.new-4.result c.new-5.result
    (rw timeout at c.new.ensures) c.new-2.ensures c.new-3.ensures c.new-4.ensures c.new-5.ensures
    c.standard.ensures

pub returns-clause-stands : goal.returns-clause-stands
returns-clause-stands g c =
    let start = new_start (unsigned_abs c.args.timeout_ms) in
    subst (λ (v : View). Stands start [] v) (sym (returns-clause-view g c)) (c.first_view.ensures start)
