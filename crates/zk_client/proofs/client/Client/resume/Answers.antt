-- A resumed client is sound (`begins`), shows the first view of the saved session (`begins-view`), and stands there by `first_view`.
use Rattle.std.proofs.Common.{◌≡◌, [], subst, sym, arith, w32}
use mir.Val.{to_z, of_z}
use Rattle.std.proofs.lemmas.Int.{ints}
use Rattle.zk_turns.specs.Taken.{longest}
use Rattle.zk_turns.specs.View.{View}
use Rattle.zk_turns.specs.Rule.{Stands}
use Rattle.zk_client.specs.Clients.{saved_start}
use Rattle.zk_client.proofs.Whole.{begins-view, begins}
use Rattle.zk_client.proofs.client.Client.resume.Goals as goal

pub invariant_of-result : goal.invariant_of-result
invariant_of-result g c =
    let timeout : to_z w32 (of_z w32 c.args.timeout_ms) ≡ c.args.timeout_ms = omega (arith, ints) in
    let begun = begins (saved_start c.args.timeout_ms c.args.saved.now) (longest c.standard.result c.in_ok-resume.field-0.state)
    c.in_ok-resume.field-0 c.new.result c.new-2.result c.new-4.result
    c.requires.password (rw timeout at c.in_ok-resume.ensures) c.new.ensures c.new-2.ensures c.new-4.ensures in
    record { sound = λ e. begun.0; short = begun.0.short; reading = λ e. begun.1 }

pub returns-clause-view : goal.returns-clause-view
returns-clause-view g c =
    let timeout : to_z w32 (of_z w32 c.args.timeout_ms) ≡ c.args.timeout_ms = omega (arith, ints) in
    begins-view (saved_start c.args.timeout_ms c.args.saved.now) c.in_ok-resume.field-0 c.new.result c.new-2.result c.new-3.result
    c.new-4.result (rw timeout at c.in_ok-resume.ensures) c.new.ensures c.new-2.ensures c.new-3.ensures c.new-4.ensures
    c.standard.ensures

pub returns-clause-stands : goal.returns-clause-stands
returns-clause-stands g c =
    let start = saved_start c.args.timeout_ms c.args.saved.now in
    subst (λ (v : View). Stands start [] v) (sym (returns-clause-view g c)) (c.first_view.ensures start)
