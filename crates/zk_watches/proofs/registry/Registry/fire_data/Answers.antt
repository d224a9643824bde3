-- The lists stay sound without the path on side Data, by `sound-data_fired`. A path found in the data list is not in the exist list, so
-- that one is the same without it: `exist-same`.
use Rattle.std.proofs.Common.{◌≡◌, ℕ, List, Bool, true, ◌||◌, Option, Some, None, if◌then◌else◌, string_bytes, ap, sym, ◌∙◌}
use Rattle.zk_nodes.specs.declared.side.Side.TheVariants.{Data}
use Rattle.zk_watches.specs.Lists.{has, without, side_has}
use Rattle.zk_watches.proofs.SoundLemmas.{was_there, exist-same, sound-data_fired}
use Rattle.zk_watches.proofs.registry.Registry.fire_data.Given.{Over}
use Rattle.zk_watches.proofs.registry.Registry.fire_data.Goals.{In-Some}
use Rattle.zk_watches.proofs.registry.Registry.fire_data.Goals as goal

in_data : (g : Over) (c : In-Some g) → has c.self.inside.data_watches c.args.path.now ≡ true
in_data g c = was_there string_bytes c.take_out.result c.in-Some.text _ c.args.path.now c.take_out.ensures.found c.in-Some.is

pub invariant_of-self : goal.invariant_of-self
invariant_of-self g c =
    let same = exist-same _ c.args.path.now c.self.invariant (in_data g c) in
    rw (c.take_out.ensures.rest, sym same) (sound-data_fired _ c.args.path.now c.self.invariant)

pub returns-in-Some-clause-lists : goal.returns-in-Some-clause-lists
returns-in-Some-clause-lists g c =
    let same = exist-same _ c.args.path.now c.self.invariant (in_data g c) in
    (λ i. record { data_watches = c.take_out.ensures.rest i; exist_watches = sym same i; child_watches = c.self.inside.child_watches })
    ∙ (λ i. record {
      data_watches = without (c.self.view_is i).data_watches c.args.path.now;
      exist_watches = without (c.self.view_is i).exist_watches c.args.path.now;
      child_watches = (c.self.view_is i).child_watches;
    })

abbrev told : Bool → List ℕ → Option (List ℕ)
told there text = if there then Some text else None

pub returns-in-Some-clause-was : goal.returns-in-Some-clause-was
returns-in-Some-clause-was g c =
    let there = in_data g c in
    c.in-Some.ensures.found
    ∙ ap (λ b. told b c.args.path.now) (there ∙ sym (ap (λ b. b || has c.self.inside.exist_watches c.args.path.now) there))
    ∙ ap (λ lists. told (side_has lists Data c.args.path.now) c.args.path.now) c.self.view_is

pub invariant_of-self-2 : goal.invariant_of-self-2
invariant_of-self-2 g c = rw (c.take_out.ensures.rest, c.take_out-2.ensures.rest) (sound-data_fired _ _ c.self.invariant)
