-- The turn is by the rule, and `deliver` adds what is given: `on_ok` for what is heard, `lost_turn` without memory, `delivered` for bytes.
use Rattle.std.proofs.Common.{◌≡◌, ◌++◌, ap, refl, subst, sym}
use Rattle.std.specs.List.{filter}
use Rattle.zk_turns.specs.Turns.{Turn}
use Rattle.zk_turns.specs.Rule.{Rule}
use Rattle.zk_client.specs.Clients.{view_of}
use Rattle.zk_client.specs.Views.{input_view, said, turn_of}
use Rattle.script_words.specs.declared.stop.LineStop.{LineStop}
use Rattle.script_words.specs.declared.stop.LineStop.TheVariants.{Memory}
use Rattle.script_live.specs.Trails.{is_given, trail_of, Fails, Hears, IsLoud}
use Rattle.script_live.proofs.TrailLemmas.{if_err, lost_turn, on_ok}
use Rattle.script_live.specs.Flowing.{flow_of}
use Rattle.script_live.proofs.Flowed.{delivered}
use Rattle.script_live.proofs.joint.Joint.step.Goals as goal

pub returns-clause-ok : goal.returns-clause-ok
returns-clause-ok g c =
    let old = (trail_of c.args.self.now c.args.outputs.now.items) in
    let new = (trail_of c.deliver.new.self c.deliver.new.outputs.items) in
    let made = said c.in-Ok.made.items in
    let rule : Rule old.view (record { input = input_view c.args.input; outputs = made }) new.view =
    rw c.deliver.ensures.client c.in-Ok.ensures.rule in
    on_ok (new.given ≡ old.given ++ filter is_given made) (Hears old (input_view c.args.input) new) c.deliver.result
    (λ (given : new.given ≡ old.given ++ filter is_given made).
    record { outputs = made; rule = rule; is_open = c.deliver.ensures.stream; given = given }) c.deliver.ensures.given

pub returns-clause-err : goal.returns-clause-err
returns-clause-err g c =
    let old = (trail_of c.args.self.now c.args.outputs.now.items) in
    let new = (trail_of c.deliver.new.self c.deliver.new.outputs.items) in
    let turn : Turn = turn_of c.args.input c.in-Ok.made.items in
    let rule : Rule old.view turn new.view = rw c.deliver.ensures.client c.in-Ok.ensures.rule in
    if_err (λ stop. (stop ≡ Memory) × (c.deliver.new.outputs.items ≡ c.args.outputs.now.items))
    (λ stop. Fails stop old new) c.deliver.result
    (λ (stop : LineStop) (h : (stop ≡ Memory) × (c.deliver.new.outputs.items ≡ c.args.outputs.now.items)).
    lost_turn stop old new turn h.0 rule (ap said h.1)) c.deliver.ensures.err

pub returns-clause-loud : goal.returns-clause-loud
returns-clause-loud g c =
    let view = view_of c.args.self.now.client in
    let input = input_view c.args.input in
    if_err (λ stop. (stop ≡ Memory) × (c.deliver.new.outputs.items ≡ c.args.outputs.now.items))
    (λ stop. IsLoud stop view input) c.deliver.result
    (λ (stop : LineStop) (h : (stop ≡ Memory) × (c.deliver.new.outputs.items ≡ c.args.outputs.now.items)).
    subst (λ (s : LineStop). IsLoud s view input) (sym h.0) tt)
    c.deliver.ensures.err

pub returns-clause-flows : goal.returns-clause-flows
returns-clause-flows g c =
    let know = flow_of g.S.Read.remaining g.S.Write.contents in
    let old = know c.args.self.now in
    let new = know c.deliver.new.self in
    let made = said c.in-Ok.made.items in
    let rule : Rule old.view (record { input = input_view c.args.input; outputs = made }) new.view =
    rw c.deliver.ensures.client c.in-Ok.ensures.rule in
    delivered c.deliver.result (input_view c.args.input) (said c.args.outputs.now.items)
    (said c.deliver.new.outputs.items) made old new rule c.deliver.ensures.stream refl
    c.deliver.ensures.given c.deliver.ensures.sends
