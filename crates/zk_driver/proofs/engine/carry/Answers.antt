-- An action that is no dial, hang-up or send leaves the channel alone (`left_alone`) and waits for the program (`passed_on`).
use Rattle.std.proofs.Common.{◌≡◌, ◌++◌, ◌∷◌, [], sym, ap, ◌∙◌}
use Rattle.std.specs.List.{filter}
use Rattle.zk_agent.specs.Telling.{action_view, told_by}
use Rattle.zk_driver.specs.Driving.{carried, channel_view, is_passed}
use Rattle.zk_driver.proofs.Carrying.{always, left_alone, on_ok, passed_on}
use Rattle.zk_driver.proofs.engine.carry.Goals as goal

pub returns-in_default-clause-channel : goal.returns-in_default-clause-channel
returns-in_default-clause-channel g c =
    let channel = channel_view c.args.channel.now in
    always (channel ≡ carried channel (action_view c.args.action)) c.keep.result
    (sym (left_alone c.args.action c.in_default.not-Dial c.in_default.not-HangUp c.in_default.not-Send channel))

pub returns-in_default-clause-waiting : goal.returns-in_default-clause-waiting
returns-in_default-clause-waiting g c =
    let before = told_by c.args.waiting.now.items in
    let now = told_by c.keep.new.waiting.items in
    on_ok (now ≡ before ++ action_view c.args.action ∷ []) (now ≡ before ++ filter is_passed (action_view c.args.action ∷ [])) c.keep.result
    (λ (kept : now ≡ before ++ action_view c.args.action ∷ []).
    kept ∙ ap (λ told. before ++ told) (passed_on c.args.action c.in_default.not-Dial c.in_default.not-HangUp c.in_default.not-Send))
    c.keep.ensures.waiting
