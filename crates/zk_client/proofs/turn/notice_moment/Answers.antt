-- After the moment comes what is due, a ping or a drop: `tick-view` and `tick-says`, from what `ping` and `give_up` ensure.
use Rattle.std.proofs.Common.{ℕ, [], ap, sym, subst, ◌∙◌}
use Rattle.std.proofs.lemmas.Result.{on_ok_weaker}
use Rattle.zk_frames.specs.Held.{Held}
use Rattle.zk_session.specs.declared.states.Due.TheVariants.{Ping, Silent as Is_silent}
use Rattle.zk_turns.specs.Turns.{Silent}
use Rattle.zk_turns.specs.Past.{Pinged, Dropped}
use Rattle.zk_client.specs.Views.{said}
use Rattle.zk_client.specs.Sound.{IsReading}
use Rattle.zk_session.specs.SessionView.{SessionView}
use Rattle.zk_turns.specs.Taken.{longest, longest_of}
use Rattle.zk_client.specs.inner.Seen.{view_with}
use Rattle.zk_client.proofs.Turning.{one-says, tick-view, tick-says}
use Rattle.zk_client.proofs.turn.notice_moment.Goals as goal

pub returns-in-Ping-clause-next : goal.returns-in-Ping-clause-next
returns-in-Ping-clause-next g c =
    let core = c.args.core.now in
    on_ok_weaker c.ping.result
    (λ told. tick-view core.limits c.args.reader.now.bytes core.halted core.session c.moment.new.self core.conversation
    core.registry core.cache c.args.moment c.moment.result Ping c.requires.goes_on c.moment.ensures.tells c.moment.ensures.due
    c.in-Ping.is _ (told c.args.reader.now.bytes)) c.ping.ensures.next

pub returns-in-Ping-clause-says : goal.returns-in-Ping-clause-says
returns-in-Ping-clause-says g c =
    let core = c.args.core.now in
    let outs = said c.args.outputs.now.items in
    on_ok_weaker c.ping.result
    (λ told. tick-says core.limits c.args.reader.now.bytes core.halted core.session c.moment.new.self core.conversation core.registry
    core.cache
    c.args.moment c.moment.result Ping c.requires.goes_on c.moment.ensures.tells c.moment.ensures.due c.in-Ping.is outs _
    (one-says (view_with c.args.reader.now.bytes (record core { session = c.moment.new.self })) outs _ Pinged
    (told c.args.reader.now.bytes))) c.ping.ensures.says

-- neither a moment nor a ping changes the state, nor how long a payload may be
pub returns-in-Ping-clause-reading : goal.returns-in-Ping-clause-reading
returns-in-Ping-clause-reading g c =
    let core = c.args.core.now in
    on_ok_weaker c.ping.result (λ told. subst (λ (most : ℕ). IsReading most c.args.reader.now) (sym (ap longest_of (told [])
    ∙ ap (λ (k : SessionView). longest core.limits k.state) c.moment.ensures.tells)) c.requires.reading) c.ping.ensures.next

pub returns-in-Silent-clause-next : goal.returns-in-Silent-clause-next
returns-in-Silent-clause-next g c =
    let core = c.args.core.now in
    on_ok_weaker c.give_up.result
    (λ told. tick-view core.limits c.args.reader.now.bytes core.halted core.session c.moment.new.self core.conversation core.registry
    core.cache
    c.args.moment c.moment.result Is_silent c.requires.goes_on c.moment.ensures.tells c.moment.ensures.due c.in-Silent.is _
    (ap (λ (h : Held). view_with h.bytes c.give_up.new.self) c.reset.ensures ∙ told c.args.reader.now.bytes)) c.give_up.ensures.next

pub returns-in-Silent-clause-says : goal.returns-in-Silent-clause-says
returns-in-Silent-clause-says g c =
    let core = c.args.core.now in
    let outs = said c.args.outputs.now.items in
    on_ok_weaker c.give_up.result
    (λ told. tick-says core.limits c.args.reader.now.bytes core.halted core.session c.moment.new.self core.conversation core.registry
    core.cache
    c.args.moment c.moment.result Is_silent c.requires.goes_on c.moment.ensures.tells c.moment.ensures.due c.in-Silent.is outs _
    (one-says (view_with c.args.reader.now.bytes (record core { session = c.moment.new.self })) outs _ (Dropped Silent)
    (told c.args.reader.now.bytes))) c.give_up.ensures.says
