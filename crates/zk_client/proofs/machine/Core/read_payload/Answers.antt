-- What was read may arrive at a sound core (`comes`), and it is what happens by the payload (`arrives`). So what `arrive` ensures, or
-- `give_up` where the payload is bad, is the effect of the payload, with `before-it` for the view before.
use Rattle.std.proofs.Common.{◌++◌, ap, sym, ◌∙◌, Ok, Err, arith}
use Rattle.std.proofs.lemmas.Result.{on_ok_weaker}
use Rattle.zk_jute.specs.Spelling.{IsBytes}
use Rattle.zk_conversation.specs.Pending.{Talk}
use Rattle.zk_conversation.specs.Views.{arrival_view}
use Rattle.zk_turns.specs.Turns.{Talked}
use Rattle.zk_turns.specs.Past.{Happening, Dropped}
use Rattle.zk_turns.specs.Taken.{taken_of}
use Rattle.zk_turns.specs.View.{View}
use Rattle.zk_turns.specs.Rule.{next, says}
use Rattle.zk_client.specs.Views.{said}
use Rattle.zk_client.specs.inner.Seen.{shown, view_with}
use Rattle.zk_client.specs.inner.Sound.{IsLeft}
use Rattle.zk_client.proofs.Came.{comes, arrives, before-it}
use Rattle.zk_client.proofs.machine.Core.read_payload.Goals as goal

pub arrive-requires : goal.arrive-requires
arrive-requires g c =
    let core = c.args.self.now in
    let are : IsBytes c.args.payload.now = λ i. omega (arith, c.type_inv.payload i) in
    let all = comes core.limits (arrival_view c.in-Ok.arrival) core.session core.conversation core.registry c.args.payload.now
    c.requires.sound
    c.requires.up are c.requires.admitted c.in-Ok.ensures.answers.0 in
    rw c.in-Ok.ensures.answers.1 all.has

pub returns-in-Ok-clause-next : goal.returns-in-Ok-clause-next
returns-in-Ok-clause-next g c = on_ok_weaker c.arrive.result (λ told. λ held.
    let core = c.args.self.now in
    let are : IsBytes c.args.payload.now = λ i. omega (arith, c.type_inv.payload i) in
    let arrived = arrival_view c.in-Ok.arrival in
    let all = comes core.limits arrived core.session core.conversation core.registry c.args.payload.now c.requires.sound c.requires.up are
    c.requires.admitted c.in-Ok.ensures.answers.0 in
    let left : IsLeft arrived core.conversation.pending c.arrived.new.self.pending = rw c.in-Ok.ensures.answers.1 all.left in
    told held core.conversation.pending left
    ∙ ap (λ (v : View). next v (taken_of core.session.saved.last arrived))
    (before-it {limits = core.limits} held core.halted core.session core.conversation
    c.arrived.new.self core.registry core.cache arrived c.in-Ok.ensures.answers.1)
    ∙ ap (next (view_with held core)) (sym (arrives core.limits held core.halted core.session core.conversation core.registry core.cache
    c.args.payload.now (Ok arrived) c.requires.sound c.in-Ok.ensures.answers.0))) c.arrive.ensures.next

pub returns-in-Ok-clause-says : goal.returns-in-Ok-clause-says
returns-in-Ok-clause-says g c = on_ok_weaker c.arrive.result (λ told. λ held.
    let core = c.args.self.now in
    let are : IsBytes c.args.payload.now = λ i. omega (arith, c.type_inv.payload i) in
    let arrived = arrival_view c.in-Ok.arrival in
    let before = said c.args.outputs.now.items in
    let all = comes core.limits arrived core.session core.conversation core.registry c.args.payload.now c.requires.sound c.requires.up are
    c.requires.admitted c.in-Ok.ensures.answers.0 in
    let left : IsLeft arrived core.conversation.pending c.arrived.new.self.pending = rw c.in-Ok.ensures.answers.1 all.left in
    told held core.conversation.pending left
    ∙ ap (λ (v : View). before ++ says v (taken_of core.session.saved.last arrived))
    (before-it {limits = core.limits} held core.halted core.session
    core.conversation c.arrived.new.self core.registry core.cache arrived c.in-Ok.ensures.answers.1)
    ∙ ap (λ (h : Happening). before ++ says (view_with held core) h)
    (sym (arrives core.limits held core.halted core.session core.conversation
    core.registry core.cache c.args.payload.now (Ok arrived) c.requires.sound c.in-Ok.ensures.answers.0))) c.arrive.ensures.says

pub returns-else-is_memory-clause-next : goal.returns-else-is_memory-clause-next
returns-else-is_memory-clause-next g c = on_ok_weaker c.give_up.result (λ told. λ held.
    let core = c.args.self.now in
    let fault = c.in-Err.fault in
    let read = c.in-Err.ensures.answers.0 (c.is_memory.ensures c.if-is_memory.false) in
    told held
    ∙ ap (λ (t : Talk). next (shown core.limits held core.halted core.session t core.registry core.cache) (Dropped (Talked fault)))
    c.in-Err.ensures.answers.1
    ∙ ap (next (view_with held core)) (sym (arrives core.limits held core.halted core.session core.conversation core.registry core.cache
    c.args.payload.now (Err fault) c.requires.sound read))) c.give_up.ensures.next

pub returns-else-is_memory-clause-says : goal.returns-else-is_memory-clause-says
returns-else-is_memory-clause-says g c = on_ok_weaker c.give_up.result (λ told. λ held.
    let core = c.args.self.now in
    let fault = c.in-Err.fault in
    let before = said c.args.outputs.now.items in
    let read = c.in-Err.ensures.answers.0 (c.is_memory.ensures c.if-is_memory.false) in
    told held
    ∙ ap (λ (t : Talk). before ++ says (shown core.limits held core.halted core.session t core.registry core.cache)
    (Dropped (Talked fault)))
    c.in-Err.ensures.answers.1
    ∙ ap (λ (h : Happening). before ++ says (view_with held core) h)
    (sym (arrives core.limits held core.halted core.session core.conversation
    core.registry core.cache c.args.payload.now (Err fault) c.requires.sound read))) c.give_up.ensures.says
